use Rattle.std.proofs.Common.{ap}
use Rattle.mixed_graph.specs.Vocabulary.{has}
use Rattle.do_rules.specs.Vocabulary.{left_of, right_of}
use Rattle.separation_commands.specs.RuleLines.{side_text, side_of}
use Rattle.separation_commands.proofs.Equations.{equation_in}
use Rattle.separation_commands.proofs.rule.parts.push_equation.Goals as goal

pub returns : goal.returns
returns c =
    let names = c.args.names.now in let r = c.args.rule in
    let x = has c.args.sets.x.bits in let y = has c.args.sets.y.bits in let z = has c.args.sets.z.bits in let w = has c.args.sets.given.bits in
    equation_in c.args.out.now.items (side_text names (side_of c.left_of.result)) (side_text names (side_of c.right_of.result))
    (side_text names (left_of r x y z w)) (side_text names (right_of r x y z w))
    (ap (side_text names) c.left_of.ensures) (ap (side_text names) c.right_of.ensures)
    c.in_ok-push_side.ensures c.in_ok-extend_from_slice.ensures.items c.in_ok-push_side-2.ensures
