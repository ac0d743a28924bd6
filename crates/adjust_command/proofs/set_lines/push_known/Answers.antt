use Rattle.std.proofs.Common.{◌++◌, sym, ap, ◌∙◌}
use Rattle.mixed_graph.specs.Vocabulary.{has}
use Rattle.adjust_command.proofs.NameLists.{known_name}
use Rattle.adjust_command.proofs.set_lines.push_known.Goals as goal

pub returns-then-has : goal.returns-then-has
returns-then-has c = let known = c.args.known.now in c.in_ok-extend_from_slice.ensures.items ∙ ap (λ t. c.args.out.now.items ++ t)
    (known_name known.names.now (has known.bare.bits) c.args.v c.name.result.now c.name.ensures known.are_bare (sym c.if-has.ensures))
