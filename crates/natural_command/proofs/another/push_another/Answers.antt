use Rattle.std.proofs.Common.{◌≡◌, ◌++◌, codes, Option, refl, sym, subst}
use Rattle.interventional_id.specs.declared.answer.Interventional.{Interventional}
use Rattle.natural_command.specs.Another.{equation_text, both_lines, another_lines}
use Rattle.natural_command.proofs.Pieces.{five}
use Rattle.natural_command.proofs.another.push_another.Goals as goal

pub returns : goal.returns
returns c =
    let names = c.args.names.now in let a = c.args.asked in let i = c.in-Some.i in let old = c.args.out.now.items in
    subst (λ (o : Option Interventional). c.push_both_lines.new.out.items ≡ old ++ another_lines names a o) (sym c.in-Some.is)
    (five old (codes "another effect, the interventional one: ") (equation_text names a i) (codes "\n") (both_lines names a i) refl
    c.in_ok-extend_from_slice.ensures.items c.in_ok-push_equation.ensures c.in_ok-extend_from_slice-2.ensures.items c.in_ok-push_both_lines.ensures)
