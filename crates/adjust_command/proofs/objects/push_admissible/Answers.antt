use Rattle.std.proofs.Common.{◌∙◌, codes, ap}
use Rattle.prob_expr.specs.Vocabulary.{PlainFormula, effect_on}
use Rattle.adjustment.specs.Vocabulary.{adjustment_formula}
use Rattle.answer_json.specs.Vocabulary.{with_member, with_members, set_json}
use Rattle.effect_answers.specs.Vocabulary.{formula_members}
use Rattle.adjust_command.proofs.objects.push_admissible.Goals as goal

pub returns : goal.returns
returns c =
    let names = c.args.names.now in let x = c.args.sets.x.bits in let y = c.args.sets.y.bits in let z = c.args.sets.given.bits in
    c.in_ok-push_formula.ensures
    ∙ ap (λ (f : PlainFormula). with_members (formula_members names (effect_on x y) f) c.set_at.new.self) c.in_ok-formula.ensures
    ∙ ap (with_members (formula_members names (effect_on x y) (adjustment_formula x y z)))
    (c.in_ok-set_at.ensures ∙ ap (with_member (codes "set") (set_json names z)) c.in_ok-push_begun.ensures)
