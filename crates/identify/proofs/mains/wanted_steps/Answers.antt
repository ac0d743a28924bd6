use Rattle.std.proofs.Common.{sym, ap, ◌∙◌}
use Rattle.prob_expr.specs.Vocabulary.{views}
use Rattle.identification_theory.specs.Vocabulary.{main_steps}
use Rattle.identify.proofs.mains.wanted_steps.Goals as goal

pub returns-in-Formula : goal.returns-in-Formula
returns-in-Formula c = λ w. absurd (let e = c.in-Formula.is in cc)

pub returns-in_ok-steps-in-Derivation : goal.returns-in_ok-steps-in-Derivation
returns-in_ok-steps-in-Derivation c = λ w. c.in_ok-steps-in-Derivation.ensures ∙ ap (main_steps c.args.n c.args.x.bits c.args.y.bits c.args.d.bits)
    (c.in_ok-rest-in-Derivation.ensures (views c.args.values.now.items) (sym c.has_product.ensures))
