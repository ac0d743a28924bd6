use Rattle.std.proofs.Common.{◌≡◌, ◌∙◌, Bool, true, false, sym, refl}
use Rattle.std.specs.Bool.{OnTrue, OnFalse}
use Rattle.prob_expr.specs.Vocabulary.{formula_view}
use Rattle.count_eval.specs.Answers.{IsEvaluable}
use Rattle.count_eval.proofs.Uses.{evaluable, not_low, not_only, no_error}
use Rattle.count_eval.proofs.evaluable.is_evaluable.Goals as goal

pub returns-then-not-is_below-clause-no : goal.returns-then-not-is_below-clause-no
returns-then-not-is_below-clause-no c = not_low c.args.n c.args.c.now (formula_view c.args.f.now)
    c.used-used.result.bits c.used-used.ensures.table c.used-used.ensures.members
    c.used-used.ensures.fits (sym c.is_below.ensures ∙ c.if-not-is_below.true)

pub returns-clause-no : goal.returns-clause-no
returns-clause-no c = go c.formula_uses_only.result refl
  where
    go : (b : Bool) → c.formula_uses_only.result ≡ b → OnFalse b (IsEvaluable c.args.n c.args.c.now (formula_view c.args.f.now) → ⊥)
    go true e = tt
    go false e = not_only c.args.n c.args.c.now (formula_view c.args.f.now)
        c.used-used.result.bits c.used-used.ensures.table c.used-used.ensures.members c.used-used.ensures.fits
        (sym c.formula_uses_only.ensures ∙ e)

pub returns-clause-yes : goal.returns-clause-yes
returns-clause-yes c = go c.formula_uses_only.result refl
  where
    go : (b : Bool) → c.formula_uses_only.result ≡ b → OnTrue b (IsEvaluable c.args.n c.args.c.now (formula_view c.args.f.now))
    go true e = evaluable c.args.n c.args.c.now (formula_view c.args.f.now)
        c.used-used.result.bits c.used-used.ensures.table c.used-used.ensures.members c.used-used.ensures.fits
        c.if-n-gt64.false (sym c.is_below.ensures ∙ c.if-not-is_below.false)
        (sym c.check.ensures ∙ no_error c.check.result (sym c.is_err.ensures.value ∙ c.if-is_err.false))
        (sym c.is_do_free.ensures ∙ c.if-not-is_do_free.false) (sym c.formula_uses_only.ensures ∙ e)
    go false e = tt
