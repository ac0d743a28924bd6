-- A factor by its number.
use Rattle.std.proofs.Common.{ℕ, zero, suc, ◌≡◌, ◌<◌, ◌≤◌, refl, sym, ap, ◌∙◌, List, [], ◌∷◌, length, get_or, Option, Some, None, option_map}
use Rattle.std.proofs.Common.{MatchOption, Bor, arith}
use Rattle.std.specs.Prelude.{IfSome}
use Rattle.prob_expr.specs.declared.expr.Expr.{Expr}
use Rattle.prob_expr.specs.Vocabulary.{views}
use Rattle.prob_expr.specs.View.{view}
use Rattle.do_derivation.specs.Vocabulary.{factor_at}
use Rattle.do_derivation.proofs.Lists.{factor_some}

no_factor : (es : List Expr) (i : ℕ) → length es ≤ i → factor_at (views es) i ≡ None
no_factor [] i h = refl
no_factor (e ∷ es) zero h = absurd (omega (arith, h))
no_factor (e ∷ es) (suc i) h = no_factor es i (omega (arith, h))

-- what is found at a number is that factor
pub factor_found : (es : List Expr) (i : ℕ) (r : Option (Bor Expr)) (P : Bor Expr → Type 0) → IfSome r (λ x. x.now ≡ get_or es i x.now)
    → MatchOption r (length es ≤ i) (λ x. (i < length es) × P x)
    → option_map (λ (x : Bor Expr). view x.now) r ≡ factor_at (views es) i
factor_found es i None P at is = sym (no_factor es i is)
factor_found es i (Some x) P at is = ap (λ (e : Expr). Some (view e)) at ∙ sym (factor_some es i x.now is.0)
