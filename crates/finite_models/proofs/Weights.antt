-- The weights at the ends: no event, no intervention.
use Rattle.std.proofs.Common.{ℕ, ◌≡◌, Bool, true, false, cond, not, refl, ap, ◌∙◌, ◌&&◌}
use mathlib.Core.Path.{fun_ext}
use Rattle.finite_models.specs.Models.{FiniteModel, intervene, solution, agree, event_weight, weight_of, world_weight, total}
use Rattle.finite_models.proofs.Solutions.{agree_from}
use Rattle.finite_models.proofs.Bools.{not_both}
use Rattle.finite_models.proofs.SumLaws.{over-congr}

-- every world agrees on no vertex
pub weight-none : (m : FiniteModel) (a : ℕ → Bool) (s : ℕ → ℕ) → ((v : ℕ) → a v ≡ false) → event_weight m a s ≡ total m
weight-none m a s none =
    over-congr (λ j. true) m.values m.causes (λ u. cond (agree m.vertices a (solution m u) s) (world_weight m u) 0) (world_weight m) (λ j. 0)
    (λ u. let e = agree_from m.vertices a (solution m u) s (λ v il i. absurd (not_both (a v) i (none v))) in rw e refl)

unserved : (m : FiniteModel) (b : ℕ → Bool) (s : ℕ → ℕ) → ((v : ℕ) → b v ≡ false) → intervene m b s ≡ m
unserved m b s none =
    ap (λ (f : ℕ → ℕ → Bool). let h : FiniteModel = record m { serves = f; mechanism = λ v t u. cond (b v) (s v) (m.mechanism v t u) } in h)
    (fun_ext (λ j. fun_ext (λ v. kept (m.serves j v) (b v) (none v))))
    ∙ ap (λ (f : ℕ → (ℕ → ℕ) → (ℕ → ℕ) → ℕ). let h : FiniteModel = record m { mechanism = f } in h)
    (fun_ext (λ v. fun_ext (λ t. fun_ext (λ u. let e = none v in rw e refl))))
  where
    kept : (p q : Bool) → q ≡ false → (p && not q) ≡ p
    kept true q e = rw e refl
    kept false q e = refl

-- the intervention on no vertex leaves the model
pub weight_of-none : (m : FiniteModel) (b a : ℕ → Bool) (s : ℕ → ℕ) → ((v : ℕ) → b v ≡ false) → weight_of m b a s ≡ event_weight m a s
weight_of-none m b a s none = ap (λ h. event_weight h a s) (unserved m b s none)
