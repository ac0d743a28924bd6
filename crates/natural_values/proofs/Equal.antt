-- The factors have the value of the formula.
use Rattle.std.proofs.Common.{ℕ, zero, suc, ◌≡◌, ◌<◌, Bool, true, false, cond, refl, sym, ap, ap₂, ◌∙◌, List, [], ◌∷◌, All, map}
use Rattle.std.proofs.lemmas.List.Elements.{All-head, All-tail}
use Rattle.std.proofs.lemmas.Bool.{false≢true}
use mathlib.Core.Path.{fun_ext}
use Rattle.mixed_graph.specs.Vocabulary.{has}
use Rattle.fractions.specs.Vocabulary.{Fraction, mul, div, add_below}
use Rattle.finite_models.specs.Vocabulary.{FiniteModel, set_at}
use Rattle.finite_models.proofs.SumLaws.{set_at-other}
use Rattle.prob_expr.specs.Vocabulary.{weights_of, value_of, add_over}
use Rattle.natural_id.specs.Vocabulary.{PlainPart, parts_value}
use Rattle.factor_values.specs.Vocabulary.{factors_product, read_at, chance_of}
use Rattle.natural_values.specs.Factors.{factor_of_part, ReadsInside, FactorsEqualNatural}

-- ---- sums of terms that are equal at the points with P
module _ (u : ℕ → Bool) (s : ℕ → ℕ) (P : (ℕ → ℕ) → Type 0) where
  abbrev IsKept : ℕ → Type 0
  IsKept n = (c : ℕ → ℕ) (i x : ℕ) → i < n → u i ≡ true → P c → P (set_at c i x)

  same_over : (n : ℕ) (f h : (ℕ → ℕ) → Fraction) (b : ℕ → ℕ) → ((c : ℕ → ℕ) (i x : ℕ) → u i ≡ true → P c → P (set_at c i x)) → P b
      → ((c : ℕ → ℕ) → P c → f c ≡ h c) → add_over u s n f b ≡ add_over u s n h b
  same_over zero f h b kept p same = same b p
  same_over (suc n) f h b kept p same = go (u n) refl (λ c pc. same_over n f h c kept pc same)
    where
      go : (v : Bool) → u n ≡ v → ((c : ℕ → ℕ) → P c → add_over u s n f c ≡ add_over u s n h c)
          → cond v (add_below (s n) (λ x. add_over u s n f (set_at b n x))) (add_over u s n f b)
          ≡ cond v (add_below (s n) (λ x. add_over u s n h (set_at b n x))) (add_over u s n h b)
      go true e ih = ap (add_below (s n)) (fun_ext (λ x. ih (set_at b n x) (kept b n x e p)))
      go false e ih = ih b p

module _ (w : FiniteModel) (x : ℕ) (s t : ℕ → ℕ) where
  -- x has the first levels
  abbrev HasFirst : (ℕ → ℕ) → Type 0
  HasFirst c = (v : ℕ) → has x v ≡ true → c v ≡ s v

  read_same : (p : PlainPart) → ReadsInside x p → (c : ℕ → ℕ) → HasFirst c → (v : ℕ)
      → read_at p.second c t v ≡ cond (has x v) (cond (has p.second v) (t v) (s v)) (c v)
  read_same p inside c at v = go (has x v) (has p.second v) refl refl
    where
      go : (a b : Bool) → has x v ≡ a → has p.second v ≡ b → cond b (t v) (c v) ≡ cond a (cond b (t v) (s v)) (c v)
      go true true i j = refl
      go true false i j = at v i
      go false true i j = absurd (false≢true (sym i ∙ inside v j))
      go false false i j = refl

  product_same : (ps : List PlainPart) → All (ReadsInside x) ps → (c : ℕ → ℕ) → HasFirst c
      → factors_product (weights_of w) (map factor_of_part ps) c t ≡ parts_value w x ps s t c
  product_same [] inside c at = refl
  product_same (p ∷ ps) inside c at =
      ap₂ mul (ap (value_of (weights_of w) p.formula) (fun_ext (read_same p (All-head (ReadsInside x) p ps inside) c at)))
      (product_same ps (All-tail (ReadsInside x) p ps inside) c at)

pub factors_equal_natural : FactorsEqualNatural
factors_equal_natural w x z summed ps inside off s t =
    ap (λ f. div f (value_of (weights_of w) (chance_of z) s))
    (same_over (has summed) w.size (HasFirst w x s t) w.vertices (λ c. factors_product (weights_of w) (map factor_of_part ps) c t) (parts_value w x ps s t) s
    (λ c i k member at v of_x. set_at-other c i k v (λ e. absurd (false≢true (sym (off i member) ∙ ap (has x) (sym e) ∙ of_x))) ∙ at v of_x)
    (λ v of_x. refl) (product_same w x s t ps inside))
