-- The bits of a packed number.
use Rattle.std.proofs.Common.{ℕ, zero, suc, ◌^◌, ◌≡◌, ◌⊎◌, Bool, true, false, cond, ◌&&◌, ◌||◌, ◌==◌, nat_lt, inl, inr, ap, subst, ◌∙◌, arith}
use Rattle.std.proofs.lemmas.Bool.{cases_eq}
use Rattle.mixed_graph.specs.Vocabulary.{has}
use Rattle.mixed_graph.proofs.Masks.{has-zero, has-or, has-pow}
use Rattle.finite_models.specs.Packed.{mask_of}

-- its bits are the numbers below n that pass the test
pub has-mask : (t : ℕ → Bool) (n v : ℕ) → has (mask_of t n) v ≡ (t v && nat_lt v n)
unfolding mask_of
has-mask t zero v = has-zero v ∙ none (t v) v
  where
    none : (b : Bool) (v : ℕ) → false ≡ (b && nat_lt v 0)
    none b v = grind arith
has-mask t (suc n) v =
    has-or (mask_of t n) (cond (t n) (2 ^ n) 0) v
    ∙ ap (λ b. b || has (cond (t n) (2 ^ n) 0) v) (has-mask t n v)
    ∙ ap (λ b. (t v && nat_lt v n) || b) (last (t n))
    ∙ joins (cases_eq v n)
  where
    last : (b : Bool) → has (cond b (2 ^ n) 0) v ≡ (b && (v == n))
    last true = has-pow n v
    last false = has-zero v

    same : (b : Bool) (k : ℕ) → ((b && nat_lt k k) || (b && (k == k))) ≡ (b && nat_lt k (suc k))
    same b k = grind arith

    other : (b c : Bool) (v n : ℕ) → (v ≡ n → ⊥) → ((b && nat_lt v n) || (c && (v == n))) ≡ (b && nat_lt v (suc n))
    other b c v n d = grind (arith, d)

    joins : (v ≡ n) ⊎ (v ≡ n → ⊥) → ((t v && nat_lt v n) || (t n && (v == n))) ≡ (t v && nat_lt v (suc n))
    joins (inl e) = subst (λ k. ((t v && nat_lt v k) || (t k && (v == k))) ≡ (t v && nat_lt v (suc k))) e (same (t v) v)
    joins (inr d) = other (t v) (t n) v n d
