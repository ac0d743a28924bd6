-- Whether a set is one vertex.
use Rattle.std.proofs.Common.{◌≡◌, ℕ, ◌==◌, true, sym, subst, ap, ◌∙◌, arith}
use Rattle.mixed_graph.specs.Vocabulary.{has, one}
use Rattle.mixed_graph.proofs.Masks.{has-pow, same_from_has}

-- the mask of one vertex
pub is_one : (m v : ℕ) → ((u : ℕ) → has m u ≡ (u == v)) → m ≡ one v
is_one m v is = same_from_has m (one v) (λ u. is u ∙ sym (has-pow v u))

-- another number than one
pub is_not_one : (x m v : ℕ) → ((u : ℕ) → has m u ≡ (u == v)) → has x v ≡ true → (x ≡ m → ⊥) → (w : ℕ) → x ≡ one w → ⊥
is_not_one x m v is member differs w e =
    let there : has (one w) v ≡ true = subst (λ k. has k v ≡ true) e member in
    let same : (v == w) ≡ true = sym (has-pow w v) ∙ there in
    let v_is : w ≡ v = grind (arith, same) in
    differs (e ∙ ap one v_is ∙ sym (is_one m v is))
