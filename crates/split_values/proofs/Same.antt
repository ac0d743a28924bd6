-- Whether levels are the same, vertex by vertex.
use Rattle.std.proofs.Common.{ℕ, ◌+◌, ◌≡◌, ◌<◌, Bool, true, false, eqb, eqb-true, refl, sym, subst, arith}
use Rattle.std.proofs.lemmas.Bool.{false_from_ne_true}
use Rattle.mixed_graph.specs.Vocabulary.{has}
use Rattle.finite_models.proofs.Solutions.{agree_from, agree_gives}
use Rattle.split_values.specs.Values.{is_same}

pub same_none : (x : ℕ) (s t : ℕ → ℕ) → is_same 0 x s t ≡ true
same_none x s t = refl

-- one more
pub same_more : (v x : ℕ) (s t : ℕ → ℕ) → is_same v x s t ≡ true → (has x v ≡ true → s v ≡ t v) → is_same (v + 1) x s t ≡ true
same_more v x s t h one = agree_from (v + 1) (has x) s t (λ u ul i. go u ul i)
  where
    go : (u : ℕ) → u < v + 1 → has x u ≡ true → s u ≡ t u
    go u ul i = at (eqb u v) refl
      where
        at : (b : Bool) → eqb u v ≡ b → s u ≡ t u
        at true e = let same = eqb-true u v e in subst (λ n. s n ≡ t n) (sym same) (one (subst (λ n. has x n ≡ true) same i))
        at false e = agree_gives v (has x) s t h u (let d : u ≡ v → ⊥ = λ q. absurd (grind (arith, q, e)) in omega (arith, ul, d)) i

-- a member whose level differs
pub same_never : (n v x : ℕ) (s t : ℕ → ℕ) → v < n → has x v ≡ true → (s v ≡ t v → ⊥) → is_same n x s t ≡ false
same_never n v x s t lt i differs = false_from_ne_true (is_same n x s t) (λ e. differs (agree_gives n (has x) s t e v lt i))
