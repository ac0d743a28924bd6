-- Names at places, and a count that is written.
use Rattle.std.proofs.Common.{◌≡◌, ℕ, zero, suc, List, [], ◌∷◌, Option, Some, None, get_or, sym, ◌∙◌, refl, ap}
use Rattle.std.specs.Prelude.{slice_set, slice_get, position}
use Rattle.std.specs.Str.{bytes_eq}
use Rattle.std.proofs.lemmas.List.Quantifiers.{position-Some}
use Rattle.std.proofs.lemmas.Slice.Eq.{bytes_eq-Decides}
use Rattle.causal_io.specs.declared.faults.FaultCount.{FaultCount}
use Rattle.causal_io.specs.Words.{count_at, times_of}

-- two names at one place are one
pub names_apart : {X : Type 0} (name : X → List ℕ) (xs : List X) (n m : List ℕ) (i : ℕ) → position (λ x. bytes_eq (name x) n) xs ≡ Some i
    → position (λ x. bytes_eq (name x) m) xs ≡ Some i → n ≡ m
names_apart name [] n m i p q = cc
names_apart name (x ∷ xs) n m i p q =
    let a = (position-Some (λ t. bytes_eq (name t) n) (x ∷ xs) i x p).1 in
    let b = (position-Some (λ t. bytes_eq (name t) m) (x ∷ xs) i x q).1 in
    sym ((bytes_eq-Decides (name (get_or (x ∷ xs) i x)) n).0 a) ∙ (bytes_eq-Decides (name (get_or (x ∷ xs) i x)) m).0 b

-- a write leaves what stands at another place
slice_get-set_other : {X : Type 0} (xs : List X) (i j : ℕ) (v : X) → (j ≡ i → ⊥) → slice_get (slice_set xs i v) j ≡ slice_get xs j
slice_get-set_other [] i j v apart = refl
slice_get-set_other (x ∷ xs) zero zero v apart = absurd (apart refl)
slice_get-set_other (x ∷ xs) zero (suc j) v apart = refl
slice_get-set_other (x ∷ xs) (suc i) zero v apart = refl
slice_get-set_other (x ∷ xs) (suc i) (suc j) v apart = slice_get-set_other xs i j v (λ e. apart (ap suc e))

-- a count that is written leaves the others
pub count_at-set_other : (counts : List FaultCount) (i : ℕ) (v : FaultCount) (p : Option ℕ) → (p ≡ Some i → ⊥) → count_at (slice_set counts i v) p
    ≡ count_at counts p
count_at-set_other counts i v None apart = refl
count_at-set_other counts i v (Some j) apart = ap times_of (slice_get-set_other counts i j v (λ e. apart (ap Some e)))
