-- Vectors with given items and sets with given members, as terms.
use Rattle.std.proofs.Common.{ℕ, ◌^◌, ◌≡◌, ◌<◌, Bool, true, false, ◌&&◌, nat_lt, refl, ◌∙◌, List, length, arith}
use Rattle.std.specs.Global.{Vec}
use denote.RawPtr.{null_ptr}
use Rattle.mixed_graph.specs.declared.sets.VSet.{VSet}
use Rattle.mixed_graph.specs.Vocabulary.{has}
use Rattle.finite_models.specs.Vocabulary.{mask_of}
use Rattle.finite_models.proofs.Packed.{has-mask}

-- the vector of these items
abbrev pub vec_of : {X : Type 0} → (xs : List X) → length xs < 2 ^ 63 → Vec X
vec_of xs few = record {
  ptr = null_ptr;
  len = length xs;
  cap = length xs;
  alloc = record { memory = record { seal = tt } };
  items = xs;
  ok = (refl, omega arith);
  small = few;
}

-- the set of the vertices that pass a test
abbrev pub set_of : (ℕ → Bool) → VSet
set_of t = record { bits = mask_of t 64 }

pub has-set : (t : ℕ → Bool) → ((v : ℕ) → t v ≡ true → v < 64) → (v : ℕ) → has (mask_of t 64) v ≡ t v
has-set t low v = has-mask t 64 v ∙ go (t v) refl
  where
    inside : (v : ℕ) → v < 64 → (true && nat_lt v 64) ≡ true
    inside v lt = grind (arith, lt)

    go : (b : Bool) → t v ≡ b → (b && nat_lt v 64) ≡ b
    go true e = inside v (low v e)
    go false e = refl
