-- Branches of the listing.
use Rattle.std.specs.Prelude.{ℕ, Bool}
use Rattle.mixed_graph.specs.Vocabulary.{has}
use Rattle.minimal_sets.specs.Separators.{Reached, IsPart, IsClosest, IsInBranch}
use Rattle.minimal_sets.specs.declared.separators.branching.Node.{Node}

-- the separator is the closest to its own side, and has what is kept
pub record IsNode (near : ℕ → ℕ → Bool) (allowed x y : ℕ → Bool) (n : Node) : Type 0 where
  pub here : IsClosest near allowed x y (has n.side.bits) (has n.separator.bits) (has n.side.bits)
  pub kept : IsPart (has n.kept.bits) (has n.separator.bits)

-- z is one of the branch's separators
abbrev pub IsIn : (near : ℕ → ℕ → Bool) (allowed x y : ℕ → Bool) → Node → (ℕ → Bool) → Type 0
IsIn near allowed x y n z = IsInBranch near allowed x y (has n.side.bits) (has n.kept.bits) z

-- the branch m of n in which v joins the side
pub record IsForked (near : ℕ → ℕ → Bool) (allowed x y : ℕ → Bool) (n : Node) (v : ℕ) (m : Node) : Type 0 where
  pub node : IsNode near allowed x y m
  pub inside : (z : ℕ → Bool) → IsIn near allowed x y m z → IsIn near allowed x y n z
  pub aside : (z : ℕ → Bool) → IsIn near allowed x y m z → Reached near x z v
  pub all : (z : ℕ → Bool) → IsIn near allowed x y n z → Reached near x z v → IsIn near allowed x y m z

-- v joins the side in no separator of the branch
abbrev pub IsStill : (near : ℕ → ℕ → Bool) (allowed x y : ℕ → Bool) → Node → ℕ → Type 0
IsStill near allowed x y n v = (z : ℕ → Bool) → IsIn near allowed x y n z → Reached near x z v → ⊥
