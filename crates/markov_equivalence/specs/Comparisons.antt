-- What the comparison of two graphs answers, and what it shows.
use Rattle.std.specs.Prelude.{ℕ, ◌≡◌, ◌<◌, ◌==◌, Bool, false, ⊤}
use Rattle.mixed_graph.specs.Vocabulary.{has, MixedGraph, Within}
use Rattle.m_separation.specs.Vocabulary.{IsSeparated, HasOpenWalk}
use Rattle.markov_equivalence.specs.Skeletons.{is_adjacent, is_unshielded_collider, HaveSameSkeleton, AreEquivalent}
use Rattle.markov_equivalence.specs.Firsts.{IsFirstDifference, IsFirstCollider}
use Rattle.markov_equivalence.specs.Laters.{AreParentsOfLater}
use Rattle.markov_equivalence.specs.Sides.{one_of, other_side}
use Rattle.markov_equivalence.specs.declared.comparison.Difference.{Difference}
use Rattle.markov_equivalence.specs.declared.comparison.Compared.{Compared}
use Rattle.markov_equivalence.specs.declared.comparison.Compared.TheVariants.{Same, Edge, Collider}

-- the first edge that one graph has alone; the graph named is the one without it
pub record IsEdgeDifference (g h : MixedGraph) (d : Difference) : Type 0 where
  pub pair : IsFirstDifference g h d.a d.b
  pub without : is_adjacent (one_of g h d.holds_in) d.a d.b ≡ false
  pub given : AreParentsOfLater (one_of g h d.holds_in) d.a d.b (has d.given.bits)

-- the skeletons agree; the first unshielded collider that one graph has alone; the graph named is the one in which m is none
pub record IsColliderDifference (g h : MixedGraph) (d : Difference) (m : ℕ) : Type 0 where
  pub skeleton : HaveSameSkeleton g h
  pub triple : IsFirstCollider g h d.a d.b m
  pub without : is_unshielded_collider (one_of g h d.holds_in) d.a m d.b ≡ false
  pub given : AreParentsOfLater (one_of g h d.holds_in) d.a d.b (has d.given.bits)

-- the answer of the comparison of g and h
abbrev pub IsComparison : MixedGraph → MixedGraph → Compared → Type 0
IsComparison g h Same = AreEquivalent g h
IsComparison g h (Edge d) = IsEdgeDifference g h d
IsComparison g h (Collider d m) = IsColliderDifference g h d m

-- the given set, in which a and b aren't, separates them in k and doesn't in g
pub record SeparatesInOne (k g : MixedGraph) (a b : ℕ) (given : ℕ → Bool) : Type 0 where
  pub without_a : given a ≡ false
  pub without_b : given b ≡ false
  pub there : IsSeparated k (λ v. v == a) (λ v. v == b) given
  pub not_there : HasOpenWalk g (λ v. v == a) (λ v. v == b) given

-- the separation of a difference holds in the graph named and not in the other
abbrev pub IsShown : MixedGraph → MixedGraph → Difference → Type 0
IsShown g h d = SeparatesInOne (one_of g h d.holds_in) (one_of g h (other_side d.holds_in)) d.a d.b (has d.given.bits)

-- the same of an answer that is a difference
abbrev pub ShowsDifference : MixedGraph → MixedGraph → Compared → Type 0
ShowsDifference g h Same = ⊤
ShowsDifference g h (Edge d) = IsShown g h d
ShowsDifference g h (Collider d m) = IsShown g h d

-- the pair and the given set are below n
pub record IsBelow (n : ℕ) (d : Difference) : Type 0 where
  pub a : d.a < n
  pub b : d.b < n
  pub given : Within n (has d.given.bits)

-- the answer names vertices below n alone
abbrev pub NamesVertices : ℕ → Compared → Type 0
NamesVertices n Same = ⊤
NamesVertices n (Edge d) = IsBelow n d
NamesVertices n (Collider d m) = IsBelow n d × (m < n)
