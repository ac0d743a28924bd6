-- When parts of an effect among the treated are accepted, and the first fault otherwise.
use Rattle.std.specs.Prelude.{ℕ, ◌≡◌, List}
use Rattle.mixed_graph.specs.Vocabulary.{MixedGraph, union, minus}
use Rattle.hedge.specs.Vocabulary.{AreDistrictsOf}
use Rattle.derived_parts.specs.declared.fault.PartsFault.{PartsFault}
use Rattle.derived_parts.specs.Vocabulary.{AreAccepted, IsPartsFault, PlainDerivedPart, UnlessMemory}
use Rattle.natural_id.specs.Vocabulary.{PlainPart}
use Rattle.treated_id.specs.Vocabulary.{AreAncestors, IsConfounded, IsPair}
use Rattle.part_checks.specs.Reading.{AreReadAs, ReadsOwn}
use Rattle.part_checks.specs.declared.answers.TreatedPartsFault.{TreatedPartsFault}
use Rattle.part_checks.specs.declared.answers.TreatedPartsFault.TheVariants as faults

-- the districts of the ancestors of y, x and z
pub record AreTreatedDistricts (g : MixedGraph) (x y z a : ℕ) (ts : List ℕ) : Type 0 where
  pub ancestors : AreAncestors g x y z a
  pub districts : AreDistrictsOf g a ts

-- the parts are one for each of these districts, in their order, and each derivation is accepted for P(district | do(all others))
pub record AreAcceptedAmong (g : MixedGraph) (x y z : ℕ) (ps : List PlainDerivedPart) : Type 0 where
  pub a : ℕ
  pub sets : List ℕ
  pub are : AreTreatedDistricts g x y z a sets
  pub accepted : AreAccepted g sets ps

-- the parts are accepted where no treatment is joined to a child of its own; they read the second values of the treatments in their districts
pub record AcceptsTreated (g : MixedGraph) (x y z : ℕ) (ps : List PlainDerivedPart) (qs : List PlainPart) : Type 0 where
  pub clear : IsConfounded g x y z → ⊥
  pub parts : AreAcceptedAmong g x y z ps
  pub read : AreReadAs (ReadsOwn x) ps qs

-- a treatment is joined to a child of its own, among the ancestors of y, x and z
pub record IsTreatedPair (g : MixedGraph) (x y z treatment child : ℕ) : Type 0 where
  pub a : ℕ
  pub ancestors : AreAncestors g x y z a
  pub pair : IsPair g x a (record { treatment = treatment; child = child })

-- no treatment is, and this is the first fault of the parts
pub record HasTreatedPartsFault (g : MixedGraph) (x y z : ℕ) (ps : List PlainDerivedPart) (why : PartsFault) : Type 0 where
  pub clear : IsConfounded g x y z → ⊥
  pub a : ℕ
  pub sets : List ℕ
  pub are : AreTreatedDistricts g x y z a sets
  pub fault : IsPartsFault g 0 sets ps why

-- why the parts aren't accepted: a treatment that is joined to a child of its own; else the first fault of the parts
abbrev pub IsTreatedFault : MixedGraph → (x y z : ℕ) → List PlainDerivedPart → TreatedPartsFault → Type 0
IsTreatedFault g x y z ps (faults.Confounded pair) = IsTreatedPair g x y z pair.treatment pair.child
IsTreatedFault g x y z ps (faults.Parts fault) = UnlessMemory fault (HasTreatedPartsFault g x y z ps fault)

-- the parts are accepted, and summed over what isn't asked for
pub record HasTreatedDistricts (g : MixedGraph) (x y z : ℕ) (ps : List PlainDerivedPart) (rest : ℕ) : Type 0 where
  pub clear : IsConfounded g x y z → ⊥
  pub a : ℕ
  pub sets : List ℕ
  pub are : AreTreatedDistricts g x y z a sets
  pub accepted : AreAccepted g sets ps
  pub summed : rest ≡ minus a (union (union x z) y)
