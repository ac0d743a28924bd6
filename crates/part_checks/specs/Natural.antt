-- When parts of a nested effect are accepted, and the first fault otherwise.
use Rattle.std.specs.Prelude.{ℕ, ◌≡◌, List, [], ◌∷◌, Option, Some, None}
use Rattle.mixed_graph.specs.Vocabulary.{has, MixedGraph, union, minus, all}
use Rattle.hedge.specs.Vocabulary.{AreDistrictsOf, IsMaximalJoined, IsSetOf}
use Rattle.identification_theory.specs.Vocabulary.{AreAncestorsIn}
use Rattle.nested_models.specs.Vocabulary.{LeadsThrough}
use Rattle.derived_parts.specs.declared.fault.PartsFault.{PartsFault}
use Rattle.derived_parts.specs.Vocabulary.{AreAccepted, IsPartsFault, PlainDerivedPart, UnlessMemory}
use Rattle.natural_id.specs.declared.answers.Split.{Split}
use Rattle.natural_id.specs.declared.answers.Witness.{Witness}
use Rattle.natural_id.specs.Vocabulary.{AreAlike, IsSplit, IsSplitIn, IsWitness, PlainPart, ReadsBoth}
use Rattle.part_checks.specs.Reading.{AreReadAs, ReadsThrough}
use Rattle.part_checks.specs.declared.answers.NaturalPartsFault.{NaturalPartsFault}
use Rattle.part_checks.specs.declared.answers.NaturalPartsFault.TheVariants as faults

-- the districts of the ancestors of y and z outside x
pub record AreNaturalDistricts (g : MixedGraph) (x y z d : ℕ) (ts : List ℕ) : Type 0 where
  pub ancestors : AreAncestorsIn g (minus (all g.vertices) x) (union y z) d
  pub districts : AreDistrictsOf g d ts

-- the parts are one for each of these districts, in their order, and each derivation is accepted for P(district | do(all others))
pub record AreNaturallyAccepted (g : MixedGraph) (x y z : ℕ) (ps : List PlainDerivedPart) : Type 0 where
  pub d : ℕ
  pub sets : List ℕ
  pub are : AreNaturalDistricts g x y z d sets
  pub accepted : AreAccepted g sets ps

-- the parts are accepted where no vertex and no district reads both values of a treatment; they read the second value of each treatment with a child in
-- the district that leads to y through m
pub record AcceptsNatural (g : MixedGraph) (x m y z : ℕ) (ps : List PlainDerivedPart) (qs : List PlainPart) : Type 0 where
  pub clear : ReadsBoth g x m y z → ⊥
  pub parts : AreNaturallyAccepted g x y z ps
  pub through : ℕ
  pub is_through : IsSetOf through (LeadsThrough g (has x) (has m) (has y))
  pub read : AreReadAs (ReadsThrough g x through) ps qs

-- no vertex or district reads both values, and this is the first fault of the parts
pub record HasNaturalPartsFault (g : MixedGraph) (x m y z : ℕ) (ps : List PlainDerivedPart) (why : PartsFault) : Type 0 where
  pub clear : ReadsBoth g x m y z → ⊥
  pub d : ℕ
  pub sets : List ℕ
  pub are : AreNaturalDistricts g x y z d sets
  pub fault : IsPartsFault g 0 sets ps why

-- why the parts aren't accepted: a recanting witness; else a district that reads both values; else the first fault of the parts
abbrev pub IsNaturalFault : MixedGraph → (x m y z : ℕ) → List PlainDerivedPart → NaturalPartsFault → Type 0
IsNaturalFault g x m y z ps (faults.Witness w) = IsWitness g x m y w
IsNaturalFault g x m y z ps (faults.Split s) = IsSplit g x m y z s × ((w : Witness) → IsWitness g x m y w → ⊥)
IsNaturalFault g x m y z ps (faults.Parts fault) = UnlessMemory fault (HasNaturalPartsFault g x m y z ps fault)

-- ---- the parts of the code

-- in each of the sets the children of a treatment are alike
abbrev pub AreEachAlike : MixedGraph → (x through : ℕ) → List ℕ → Type 0
AreEachAlike g x through [] = Unit {0}
AreEachAlike g x through (c ∷ cs) = AreAlike g x through c × AreEachAlike g x through cs

-- what is found is a district with children of one treatment of both kinds; or there is none
abbrev pub IsSplitAmong : MixedGraph → (x through d : ℕ) → List ℕ → Option Split → Type 0
IsSplitAmong g x through d cs (Some s) = IsMaximalJoined g d s.district.bits × IsSplitIn g x through s
IsSplitAmong g x through d cs None = AreEachAlike g x through cs

-- the parts are accepted, for the districts of d, where no vertex and no district reads both values; they are summed over what isn't asked for
pub record HasNaturalDistricts (g : MixedGraph) (x m y z : ℕ) (ps : List PlainDerivedPart) (through rest : ℕ) : Type 0 where
  pub is_through : IsSetOf through (LeadsThrough g (has x) (has m) (has y))
  pub clear : ReadsBoth g x m y z → ⊥
  pub d : ℕ
  pub sets : List ℕ
  pub are : AreNaturalDistricts g x y z d sets
  pub accepted : AreAccepted g sets ps
  pub alike : AreEachAlike g x through sets
  pub summed : rest ≡ minus d (union y z)
