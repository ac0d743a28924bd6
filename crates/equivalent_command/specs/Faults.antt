-- What keeps two graphs from being compared: a bidirected edge, or a name in one of them alone.
use Rattle.std.specs.Prelude.{ℕ, ◌≡◌, ◌<◌, true, false, List, length}
use Rattle.mixed_graph.specs.Vocabulary.{MixedGraph, is_named, name_of}
use Rattle.targets.specs.declared.fault.TargetFault.{TargetFault}
use Rattle.targets.specs.declared.fault.TargetFault.TheVariants.{Bidirected, OtherNames}
use Rattle.equivalent_command.specs.Numbers.{AreAmong}

-- a is the lowest vertex with a bidirected edge, and b the lowest at the other end of one of its edges
pub record IsFirstBidirected (g : MixedGraph) (a b : ℕ) : Type 0 where
  pub edge : g.both a b ≡ true
  pub before_a : (x y : ℕ) → x < a → g.both x y ≡ false
  pub before_b : (y : ℕ) → y < b → g.both a y ≡ false

-- the fault has the names of the first bidirected edge
pub record IsBidirectedFault (g : MixedGraph) (names : List (List ℕ)) (f : TargetFault) : Type 0 where
  pub a : ℕ
  pub b : ℕ
  pub first : IsFirstBidirected g a b
  pub named : f ≡ Bidirected (name_of names a) (name_of names b)

-- v is the lowest vertex whose name isn't one of the others
pub record IsFirstAlone (names others : List (List ℕ)) (v : ℕ) : Type 0 where
  pub below : v < length names
  pub alone : is_named others (name_of names v) ≡ false
  pub before : (u : ℕ) → u < v → is_named others (name_of names u) ≡ true

-- the first name that one of the lists has alone; those of the first list come first
pub data IsOtherName (names others : List (List ℕ)) (name : List ℕ) : Type 0 where
  in_first : (v : ℕ) → IsFirstAlone names others v → name ≡ name_of names v → IsOtherName names others name
  in_second : (v : ℕ) → AreAmong names others → IsFirstAlone others names v → name ≡ name_of others v → IsOtherName names others name

-- the fault has the first name that one of the lists has alone
pub record IsNamesFault (names others : List (List ℕ)) (f : TargetFault) : Type 0 where
  pub name : List ℕ
  pub first : IsOtherName names others name
  pub named : f ≡ OtherNames name
