-- What listed names stand for: sets of vertices, or the first name at fault.
use Rattle.std.specs.Prelude.{ℕ, ◌≡◌, Bool, false, not, ◌&&◌, ◌||◌, nat_lt, length, List, [], ◌∷◌, ◌++◌, map, Option, Some, None, if◌then◌else◌}
use Rattle.std.specs.Str.{bytes_eq}
use Rattle.mixed_graph.specs.Vocabulary.{has, members_below, is_named, index_of, name_of}
use Rattle.targets.specs.declared.fault.TargetFault.{TargetFault}
use Rattle.targets.specs.declared.fault.TargetFault.TheVariants.{Unknown, Latent, Twice, EmptyY, EmptyX, NotOneX, Bidirected, OtherNames, NoMemory}

-- the names of a list that is given, or else those of a default set, in index order
abbrev pub listed : List (List ℕ) → ℕ → Option (List (List ℕ)) → List (List ℕ)
listed names default (Some list) = list
listed names default None = map (name_of names) (members_below (has default) 64)

-- what is wrong with a listed name: it isn't in the graph, it is latent, or it stands twice
pub data NameFault : Type 0 where
  unknown latent twice : List ℕ → NameFault

-- what is wrong with one name, where those that pass the test were walked before
abbrev pub name_fault : (all observed : List (List ℕ)) → (List ℕ → Bool) → List ℕ → Option NameFault
name_fault all observed walked n = if not (is_named all n) then Some (unknown n)
    else (if not (is_named observed n) then Some (latent n) else (if walked n then Some (twice n) else None))

-- the fault that there is first
abbrev pub or_fault : Option NameFault → Option NameFault → Option NameFault
or_fault (Some f) later = Some f
or_fault None later = later

-- the first name at fault, the names being walked in order
abbrev pub first_fault : (all observed : List (List ℕ)) → (List ℕ → Bool) → List (List ℕ) → Option NameFault
first_fault all observed walked [] = None
first_fault all observed walked (n ∷ ns) = or_fault (name_fault all observed walked n) (first_fault all observed (λ m. walked m || bytes_eq m n) ns)

-- whether the vertex of a name is in the set
abbrev pub walked_in : List (List ℕ) → ℕ → List ℕ → Bool
walked_in observed set n = has set (index_of observed n)

-- the fault is this one of a name; want of memory may stand in its place
abbrev pub IsNameFault : Option NameFault → TargetFault → Type 0
IsNameFault o (Unknown t) = o ≡ Some (unknown t)
IsNameFault o (Latent t) = o ≡ Some (latent t)
IsNameFault o (Twice t) = o ≡ Some (twice t)
IsNameFault o EmptyY = ⊥
IsNameFault o EmptyX = ⊥
IsNameFault o NotOneX = ⊥
IsNameFault o (Bidirected a b) = ⊥
IsNameFault o (OtherNames t) = ⊥
IsNameFault o NoMemory = Unit {0}

-- the mask holds the observed vertices whose names are listed
abbrev pub IsListedSet : List (List ℕ) → List (List ℕ) → ℕ → Type 0
IsListedSet observed list mask = (v : ℕ) → has mask v ≡ (nat_lt v (length observed) && is_named list (name_of observed v))

-- the lists of a query, with the names of the graph and those that are observed
pub record Lists : Type 0 where
  pub all : List (List ℕ)
  pub observed : List (List ℕ)
  pub x : List (List ℕ)
  pub y : List (List ℕ)
  pub given : List (List ℕ)

-- the first name at fault of all lists, x first, then y, then given
abbrev pub fault_in : Lists → Option NameFault
fault_in l = first_fault l.all l.observed (λ n. false) (l.x ++ (l.y ++ l.given))

-- the sets of a query: no name is at fault, and neither x nor y is empty
pub record AreSets (l : Lists) (x y given : ℕ) : Type 0 where
  pub no_fault : fault_in l ≡ None
  pub some_y : l.y ≡ [] → ⊥
  pub some_x : l.x ≡ [] → ⊥
  pub set_x : IsListedSet l.observed l.x x
  pub set_y : IsListedSet l.observed l.y y
  pub set_given : IsListedSet l.observed l.given given

-- the fault is that of the first name at fault; else y is empty; else x is empty
abbrev pub IsFaultOfTarget : Option NameFault → (y x : List (List ℕ)) → TargetFault → Type 0
IsFaultOfTarget first y x (Unknown t) = first ≡ Some (unknown t)
IsFaultOfTarget first y x (Latent t) = first ≡ Some (latent t)
IsFaultOfTarget first y x (Twice t) = first ≡ Some (twice t)
IsFaultOfTarget first y x EmptyY = (first ≡ None) × (y ≡ [])
IsFaultOfTarget first y x EmptyX = (first ≡ None) × (y ≡ [] → ⊥) × (x ≡ [])
IsFaultOfTarget first y x NotOneX = ⊥
IsFaultOfTarget first y x (Bidirected a b) = ⊥
IsFaultOfTarget first y x (OtherNames t) = ⊥
IsFaultOfTarget first y x NoMemory = ⊥

-- the fault of a query
abbrev pub IsTargetFault : Lists → TargetFault → Type 0
IsTargetFault l f = IsFaultOfTarget (fault_in l) l.y l.x f

-- the fault is such a one; want of memory may stand in its place
abbrev pub OrMemory : (TargetFault → Type 0) → TargetFault → Type 0
OrMemory is NoMemory = Unit {0}
OrMemory is f = is f

-- the sets of lists of which x may be empty: no name is at fault, and y isn't empty
pub record AreListedSets (l : Lists) (x y given : ℕ) : Type 0 where
  pub no_fault : fault_in l ≡ None
  pub some_y : l.y ≡ [] → ⊥
  pub set_x : IsListedSet l.observed l.x x
  pub set_y : IsListedSet l.observed l.y y
  pub set_given : IsListedSet l.observed l.given given

-- the fault of such lists, for which an empty x is none
abbrev pub IsListFault : Lists → TargetFault → Type 0
IsListFault l EmptyX = ⊥
IsListFault l f = IsTargetFault l f

-- the lists of a rule of the do-calculus: y and z, with what is done and what is given
pub record RuleLists : Type 0 where
  pub all : List (List ℕ)
  pub observed : List (List ℕ)
  pub y : List (List ℕ)
  pub x : List (List ℕ)
  pub z : List (List ℕ)
  pub given : List (List ℕ)

-- the first name at fault of all lists, y first, then what is done, then z, then given
abbrev pub rule_fault : RuleLists → Option NameFault
rule_fault l = first_fault l.all l.observed (λ n. false) (l.y ++ (l.x ++ (l.z ++ l.given)))

-- the sets of a rule: no name is at fault, and neither y nor z is empty
pub record AreRuleSets (l : RuleLists) (y x z given : ℕ) : Type 0 where
  pub no_fault : rule_fault l ≡ None
  pub some_y : l.y ≡ [] → ⊥
  pub some_z : l.z ≡ [] → ⊥
  pub set_y : IsListedSet l.observed l.y y
  pub set_x : IsListedSet l.observed l.x x
  pub set_z : IsListedSet l.observed l.z z
  pub set_given : IsListedSet l.observed l.given given

-- the fault of the lists of a rule, where z stands in the place of x
abbrev pub IsRuleFault : RuleLists → TargetFault → Type 0
IsRuleFault l f = IsFaultOfTarget (rule_fault l) l.y l.z f

-- the lists of an effect: what is done, which may be empty, and y
pub record EffectLists : Type 0 where
  pub all : List (List ℕ)
  pub observed : List (List ℕ)
  pub x : List (List ℕ)
  pub y : List (List ℕ)

-- the first name at fault of both lists, x first, then y
abbrev pub effect_fault : EffectLists → Option NameFault
effect_fault l = first_fault l.all l.observed (λ n. false) (l.x ++ l.y)

-- the sets of an effect: no name is at fault, and y isn't empty
pub record AreEffectSets (l : EffectLists) (x y : ℕ) : Type 0 where
  pub no_fault : effect_fault l ≡ None
  pub some_y : l.y ≡ [] → ⊥
  pub set_x : IsListedSet l.observed l.x x
  pub set_y : IsListedSet l.observed l.y y

-- the fault of the lists of an effect, for which an empty x is none
abbrev pub IsEffectFault : EffectLists → TargetFault → Type 0
IsEffectFault l EmptyX = ⊥
IsEffectFault l f = IsFaultOfTarget (effect_fault l) l.y l.x f
