-- Sets joined by bidirected edges, and districts: the c-components of Tian and Pearl.
use Rattle.std.specs.Prelude.{◌≡◌, ℕ, ◌^◌, Bool, false, List, [], ◌∷◌, length, ◌⊎◌, ◌==◌, bit_or, IsTrue}
use Rattle.mixed_graph.specs.Vocabulary.{has, MixedGraph, IsOrder}

-- v comes to a member of s by bidirected edges inside a
pub data IsLinked (g : MixedGraph) (a s : ℕ → Bool) : ℕ → Type 0 where
  at : {v : ℕ} → IsTrue (s v) → IsLinked g a s v
  by : {u v : ℕ} → IsTrue (a u) → IsTrue (g.both u v) → IsLinked g a s v → IsLinked g a s u

-- the mask holds exactly the vertices with P
pub record IsSetOf (a : ℕ) (P : ℕ → Type 0) : Type 0 where
  pub sound : (v : ℕ) → IsTrue (has a v) → P v
  pub complete : (v : ℕ) → P v → IsTrue (has a v)

-- t is the district of c in a: what comes to a member of c by bidirected edges inside a
abbrev pub IsDistrict : MixedGraph → (a c t : ℕ) → Type 0
IsDistrict g a c t = IsSetOf t (IsLinked g (has a) (has c))

-- each member of s is one of t
abbrev pub IsInside : (s t : ℕ) → Type 0
IsInside s t = (v : ℕ) → IsTrue (has s v) → IsTrue (has t v)

-- any two members are linked by bidirected edges inside the set
abbrev pub IsJoinedSet : MixedGraph → ℕ → Type 0
IsJoinedSet g a = (u v : ℕ) → IsTrue (has a u) → IsTrue (has a v) → IsLinked g (has a) (λ w. w == v) u

-- t is a maximal joined set in d: any joined set in d that shares a member with it lies in it
pub record IsMaximalJoined (g : MixedGraph) (d t : ℕ) : Type 0 where
  pub inside : IsInside t d
  pub some : (v : ℕ) × IsTrue (has t v)
  pub joined : IsJoinedSet g t
  pub most : (s v : ℕ) → IsInside s d → IsJoinedSet g s → IsTrue (has s v) → IsTrue (has t v) → IsInside s t

-- the districts of d by their first members in the list, but for those in `seen`
pub data AreDistricts (g : MixedGraph) (d : ℕ) : (seen : ℕ) → List ℕ → List ℕ → Type 0 where
  none : {seen : ℕ} → AreDistricts g d seen [] []
  skip : {seen v : ℕ} {o ts : List ℕ} → (has d v ≡ false) ⊎ IsTrue (has seen v) → AreDistricts g d seen o ts → AreDistricts g d seen (v ∷ o) ts
  take : {seen v t : ℕ} {o ts : List ℕ} → IsTrue (has d v) → has seen v ≡ false → IsDistrict g d (2 ^ v) t
      → AreDistricts g d (bit_or seen t) o ts → AreDistricts g d seen (v ∷ o) (t ∷ ts)

-- v is a member of one of the sets
abbrev pub IsInOne : List ℕ → ℕ → Type 0
IsInOne [] v = ⊥
IsInOne (t ∷ ts) v = IsTrue (has t v) ⊎ IsInOne ts v

-- no two of the sets share a member
abbrev pub AreApart : List ℕ → Type 0
AreApart [] = Unit {0}
AreApart (t ∷ ts) = ((v : ℕ) → IsTrue (has t v) → IsInOne ts v → ⊥) × AreApart ts

-- the sets hold each member of d, nothing else, and no vertex twice
pub record IsPartition (d : ℕ) (ts : List ℕ) : Type 0 where
  pub inside : (v : ℕ) → IsInOne ts v → IsTrue (has d v)
  pub cover : (v : ℕ) → IsTrue (has d v) → IsInOne ts v
  pub apart : AreApart ts

-- the districts of d, by their first members in the graph's order
pub record AreDistrictsOf (g : MixedGraph) (d : ℕ) (ts : List ℕ) : Type 0 where
  pub order : List ℕ
  pub is_order : IsOrder g order (length order)
  pub districts : AreDistricts g d 0 order ts
