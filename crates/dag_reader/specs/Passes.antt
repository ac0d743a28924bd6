-- What the marks say of the graph: edges, self-loops and roles.
use Rattle.std.specs.Prelude.{◌≢◌, ◌<◌, ℕ, Bool, true, false, ◌&&◌, ◌==◌, List, [], ◌∷◌, ◌++◌, map, find, Option, Some, None, IsTrue}
use Rattle.std.specs.List.{flat_map, list_any, filter_map}
use Rattle.dag_reader.specs.declared.marks.Arrow.{Arrow}
use Rattle.dag_reader.specs.declared.marks.Arrow.TheVariants.{Right, Left, Both}
use Rattle.dag_reader.specs.declared.marks.Role.{Role}
use Rattle.dag_reader.specs.declared.marks.Role.TheVariants.{Exposure, Outcome, Adjusted, Latent}
use Rattle.dag_reader.specs.declared.marks.Remark.{Remark}
use Rattle.dag_reader.specs.declared.marks.Remark.TheVariants.{Begins, Joined, Member, HasRole}

-- ---- edges

-- an edge as it is written, from the left
pub record Edge : Type 0 where
  pub left : ℕ
  pub arrow : Arrow
  pub right : ℕ

-- the members of the group at the front, in the order in which they come
abbrev pub members : List Remark → List ℕ
members [] = []
members (Begins ∷ ms) = []
members (Joined a ∷ ms) = []
members (Member v ∷ ms) = v ∷ members ms
members (HasRole r ∷ ms) = members ms

-- the members of the left group in turn, each against those of the right one in turn
abbrev pub pairs : List ℕ → Arrow → List ℕ → List Edge
pairs ls a rs = flat_map (λ l. map (λ r. record { left = l; arrow = a; right = r }) rs) ls

-- the edges in the order of the text: each group with the one that an edge joins to it; `left` holds the members so far of the last group
abbrev pub edges_behind : List ℕ → List Remark → List Edge
edges_behind left [] = []
edges_behind left (Begins ∷ ms) = edges_behind [] ms
edges_behind left (Joined a ∷ ms) = pairs left a (members ms) ++ edges_behind [] ms
edges_behind left (Member v ∷ ms) = edges_behind (left ++ v ∷ []) ms
edges_behind left (HasRole r ∷ ms) = edges_behind left ms

-- all edges in the order of the text
abbrev pub edges_of : List Remark → List Edge
edges_of marks = edges_behind [] marks

-- an edge of a vertex to itself
abbrev pub is_self_loop : Edge → Bool
is_self_loop e = e.left == e.right

-- the first edge that joins a vertex to itself
abbrev pub self_loop : List Remark → Option Edge
self_loop marks = find is_self_loop (edges_of marks)

-- an edge with one arrowhead, from tail to head: `a <- b` is `b -> a`
abbrev pub arrow_of : Edge → Option (ℕ × ℕ)
arrow_of e = elim e.arrow [ Right ↦ Some (e.left, e.right) | Left ↦ Some (e.right, e.left) | Both ↦ None ]

-- an edge with two arrowheads
abbrev pub both_of : Edge → Option (ℕ × ℕ)
both_of e = elim e.arrow [ Right ↦ None | Left ↦ None | Both ↦ Some (e.left, e.right) ]

-- the directed edges, from tail to head
abbrev pub arrows_of : List Remark → List (ℕ × ℕ)
arrows_of marks = filter_map arrow_of (edges_of marks)

-- the bidirected edges
abbrev pub doubles_of : List Remark → List (ℕ × ℕ)
doubles_of marks = filter_map both_of (edges_of marks)

-- ---- roles

abbrev pub same_role : Role → Role → Bool
same_role Exposure Exposure = true
same_role Outcome Outcome = true
same_role Adjusted Adjusted = true
same_role Latent Latent = true
same_role r q = false

-- each role with its vertex; `last` is the member before
abbrev pub roles_behind : Option ℕ → List Remark → List (ℕ × Role)
roles_behind last [] = []
roles_behind last (Begins ∷ ms) = roles_behind last ms
roles_behind last (Joined a ∷ ms) = roles_behind last ms
roles_behind last (Member v ∷ ms) = roles_behind (Some v) ms
roles_behind None (HasRole r ∷ ms) = roles_behind None ms
roles_behind (Some v) (HasRole r ∷ ms) = (v, r) ∷ roles_behind (Some v) ms

-- all roles that are given
abbrev pub roles_of : List Remark → List (ℕ × Role)
roles_of marks = roles_behind None marks

-- whether the role is given to the vertex
abbrev pub has_role : List (ℕ × Role) → Role → ℕ → Bool
has_role given r v = list_any (λ (p : ℕ × Role). (v == p.0) && same_role r p.1) given

-- the vertex has two different roles
pub record HasTwo (is : Role → ℕ → Bool) (v : ℕ) : Type 0 where
  pub first : Role
  pub second : Role
  pub differ : first ≢ second
  pub has_first : IsTrue (is first v)
  pub has_second : IsTrue (is second v)

-- the lowest vertex with two different roles
pub record IsRoleClash (is : Role → ℕ → Bool) (v : ℕ) : Type 0 where
  pub two : HasTwo is v
  pub lowest : (u : ℕ) → u < v → HasTwo is u → ⊥
