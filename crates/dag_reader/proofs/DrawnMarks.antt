-- What a written graph says when it is read.
use Rattle.std.specs.Prelude.{◌+◌, ℕ, Bool, true, not, ◌&&◌, List, [], ◌∷◌, ◌++◌, Option, Some, None}
use Rattle.std.specs.List.{list_any}
use Rattle.std.specs.Str.{bytes_eq}
use Rattle.dag_reader.specs.declared.marks.Arrow.{Arrow}
use Rattle.dag_reader.specs.declared.marks.Arrow.TheVariants.{Right, Both}
use Rattle.dag_reader.specs.declared.marks.Role.{Role}
use Rattle.dag_reader.specs.declared.marks.Remark.{Remark}
use Rattle.dag_reader.specs.declared.marks.Remark.TheVariants.{Begins, Joined, Member, HasRole}
use Rattle.dag_reader.specs.Grammar.{Said}
use Rattle.dag_reader.specs.Written.{Drawn}

abbrev pub role_marks : Option Role → List Remark
role_marks None = []
role_marks (Some r) = HasRole r ∷ []

abbrev pub vertex_marks : ℕ → List (Option Role) → List Remark
vertex_marks i [] = []
vertex_marks i (r ∷ rs) = Begins ∷ Member i ∷ (role_marks r ++ vertex_marks (i + 1) rs)

abbrev pub edge_marks : Arrow → List (ℕ × ℕ) → List Remark
edge_marks a [] = []
edge_marks a (e ∷ es) = Begins ∷ Member e.0 ∷ Joined a ∷ Member e.1 ∷ edge_marks a es

abbrev pub drawn_says : Drawn → Said
drawn_says d = record { names = d.names; marks = vertex_marks 0 d.roles ++ (edge_marks Right d.arrows ++ edge_marks Both d.doubles) }

-- the roles that are given, each with its vertex
abbrev pub given_roles : ℕ → List (Option Role) → List (ℕ × Role)
given_roles i [] = []
given_roles i (None ∷ rs) = given_roles (i + 1) rs
given_roles i (Some r ∷ rs) = (i, r) ∷ given_roles (i + 1) rs

-- each name is new behind the ones before it
abbrev pub all_new : List (List ℕ) → List (List ℕ) → Bool
all_new front [] = true
all_new front (n ∷ ns) = not (list_any (bytes_eq n) front) && all_new (front ++ n ∷ []) ns
