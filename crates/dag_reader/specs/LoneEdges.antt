-- Edges whose ends are the only members of their groups.
use Rattle.std.specs.Prelude.{◌≡◌, ℕ, Bool, List, [], ◌∷◌, drop, Option}
use Rattle.std.specs.List.{filter_map}
use Rattle.mixed_graph.specs.Vocabulary.{has_pair}
use Rattle.dag_reader.specs.declared.marks.Arrow.{Arrow}
use Rattle.dag_reader.specs.declared.marks.Remark.{Remark}
use Rattle.dag_reader.specs.declared.marks.Remark.TheVariants.{Begins, Joined, Member}
use Rattle.dag_reader.specs.Passes.{Edge}

-- the marks are those of one edge between two groups of one member each, and then a group begins that no edge joins to them
pub record IsLone (marks : List Remark) (left : ℕ) (a : Arrow) (right : ℕ) (rest : List Remark) : Type 0 where
  pub front : marks ≡ Begins ∷ Member left ∷ Joined a ∷ Member right ∷ rest
  pub next : rest ≡ Begins ∷ drop 1 rest

-- whether one edge is the pair (a, b), as f makes pairs of edges
abbrev pub has_edge : (Edge → Option (ℕ × ℕ)) → ℕ → Arrow → ℕ → ℕ → ℕ → Bool
has_edge f left k right a b = has_pair (filter_map f ((record { left = left; arrow = k; right = right }) ∷ [])) a b
