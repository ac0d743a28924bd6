-- What `adjust` is asked.
use Rattle.std.specs.Prelude.{ℕ, ◌≡◌, ◌≤◌, Bool, List, [], Option, Some, None, if◌then◌else◌}
use Rattle.command_words.specs.Vocabulary.{names_in}
use Rattle.dag_reader.specs.declared.graph.ReadGraph.{ReadGraph}
use Rattle.targets.specs.Vocabulary.{Lists}
use Rattle.diagram.specs.Vocabulary.{Names, query_lists}
use Rattle.adjust_command.specs.declared.query.Query.{Query as CodeQuery}
use Rattle.adjust_command.specs.declared.query.Query.TheVariants as query

-- the adjustment criterion for the set of these names; the back-door criterion for it; or the minimal sets, at most so many
pub data Query : Type 0 where
  by_set : List (List ℕ) → Query
  by_back_door : List (List ℕ) → Query
  listing : ℕ → Query

-- the query
abbrev pub query_of : CodeQuery → Query
query_of (query.Set names) = by_set (names_in names)
query_of (query.BackDoor names) = by_back_door (names_in names)
query_of (query.List most) = listing most

-- a listing gives at least one set, and at most 10,000
abbrev pub IsInRange : Query → Type 0
IsInRange (listing most) = (1 ≤ most) × (most ≤ 10000)
IsInRange q = Unit {0}

-- the same of any query
abbrev pub HasRange : Query → Type 0
HasRange q = (k : ℕ) → q ≡ listing k → (1 ≤ k) × (k ≤ 10000)

-- what is asked for a set, by one of the two criteria, or without one; the back-door criterion needs a set, and a set has no number of sets beside it
abbrev pub query_for : Option (List (List ℕ)) → (back_door counted : Bool) → (most : ℕ) → Option Query
query_for (Some names) back_door counted most = if counted then None else (if back_door then Some (by_back_door names) else Some (by_set names))
query_for None back_door counted most = if back_door then None else Some (listing most)

-- the names of the set that is asked about; a listing has none
abbrev pub set_of : Query → List (List ℕ)
set_of (by_set set) = set
set_of (by_back_door set) = set
set_of (listing most) = []

-- the lists of a query, on a graph with these observed names: those that are given, or else the exposures and the outcomes; and the set
abbrev pub adjust_lists : ReadGraph → (observed : List (List ℕ)) → (x y : Names) → Query → Lists
adjust_lists g observed x y query = query_lists g observed x y (Some (set_of query))
