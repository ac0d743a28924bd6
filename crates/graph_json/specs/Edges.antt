-- A graph as JSON: its edges, each as the pair of the names of its ends.
use Rattle.std.specs.Prelude.{ℕ, ◌&&◌, nat_lt, List, [], ◌∷◌, codes}
use Rattle.json.specs.Json.{Json}
use Rattle.mixed_graph.specs.Vocabulary.{MixedGraph}
use Rattle.dag_reader.specs.Vocabulary.{pairs_below}
use Rattle.answer_json.specs.Vocabulary.{object_of, pairs_json}

-- the directed edges, sorted
abbrev pub directed_json : List (List ℕ) → MixedGraph → Json
directed_json names g = pairs_json names (pairs_below g.vertices g.arrow)

-- the bidirected ones, each from its lower end, sorted
abbrev pub bidirected_json : List (List ℕ) → MixedGraph → Json
bidirected_json names g = pairs_json names (pairs_below g.vertices (λ a b. g.both a b && nat_lt a b))

-- the members of both
abbrev pub edge_members : List (List ℕ) → MixedGraph → List (List ℕ × Json)
edge_members names g = (codes "directed", directed_json names g) ∷ (codes "bidirected", bidirected_json names g) ∷ []

-- the object of these alone
abbrev pub graph_json : List (List ℕ) → MixedGraph → Json
graph_json names g = object_of (edge_members names g)
