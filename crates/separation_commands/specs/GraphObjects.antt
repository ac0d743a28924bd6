-- The object of a graph.
use Rattle.std.specs.Prelude.{ℕ, List, [], ◌∷◌, ◌++◌, map, Option, Some, None, codes}
use Rattle.json.specs.Json.{Json, null, string}
use Rattle.mixed_graph.specs.Vocabulary.{graph_of}
use Rattle.dag_reader.specs.declared.graph.ReadGraph.{ReadGraph}
use Rattle.dag_reader.specs.declared.marks.Role.{Role}
use Rattle.dag_reader.specs.declared.marks.Role.TheVariants.{Exposure, Outcome, Adjusted, Latent}
use Rattle.dag_reader.specs.Vocabulary.{count_up, role_at, drawn_of}
use Rattle.dag_reader.specs.Written.{written}
use Rattle.answer_json.specs.Vocabulary.{array_of, object_of, text_json, vertex_json}
use Rattle.graph_json.specs.Vocabulary.{edge_members}

-- a role, or null
abbrev pub role_json : Option Role → Json
role_json None = null
role_json (Some Exposure) = string (codes "exposure")
role_json (Some Outcome) = string (codes "outcome")
role_json (Some Adjusted) = string (codes "adjusted")
role_json (Some Latent) = string (codes "latent")

-- a vertex: its name and its role
abbrev pub named_vertex_json : ReadGraph → ℕ → Json
named_vertex_json g v = object_of ((codes "name", vertex_json g.names v) ∷ (codes "role", role_json (role_at g v)) ∷ [])

-- all vertices, in index order
abbrev pub named_vertices_json : ReadGraph → Json
named_vertices_json g = array_of (map (named_vertex_json g) (count_up g.graph.n))

-- a graph: its vertices, its edges, and its text
abbrev pub graph_members : ReadGraph → List (List ℕ × Json)
graph_members g = (codes "answer", string (codes "graph")) ∷ (codes "vertices", named_vertices_json g)
    ∷ (edge_members g.names (graph_of g.graph) ++ (codes "text", text_json (written (drawn_of g))) ∷ [])
