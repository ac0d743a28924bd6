-- The text of a graph.
use Rattle.std.specs.Prelude.{◌≡◌, ◌<◌, ℕ, ◌&&◌, List, [], ◌∷◌, ◌++◌, length, map, Option, Some, None, codes, All, nat_lt, if◌then◌else◌}
use Rattle.dag_reader.specs.declared.marks.Role.{Role}
use Rattle.dag_reader.specs.declared.marks.Role.TheVariants.{Exposure, Outcome, Adjusted, Latent}
use Rattle.answer_text.specs.Vocabulary.{printed}
use Rattle.mixed_graph.specs.Vocabulary.{AreNames, has, graph_of, name_of}
use Rattle.dag_reader.specs.declared.graph.ReadGraph.{ReadGraph}
use Rattle.dag_reader.specs.Rows.{count_up, pairs_below}

-- what is written of a graph: its names, a role for each or none, its edges
pub record Drawn : Type 0 where
  pub names : List (List ℕ)
  pub roles : List (Option Role)
  pub arrows : List (ℕ × ℕ)
  pub doubles : List (ℕ × ℕ)

-- a role in brackets
abbrev pub role_text : Option Role → List ℕ
role_text None = []
role_text (Some Exposure) = codes " [exposure]"
role_text (Some Outcome) = codes " [outcome]"
role_text (Some Adjusted) = codes " [adjusted]"
role_text (Some Latent) = codes " [latent]"

-- a line for each vertex
abbrev pub vertex_lines : List (List ℕ) → List (Option Role) → List ℕ
vertex_lines (n ∷ ns) (r ∷ rs) = printed n ++ (role_text r ++ 10 ∷ vertex_lines ns rs)
vertex_lines ns rs = []

-- a line for each edge
abbrev pub edge_lines : List ℕ → List (List ℕ) → List (ℕ × ℕ) → List ℕ
edge_lines sign names [] = []
edge_lines sign names (e ∷ es) = printed (name_of names e.0) ++ (sign ++ (printed (name_of names e.1) ++ 10 ∷ edge_lines sign names es))

-- the whole text
abbrev pub written : Drawn → List ℕ
written d = codes "dag {" ++ 10 ∷ (vertex_lines d.names d.roles ++ (edge_lines (codes " -> ") d.names d.arrows
    ++ (edge_lines (codes " <-> ") d.names d.doubles ++ 125 ∷ 10 ∷ [])))

-- what holds of each graph that is written
pub record IsDrawn (d : Drawn) : Type 0 where
  pub names : AreNames d.names
  pub roles : length d.roles ≡ length d.names
  pub arrows : All (λ p. (p.0 < length d.names) × (p.1 < length d.names)) d.arrows
  pub doubles : All (λ p. (p.0 < length d.names) × (p.1 < length d.names)) d.doubles

-- ---- the graph as it is written: vertices in the order of their indexes, each kind of edges sorted, a bidirected edge from its lower end

-- the role of a vertex, if it has one
abbrev pub role_at : ReadGraph → ℕ → Option Role
role_at g v =
    if has g.exposures.bits v then Some Exposure
    else (if has g.outcomes.bits v then Some Outcome
    else (if has g.adjusted.bits v then Some Adjusted
    else (if has g.latent.bits v then Some Latent else None)))

-- what is written of a graph
abbrev pub drawn_of : ReadGraph → Drawn
drawn_of g = record {
  names = g.names;
  roles = map (role_at g) (count_up g.graph.n);
  arrows = pairs_below g.graph.n (graph_of g.graph).arrow;
  doubles = pairs_below g.graph.n (λ a b. (graph_of g.graph).both a b && nat_lt a b);
}
