-- What reading a graph text answers.
use Rattle.std.specs.Prelude.{◌≡◌, ℕ, Bool, List, length, map, take, Some, None, Result, Ok, Err}
use Rattle.std.specs.Str.{IsUtf8}
use Rattle.std.specs.Str.Lossy.{utf8_valid_len}
use Rattle.mixed_graph.specs.Vocabulary.{has, IsAcyclic, graph_of, has_pair, IsCycle, IsGraphOf, name_of}
use Rattle.dag_reader.specs.declared.marks.Role.{Role}
use Rattle.dag_reader.specs.declared.marks.Remark.{Remark}
use Rattle.dag_reader.specs.declared.graph.ReadGraph.{ReadGraph}
use Rattle.dag_reader.specs.declared.faults.GraphFault.{GraphFault}
use Rattle.dag_reader.specs.declared.faults.GraphFault.TheVariants.{NotUtf8, Token, Expected, NotADag, EdgeKind, Flag, Selected, SelfLoop, TooMany}
use Rattle.dag_reader.specs.declared.faults.GraphFault.TheVariants.{RoleClash, Cycle, NoMemory}
use Rattle.dag_reader.specs.Grammar.{Said, token, expected, not_a_dag, edge_kind, flag, selected, too_many}
use Rattle.dag_reader.specs.Reading.{Says}
use Rattle.dag_reader.specs.RoleSets.{set_of}
use Rattle.dag_reader.specs.Passes.{Edge, self_loop, arrows_of, doubles_of, roles_of, has_role, HasTwo, IsRoleClash}

-- whether the vertex has the role in the graph
abbrev pub is_marked : ReadGraph → Role → ℕ → Bool
is_marked g r v = has (set_of g.exposures.bits g.outcomes.bits g.adjusted.bits g.latent.bits r) v

-- the graph is the one that the statements say
pub record Tells (s : Said) (g : ReadGraph) : Type 0 where
  pub names : g.names ≡ s.names
  pub edges : IsGraphOf (length s.names) (arrows_of s.marks) (doubles_of s.marks) (graph_of g.graph)
  pub acyclic : IsAcyclic (graph_of g.graph)
  pub roles : (r : Role) (v : ℕ) → is_marked g r v ≡ has_role (roles_of s.marks) r v

-- no edge joins a vertex to itself
abbrev pub HasNoLoop : List Remark → Type 0
HasNoLoop marks = self_loop marks ≡ None

-- no vertex has two different roles
abbrev pub HasNoClash : List Remark → Type 0
HasNoClash marks = (v : ℕ) → HasTwo (has_role (roles_of marks)) v → ⊥

-- the names of a directed cycle without a repeated vertex, which begins with its lowest member
pub record IsNamedCycle (names : List (List ℕ)) (marks : List Remark) (cycle : List (List ℕ)) : Type 0 where
  pub list : List ℕ
  pub count : ℕ
  pub is_cycle : IsCycle (has_pair (arrows_of marks)) list count
  pub named : cycle ≡ map (name_of names) (take count list)

-- What such statements give: a self-loop, the first in the order of the text; else a clash of roles; else a cycle; else the graph.
abbrev pub GivesGraph : Said → Result ReadGraph GraphFault → Type 0
GivesGraph s (Ok g) = HasNoLoop s.marks × HasNoClash s.marks × Tells s g
GivesGraph s (Err (SelfLoop name)) = (e : Edge) × (self_loop s.marks ≡ Some e) × (name ≡ name_of s.names e.left)
GivesGraph s (Err (RoleClash name)) = HasNoLoop s.marks × (v : ℕ) × IsRoleClash (has_role (roles_of s.marks)) v × (name ≡ name_of s.names v)
GivesGraph s (Err (Cycle cycle)) = HasNoLoop s.marks × HasNoClash s.marks × IsNamedCycle s.names s.marks cycle.items
GivesGraph s (Err NoMemory) = Unit {0}
GivesGraph s (Err fault) = ⊥

-- The language of graph text, with its faults in their order: UTF-8; the text from left to right; what its statements give.
abbrev pub Reads : List ℕ → Result ReadGraph GraphFault → Type 0
Reads text (Err NoMemory) = Unit {0}
Reads text (Err (NotUtf8 at)) = (IsUtf8 text → ⊥) × (at ≡ utf8_valid_len text)
Reads text (Err (Token at)) = IsUtf8 text × Says text (Err (token at))
Reads text (Err (Expected at)) = IsUtf8 text × Says text (Err (expected at))
Reads text (Err NotADag) = IsUtf8 text × Says text (Err not_a_dag)
Reads text (Err (EdgeKind at)) = IsUtf8 text × Says text (Err (edge_kind at))
Reads text (Err (Flag at)) = IsUtf8 text × Says text (Err (flag at))
Reads text (Err (Selected name)) = IsUtf8 text × Says text (Err (selected name))
Reads text (Err TooMany) = IsUtf8 text × Says text (Err too_many)
Reads text result = IsUtf8 text × (s : Said) × Says text (Ok s) × GivesGraph s result
