-- What the parts of reading answer.
use Rattle.std.specs.Prelude.{◌≡◌, ℕ, List, length, Some, Result, Ok, Err}
use Rattle.mixed_graph.specs.declared.mixed.Graph.{Graph}
use Rattle.mixed_graph.specs.Vocabulary.{graph_of, IsGraphOf, has_pair, AreNames, name_of}
use Rattle.dag_reader.specs.declared.edges.Edges.{Edges}
use Rattle.dag_reader.specs.Rows.{row_has}
use Rattle.dag_reader.specs.declared.marks.Remark.{Remark}
use Rattle.dag_reader.specs.declared.faults.Fault.TheVariants as faults
use Rattle.dag_reader.specs.declared.faults.ReadFault.{ReadFault}
use Rattle.dag_reader.specs.declared.faults.ReadFault.TheVariants as errors
use Rattle.dag_reader.specs.declared.faults.GraphFault.{GraphFault}
use Rattle.dag_reader.specs.declared.faults.GraphFault.TheVariants.{Token, Expected, NotADag, EdgeKind, Flag, Selected, SelfLoop, TooMany, RoleClash}
use Rattle.dag_reader.specs.declared.faults.GraphFault.TheVariants.{Cycle, NoMemory}
use Rattle.dag_reader.specs.declared.marks.Role.{Role}
use Rattle.dag_reader.specs.declared.roles.Roles.{Roles}
use Rattle.dag_reader.specs.declared.building.MarkedGraph.{MarkedGraph}
use Rattle.dag_reader.specs.RoleSets.{in_set, AreRoleSets}
use Rattle.dag_reader.specs.Passes.{Edge, self_loop, arrows_of, doubles_of, roles_of, has_role, IsRoleClash}
use Rattle.dag_reader.specs.Reads.{HasNoLoop, HasNoClash, IsNamedCycle, GivesGraph, is_marked}
use Rattle.dag_reader.specs.declared.graph.ReadGraph.{ReadGraph}

-- the rows hold the edges that the marks say
pub record AreEdgesOf (marks : List Remark) (edges : Edges) : Type 0 where
  pub arrows : (a b : ℕ) → row_has edges.arrows a b ≡ has_pair (arrows_of marks) a b
  pub doubles : (a b : ℕ) → row_has edges.doubles a b ≡ has_pair (doubles_of marks) a b

-- the graph of the edges that the marks say, or a cycle of them
abbrev pub Builds : List (List ℕ) → List Remark → Result Graph GraphFault → Type 0
Builds names marks (Ok g) = IsGraphOf (length names) (arrows_of marks) (doubles_of marks) (graph_of g)
Builds names marks (Err (Cycle cycle)) = IsNamedCycle names marks cycle.items
Builds names marks (Err NoMemory) = Unit {0}
Builds names marks (Err fault) = ⊥

-- no self-loop, or the first
abbrev pub ChecksLoops : List (List ℕ) → List Remark → Result (Unit {0}) GraphFault → Type 0
ChecksLoops names marks (Ok u) = HasNoLoop marks
ChecksLoops names marks (Err (SelfLoop name)) = (e : Edge) × (self_loop marks ≡ Some e) × (name ≡ name_of names e.left)
ChecksLoops names marks (Err NoMemory) = Unit {0}
ChecksLoops names marks (Err fault) = ⊥

-- the roles, or the lowest clash
abbrev pub ChecksRoles : List (List ℕ) → List Remark → Result Roles GraphFault → Type 0
ChecksRoles names marks (Ok roles) = HasNoClash marks × ((r : Role) (v : ℕ) → in_set roles r v ≡ has_role (roles_of marks) r v)
ChecksRoles names marks (Err (RoleClash name)) = (v : ℕ) × IsRoleClash (has_role (roles_of marks)) v × (name ≡ name_of names v)
ChecksRoles names marks (Err NoMemory) = Unit {0}
ChecksRoles names marks (Err fault) = ⊥

-- the graph and the roles that the marks say
pub record Marked (names : List (List ℕ)) (marks : List Remark) (m : MarkedGraph) : Type 0 where
  pub are_names : AreNames names
  pub no_loop : HasNoLoop marks
  pub no_clash : HasNoClash marks
  pub edges : IsGraphOf (length names) (arrows_of marks) (doubles_of marks) (graph_of m.graph)
  pub roles : (r : Role) (v : ℕ) → in_set m.roles r v ≡ has_role (roles_of marks) r v

-- the same, or the first fault behind the grammar
abbrev pub Marks : List (List ℕ) → List Remark → Result MarkedGraph GraphFault → Type 0
Marks names marks (Ok m) = Marked names marks m
Marks names marks (Err fault) = GivesGraph (record { names = names; marks = marks }) (Err fault)

-- a fault with its own copy of a name
abbrev pub Owns : ReadFault → GraphFault → Type 0
Owns e NoMemory = Unit {0}
Owns (errors.Fault (faults.Token at)) f = f ≡ Token at
Owns (errors.Fault (faults.Expected at)) f = f ≡ Expected at
Owns (errors.Fault faults.NotADag) f = f ≡ NotADag
Owns (errors.Fault (faults.EdgeKind at)) f = f ≡ EdgeKind at
Owns (errors.Fault (faults.Flag at)) f = f ≡ Flag at
Owns (errors.Fault (faults.Selected name)) f = f ≡ Selected name.now
Owns (errors.Fault faults.TooMany) f = f ≡ TooMany
Owns errors.Memory f = ⊥

-- the graph has as many vertices as there are names, and no vertex has two roles
pub record IsNamed (names : List (List ℕ)) (m : MarkedGraph) : Type 0 where
  pub are_names : AreNames names
  pub sized : length names ≡ m.graph.n
  pub sets : AreRoleSets (length names) m.roles.exposures.bits m.roles.outcomes.bits m.roles.adjusted.bits m.roles.latent.bits

-- the names, the graph and the roles as they were given
pub record HoldsMarked (g : ReadGraph) (names : List (List ℕ)) (m : MarkedGraph) : Type 0 where
  pub names_kept : g.names ≡ names
  pub graph_kept : g.graph ≡ m.graph
  pub roles_kept : (r : Role) (v : ℕ) → is_marked g r v ≡ in_set m.roles r v
