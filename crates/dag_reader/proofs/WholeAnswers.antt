-- From the parts of reading to the whole answer.
use Rattle.std.proofs.Common.{◌≡◌, ◌≢◌, ℕ, true, List, length, None, inl, inr, sym, subst, ◌∙◌}
use Rattle.std.specs.Prelude.{Result, Ok, Err}
use Rattle.std.specs.List.{list_all}
use Rattle.std.specs.Str.{IsUtf8}
use Rattle.std.proofs.lemmas.Bool.{cases_Bool}
use Rattle.mixed_graph.specs.Vocabulary.{Within, Apart, graph_of, IsGraphOf}
use Rattle.dag_reader.specs.declared.marks.Role.{Role}
use Rattle.dag_reader.specs.declared.marks.Role.TheVariants.{Exposure, Outcome, Adjusted, Latent}
use Rattle.dag_reader.specs.declared.marks.Remark.{Remark}
use Rattle.dag_reader.specs.declared.building.MarkedGraph.{MarkedGraph}
use Rattle.dag_reader.specs.declared.graph.ReadGraph.{ReadGraph}
use Rattle.dag_reader.specs.declared.faults.Fault.TheVariants as faults
use Rattle.dag_reader.specs.declared.faults.ReadFault.{ReadFault}
use Rattle.dag_reader.specs.declared.faults.ReadFault.TheVariants as errors
use Rattle.dag_reader.specs.declared.faults.GraphFault.{GraphFault}
use Rattle.dag_reader.specs.declared.faults.GraphFault.TheVariants.{SelfLoop, RoleClash, Cycle, NoMemory}
use Rattle.dag_reader.specs.Grammar.{Said}
use Rattle.dag_reader.specs.MarkEnds.{is_inside}
use Rattle.dag_reader.specs.RoleSets.{in_set}
use Rattle.dag_reader.specs.Passes.{arrows_of, doubles_of}
use Rattle.dag_reader.specs.Reading.{Says}
use Rattle.dag_reader.specs.Turns.{ReadsStatements}
use Rattle.dag_reader.specs.Reads.{Tells, GivesGraph, Reads}
use Rattle.dag_reader.specs.Builds.{Marked, IsNamed, HoldsMarked, Owns}
use Rattle.dag_reader.proofs.PairLists.{role_inside}

set_below : (names : List (List ℕ)) (marks : List Remark) (m : MarkedGraph) → Marked names marks m → list_all (is_inside (length names)) marks ≡ true
    → (r : Role) → Within (length names) (in_set m.roles r)
set_below names marks m is inside r = λ v h. role_inside (length names) marks None r v inside (λ w e. absurd (cc e)) (sym (is.roles r v) ∙ h)

sets_apart : (names : List (List ℕ)) (marks : List Remark) (m : MarkedGraph) → Marked names marks m → (r q : Role) → r ≢ q
    → Apart (in_set m.roles r) (in_set m.roles q)
sets_apart names marks m is r q d = λ v h. elim (cases_Bool (in_set m.roles q v)) [
  | inl k ↦ absurd (is.no_clash v (record { first = r; second = q; differ = d; has_first = sym (is.roles r v) ∙ h; has_second = sym (is.roles q v) ∙ k }))
  | inr f ↦ f
]

-- the roles of marks without a clash are four sets apart
pub marked_named : (names : List (List ℕ)) (marks : List Remark) (m : MarkedGraph) → Marked names marks m → list_all (is_inside (length names)) marks ≡ true
    → IsNamed names m
marked_named names marks m is inside = record {
  are_names = is.are_names;
  sized = sym is.edges.size;
  sets = record {
    exposures_below = set_below names marks m is inside Exposure;
    outcomes_below = set_below names marks m is inside Outcome;
    adjusted_below = set_below names marks m is inside Adjusted;
    latent_below = set_below names marks m is inside Latent;
    exposures_outcomes = sets_apart names marks m is Exposure Outcome (λ e. cc e);
    exposures_adjusted = sets_apart names marks m is Exposure Adjusted (λ e. cc e);
    exposures_latent = sets_apart names marks m is Exposure Latent (λ e. cc e);
    outcomes_adjusted = sets_apart names marks m is Outcome Adjusted (λ e. cc e);
    outcomes_latent = sets_apart names marks m is Outcome Latent (λ e. cc e);
    adjusted_latent = sets_apart names marks m is Adjusted Latent (λ e. cc e);
  };
}

-- the graph that holds them is the one that the statements say
pub held_tells : (names : List (List ℕ)) (marks : List Remark) (m : MarkedGraph) (g : ReadGraph) → Marked names marks m → HoldsMarked g names m
    → Tells (record { names = names; marks = marks }) g
held_tells names marks m g is held = record {
  names = held.names_kept;
  edges = subst (λ x. IsGraphOf (length names) (arrows_of marks) (doubles_of marks) (graph_of x)) (sym held.graph_kept) is.edges;
  acyclic = g.graph.valid.acyclic;
  roles = λ r v. held.roles_kept r v ∙ is.roles r v;
}

-- what the statements of a text give is the answer
pub given_reads : (text : List ℕ) (s : Said) (r : Result ReadGraph GraphFault) → IsUtf8 text → Says text (Ok s) → GivesGraph s r → Reads text r
given_reads text s (Ok g) u says gives = (u, s, says, gives)
given_reads text s (Err NoMemory) u says gives = tt
given_reads text s (Err (SelfLoop n)) u says gives = (u, s, says, gives)
given_reads text s (Err (RoleClash n)) u says gives = (u, s, says, gives)
given_reads text s (Err (Cycle ns)) u says gives = (u, s, says, gives)
given_reads text s (Err f) u says gives = absurd gives

-- a fault from left to right is the answer
pub fault_reads : (text : List ℕ) (e : ReadFault) (f : GraphFault) → IsUtf8 text → ReadsStatements text (Err e) → Owns e f → Reads text (Err f)
fault_reads text e NoMemory u says owns = tt
fault_reads text errors.Memory f u says owns = absurd owns
fault_reads text (errors.Fault (faults.Token at)) f u says owns = subst (λ x. Reads text (Err x)) (sym owns) (u, says)
fault_reads text (errors.Fault (faults.Expected at)) f u says owns = subst (λ x. Reads text (Err x)) (sym owns) (u, says)
fault_reads text (errors.Fault faults.NotADag) f u says owns = subst (λ x. Reads text (Err x)) (sym owns) (u, says)
fault_reads text (errors.Fault (faults.EdgeKind at)) f u says owns = subst (λ x. Reads text (Err x)) (sym owns) (u, says)
fault_reads text (errors.Fault (faults.Flag at)) f u says owns = subst (λ x. Reads text (Err x)) (sym owns) (u, says)
fault_reads text (errors.Fault (faults.Selected name)) f u says owns = subst (λ x. Reads text (Err x)) (sym owns) (u, says)
fault_reads text (errors.Fault faults.TooMany) f u says owns = subst (λ x. Reads text (Err x)) (sym owns) (u, says)
