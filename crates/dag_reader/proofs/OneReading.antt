-- A text is read as one graph at most, and has no fault where it is read as one.
use Rattle.std.proofs.Common.{◌≡◌, ℕ, List, refl, sym, subst, ◌∙◌}
use Rattle.std.specs.Prelude.{Result, Ok, Err}
use Rattle.mixed_graph.specs.Vocabulary.{has_pair, graph_of}
use Rattle.mixed_graph.proofs.Masks.{same_from_has}
use Rattle.dag_reader.specs.declared.marks.Role.TheVariants.{Exposure, Outcome, Adjusted, Latent}
use Rattle.dag_reader.specs.declared.graph.ReadGraph.{ReadGraph}
use Rattle.dag_reader.specs.declared.faults.GraphFault.{GraphFault}
use Rattle.dag_reader.specs.declared.faults.GraphFault.TheVariants.{NotUtf8, Token, Expected, NotADag, EdgeKind, Flag, Selected, SelfLoop, TooMany}
use Rattle.dag_reader.specs.declared.faults.GraphFault.TheVariants.{RoleClash, Cycle, NoMemory}
use Rattle.dag_reader.specs.Grammar.{Fault, Said, token, expected, not_a_dag, edge_kind, flag, selected, too_many}
use Rattle.dag_reader.specs.Passes.{arrows_of}
use Rattle.dag_reader.specs.Reading.{Says}
use Rattle.dag_reader.specs.Reads.{Tells, GivesGraph, Reads}
use Rattle.dag_reader.specs.RoundTrip.{AreSame}
use Rattle.dag_reader.proofs.DrawnGraph.{no_cycle}
use Rattle.dag_reader.proofs.OneAnswer.{one_answer}
use Rattle.dag_reader.proofs.PairLists.{cycle_same}

-- two graphs that the same statements tell are the same
same_told : (s : Said) (g h : ReadGraph) → Tells s g → Tells s h → AreSame g h
same_told s g h a b = record {
  names = b.names ∙ sym a.names;
  vertices = b.edges.size ∙ sym a.edges.size;
  arrows = λ u v. b.edges.arrows u v ∙ sym (a.edges.arrows u v);
  spouses = λ u v. b.edges.spouses u v ∙ sym (a.edges.spouses u v);
  exposures = same_from_has h.exposures.bits g.exposures.bits (λ v. b.roles Exposure v ∙ sym (a.roles Exposure v));
  outcomes = same_from_has h.outcomes.bits g.outcomes.bits (λ v. b.roles Outcome v ∙ sym (a.roles Outcome v));
  adjusted = same_from_has h.adjusted.bits g.adjusted.bits (λ v. b.roles Adjusted v ∙ sym (a.roles Adjusted v));
  latent = same_from_has h.latent.bits g.latent.bits (λ v. b.roles Latent v ∙ sym (a.roles Latent v));
}

-- a text says the same statements whenever it says some, and then has no fault
one_said : (text : List ℕ) (s t : Said) → Says text (Ok s) → Says text (Ok t) → t ≡ s
one_said text s t a b = let e : ◌≡◌ {A = Result Said Fault} (Ok t) (Ok s) = one_answer text (Ok t) (Ok s) b a in cc e

no_first_fault : (text : List ℕ) (s : Said) (f : Fault) → Says text (Ok s) → Says text (Err f) → ⊥
no_first_fault text s f a b = let e : ◌≡◌ {A = Result Said Fault} (Err f) (Ok s) = one_answer text (Err f) (Ok s) b a in cc e

-- a text is read as one graph
pub one_graph : (text : List ℕ) (g h : ReadGraph) → Reads text (Ok g) → Reads text (Ok h) → AreSame g h
one_graph text g h a b = same_told a.1 g h a.3.2 (subst (λ (s : Said). Tells s h) (one_said text a.1 b.1 a.2 b.2) b.3.2)

-- statements that give a graph give no fault
gives_either : (s : Said) (g : ReadGraph) (fault : GraphFault) → GivesGraph s (Ok g) → (fault ≡ NoMemory → ⊥) → GivesGraph s (Err fault) → ⊥
gives_either s g NoMemory a ne b = ne refl
gives_either s g (SelfLoop n) a ne b = let none = a.0 in let some = b.1 in cc
gives_either s g (RoleClash n) a ne b = a.1 b.1 b.2.two
gives_either s g (Cycle ns) a ne b =
    let c = b.2 in
    no_cycle (graph_of g.graph) c.list c.count a.2.acyclic (cycle_same (has_pair (arrows_of s.marks)) (graph_of g.graph).arrow c.list c.count
    (λ u v. sym (a.2.edges.arrows u v)) c.is_cycle)
gives_either s g f a ne b = b

told_either : (text : List ℕ) (g : ReadGraph) (fault : GraphFault) (s t : Said) → Says text (Ok s) → GivesGraph s (Ok g) → (fault ≡ NoMemory → ⊥)
    → Says text (Ok t) → GivesGraph t (Err fault) → ⊥
told_either text g fault s t says a ne says_too b = gives_either s g fault a ne
    (subst (λ (u : Said). GivesGraph u (Err fault)) (one_said text s t says says_too) b)

-- a text that is read as a graph has no fault
pub reads_either : (text : List ℕ) (g : ReadGraph) (fault : GraphFault) → Reads text (Ok g) → (fault ≡ NoMemory → ⊥) → Reads text (Err fault) → ⊥
reads_either text g NoMemory a ne b = ne refl
reads_either text g (NotUtf8 at) a ne b = b.0 a.0
reads_either text g (Token at) a ne b = no_first_fault text a.1 (token at) a.2 b.1
reads_either text g (Expected at) a ne b = no_first_fault text a.1 (expected at) a.2 b.1
reads_either text g NotADag a ne b = no_first_fault text a.1 not_a_dag a.2 b.1
reads_either text g (EdgeKind at) a ne b = no_first_fault text a.1 (edge_kind at) a.2 b.1
reads_either text g (Flag at) a ne b = no_first_fault text a.1 (flag at) a.2 b.1
reads_either text g (Selected n) a ne b = no_first_fault text a.1 (selected n) a.2 b.1
reads_either text g TooMany a ne b = no_first_fault text a.1 too_many a.2 b.1
reads_either text g (SelfLoop n) a ne b = told_either text g (SelfLoop n) a.1 b.1 a.2 a.3 ne b.2 b.3
reads_either text g (RoleClash n) a ne b = told_either text g (RoleClash n) a.1 b.1 a.2 a.3 ne b.2 b.3
reads_either text g (Cycle ns) a ne b = told_either text g (Cycle ns) a.1 b.1 a.2 a.3 ne b.2 b.3
