-- Graphs that are the same have one diagram.
use Rattle.std.proofs.Common.{◌≡◌, ℕ, List, sym, ap, ◌∙◌}
use Rattle.mixed_graph.specs.Vocabulary.{has, MixedGraph, graph_of}
use Rattle.mixed_graph.proofs.Masks.{same_from_has}
use Rattle.dag_reader.specs.declared.graph.ReadGraph.{ReadGraph}
use Rattle.dag_reader.specs.Vocabulary.{AreSame}
use Rattle.latent_projection.specs.Vocabulary.{renumbered_set, observed_below}
use Rattle.targets.specs.Vocabulary.{listed}
use Rattle.diagram.specs.Observed.{observed_set}
use Rattle.diagram.specs.Sets.{Names, effect_lists, query_lists, rule_lists}
use Rattle.diagram.specs.declared.diagram.Diagram.{Diagram}
use Rattle.diagram.proofs.ObservedParts.{part_of}
use Rattle.diagram.proofs.OneObserved.{same_as, one_observed_graph, same_observed_names}

-- the same graphs were read, and the same are observed
pub record AreSameDiagrams (d e : Diagram) : Type 0 where
  pub read : AreSame d.read e.read
  pub observed : AreSame d.observed e.observed

-- a set has one set in the numbers of the observed vertices
same_observed_set : (g h : ReadGraph) → AreSame g h → (s t : ℕ) → t ≡ s → (v : ℕ) → observed_set h t v ≡ observed_set g s v
same_observed_set g h same s t e v =
    ap (λ (k : ℕ). renumbered_set (observed_below (has k) h.graph.n) (has t) v) same.latent
    ∙ ap (λ (k : ℕ). renumbered_set (observed_below (has g.latent.bits) k) (has t) v) same.vertices
    ∙ ap (λ (k : ℕ). renumbered_set (observed_below (has g.latent.bits) g.graph.n) (has k) v) e

-- the diagrams of graphs that are the same are the same
pub one_diagram : (d e : Diagram) → AreSame d.read e.read → AreSameDiagrams d e
one_diagram d e s =
    let p = part_of d in
    let q = part_of e in
    let graphs = one_observed_graph d.read e.read s (graph_of d.observed.graph) (graph_of e.observed.graph) p.graph q.graph in
    record {
      read = s;
      observed = record {
        names = q.names ∙ same_observed_names d.read e.read s ∙ sym p.names;
        vertices = sym (ap (λ (m : MixedGraph). m.vertices) graphs);
        arrows = λ u v. sym (ap (λ (m : MixedGraph). m.arrow u v) graphs);
        spouses = λ u v. sym (ap (λ (m : MixedGraph). m.both u v) graphs);
        exposures = same_from_has e.observed.exposures.bits d.observed.exposures.bits
            (λ v. q.exposures v ∙ same_observed_set d.read e.read s d.read.exposures.bits e.read.exposures.bits s.exposures v ∙ sym (p.exposures v));
        outcomes = same_from_has e.observed.outcomes.bits d.observed.outcomes.bits
            (λ v. q.outcomes v ∙ same_observed_set d.read e.read s d.read.outcomes.bits e.read.outcomes.bits s.outcomes v ∙ sym (p.outcomes v));
        adjusted = same_from_has e.observed.adjusted.bits d.observed.adjusted.bits
            (λ v. q.adjusted v ∙ same_observed_set d.read e.read s d.read.adjusted.bits e.read.adjusted.bits s.adjusted v ∙ sym (p.adjusted v));
        latent = same_from_has e.observed.latent.bits d.observed.latent.bits (λ v. q.no_latent v ∙ sym (p.no_latent v));
      };
    }

-- graphs that are the same have one observed graph, as diagrams hold it
pub same_drawing : (d e : Diagram) → AreSameDiagrams d e → graph_of d.observed.graph ≡ graph_of e.observed.graph
same_drawing d e s = sym (same_as (graph_of e.observed.graph) (graph_of d.observed.graph) s.observed.vertices s.observed.arrows s.observed.spouses)

-- ---- the lists of a question

-- diagrams that are the same have the same lists of an effect
pub same_effect_lists : (x y : Names) (d e : Diagram) → AreSameDiagrams d e → effect_lists e.read e.observed.names x y
    ≡ effect_lists d.read d.observed.names x y
same_effect_lists x y d e s = λ i. record {
  all = s.read.names i;
  observed = s.observed.names i;
  x = listed (s.read.names i) (s.read.exposures i) x;
  y = listed (s.read.names i) (s.read.outcomes i) y;
}

-- and of a query
pub same_query_lists : (x y given : Names) (d e : Diagram) → AreSameDiagrams d e → query_lists e.read e.observed.names x y given
    ≡ query_lists d.read d.observed.names x y given
same_query_lists x y given d e s = λ i. record {
  all = s.read.names i;
  observed = s.observed.names i;
  x = listed (s.read.names i) (s.read.exposures i) x;
  y = listed (s.read.names i) (s.read.outcomes i) y;
  given = listed (s.read.names i) (s.read.adjusted i) given;
}

-- and of a rule
pub same_rule_lists : (y x z given : List (List ℕ)) (d e : Diagram) → AreSameDiagrams d e → rule_lists e.read e.observed.names y x z given
    ≡ rule_lists d.read d.observed.names y x z given
same_rule_lists y x z given d e s = λ i. record { all = s.read.names i; observed = s.observed.names i; y = y; x = x; z = z; given = given }
