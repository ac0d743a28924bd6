-- A graph has one observed graph.
use Rattle.std.proofs.Common.{◌≡◌, ℕ, Bool, true, false, List, length, inl, inr, refl, sym, ap, subst, ◌∙◌, IsTrue}
use Rattle.std.specs.Prelude.{◌↔◌}
use Rattle.std.proofs.lemmas.Bool.{cases_Bool}
use Rattle.mixed_graph.specs.Vocabulary.{has, MixedGraph, IsMixedGraph, graph_of}
use Rattle.mixed_graph.proofs.Restricting.{same_graph}
use Rattle.dag_reader.specs.declared.graph.ReadGraph.{ReadGraph}
use Rattle.dag_reader.specs.Vocabulary.{AreSame}
use Rattle.latent_projection.specs.Vocabulary.{LeadsThrough, IsProjection, IsObserved, renumbered, observed_below, names_at}
use Rattle.latent_projection.proofs.KeptNames.{length-names_at}
use Rattle.latent_projection.proofs.Numbering.{IsMixedGraph-renumbered}
use Rattle.latent_projection.proofs.Projected.{IsMixedGraph-projection}
use Rattle.diagram.specs.Observed.{observed_names, IsObservedGraph}

-- ---- the observed graph

-- graphs with the same vertices and edges are equal
pub same_as : (g h : MixedGraph) → g.vertices ≡ h.vertices → ((u v : ℕ) → g.arrow u v ≡ h.arrow u v) → ((u v : ℕ) → g.both u v ≡ h.both u v) → g ≡ h
same_as g h n a b = ap (λ (k : ℕ). let m : MixedGraph = record { vertices = k; arrow = g.arrow; both = g.both } in m) n
    ∙ same_graph h.vertices g.arrow h.arrow g.both h.both a b

-- two tests of one fact are equal
same_test : (x y : Bool) (P : Type 0) → (IsTrue x ↔ P) → (IsTrue y ↔ P) → x ≡ y
same_test true true P a b = refl
same_test true false P a b = let e : IsTrue false = b.1 (a.0 refl) in cc
same_test false true P a b = let e : IsTrue false = a.1 (b.0 refl) in cc
same_test false false P a b = refl

-- a graph has one projection
pub one_projection : (g : MixedGraph) (l : ℕ → Bool) (p q : MixedGraph) → IsProjection g l p → IsProjection g l q → p ≡ q
one_projection g l p q a b = same_as p q (a.vertices ∙ sym b.vertices) arrows doubles
  where
    arrows : (u v : ℕ) → p.arrow u v ≡ q.arrow u v
    arrows u v = elim (cases_Bool (l u)) [
      | inl e ↦ (a.isolated u e).no_child v ∙ sym ((b.isolated u e).no_child v)
      | inr e ↦ elim (cases_Bool (l v)) [
        | inl f ↦ (a.isolated v f).no_parent u ∙ sym ((b.isolated v f).no_parent u)
        | inr f ↦ same_test (p.arrow u v) (q.arrow u v) (LeadsThrough g l u v) (a.arrow u v e f) (b.arrow u v e f)
      ]
    ]

    doubles : (u v : ℕ) → p.both u v ≡ q.both u v
    doubles u v = elim (cases_Bool (l u)) [
      | inl e ↦ ((a.isolated u e).no_spouse v).0 ∙ sym ((b.isolated u e).no_spouse v).0
      | inr e ↦ elim (cases_Bool (l v)) [
        | inl f ↦ ((a.isolated v f).no_spouse u).1 ∙ sym ((b.isolated v f).no_spouse u).1
        | inr f ↦ same_test (p.both u v) (q.both u v) _ (a.both u v e f) (b.both u v e f)
      ]
    ]

-- and one observed graph
one_observed : (g : MixedGraph) (l : ℕ → Bool) (q p : MixedGraph) → IsObserved g l q → IsObserved g l p → q ≡ p
one_observed g l q p a b =
    a.renumbers ∙ ap (λ (m : MixedGraph). renumbered m (observed_below l g.vertices)) (one_projection g l a.projection b.projection a.projects b.projects)
    ∙ sym b.renumbers

-- graphs that are the same have one observed graph
pub one_observed_graph : (g h : ReadGraph) → AreSame g h → (q p : MixedGraph) → IsObservedGraph g q → IsObservedGraph h p → q ≡ p
one_observed_graph g h s q p a b =
    let same : graph_of h.graph ≡ graph_of g.graph = same_as (graph_of h.graph) (graph_of g.graph) s.vertices s.arrows s.spouses in
    one_observed (graph_of g.graph) (has g.latent.bits) q p a
    (subst (λ (n : ℕ). IsObserved (graph_of g.graph) (has n) p) s.latent (subst (λ (m : MixedGraph). IsObserved m (has h.latent.bits) p) same b))

-- and the same observed names
pub same_observed_names : (g h : ReadGraph) → AreSame g h → observed_names h ≡ observed_names g
same_observed_names g h s =
    ap (λ (n : ℕ). names_at (observed_below (has n) h.graph.n) h.names) s.latent
    ∙ ap (λ (n : ℕ). names_at (observed_below (has g.latent.bits) n) h.names) s.vertices
    ∙ ap (λ (ns : List (List ℕ)). names_at (observed_below (has g.latent.bits) g.graph.n) ns) s.names

-- the observed graph of one that was read is a mixed graph
pub observed_is_mixed : (g : ReadGraph) (q : MixedGraph) → IsObservedGraph g q → IsMixedGraph q
observed_is_mixed g q is = subst IsMixedGraph (sym is.renumbers)
    (IsMixedGraph-renumbered is.projection (observed_below (has g.latent.bits) g.graph.n)
    (IsMixedGraph-projection (graph_of g.graph) is.projection (has g.latent.bits) g.graph.valid is.projects))

-- each vertex of it has a name
pub observed_named : (g : ReadGraph) (q : MixedGraph) → IsObservedGraph g q → length (observed_names g) ≡ q.vertices
observed_named g q is = length-names_at (observed_below (has g.latent.bits) g.graph.n) g.names ∙ sym (ap (λ (m : MixedGraph). m.vertices) is.renumbers)
