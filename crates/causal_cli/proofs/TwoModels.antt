-- Two models of the observed graph that give a target two values are two of the diagram as drawn.
use Rattle.std.proofs.Common.{ℕ, ◌≡◌, ◌<◌, Bool, sym, subst, ◌∙◌}
use Rattle.mixed_graph.specs.Vocabulary.{has, MixedGraph, graph_of}
use Rattle.fractions.proofs.FractionLaws.{equal_sym, equal_trans}
use Rattle.finite_models.specs.Vocabulary.{IsAssignment}
use Rattle.prob_expr.specs.Vocabulary.{PlainTarget, term_value, effect}
use Rattle.dag_reader.specs.declared.graph.ReadGraph.{ReadGraph}
use Rattle.diagram.specs.Vocabulary.{IsObservedGraph}
use Rattle.hidden_models.specs.Vocabulary.{IsObservedPositive, drawn_weights, IsFoldedFrom}
use Rattle.hidden_models.proofs.Drawing.{each_is_folded, unfolded_is_positive, agree_drawn}
use Rattle.hidden_models.proofs.Drawn.{keeps_term}
use Rattle.conditional_id.specs.Vocabulary.{AreModelsOf}
use Rattle.causal_cli.specs.AsDrawn.{HasTwoModels}

module _ (g : ReadGraph) (q : MixedGraph) (seen : IsObservedGraph g q) (t : PlainTarget) (m : AreModelsOf q t) where
  abbrev l : ℕ → Bool
  l = has g.latent.bits

  first : IsFoldedFrom (graph_of g.graph) l m.first
  first = each_is_folded (graph_of g.graph) g.graph.valid l q seen m.first m.first_fits m.first_two

  second : IsFoldedFrom (graph_of g.graph) l m.second
  second = each_is_folded (graph_of g.graph) g.graph.valid l q seen m.second m.second_fits m.second_two

  first_positive : IsObservedPositive l first.drawn
  first_positive = unfolded_is_positive (graph_of g.graph) g.graph.valid l q seen first.drawn m.first first.fits m.first_fits first.folds m.first_positive

  second_positive : IsObservedPositive l second.drawn
  second_positive = unfolded_is_positive (graph_of g.graph) g.graph.valid l q seen second.drawn m.second second.fits m.second_fits second.folds
      m.second_positive

  abbrev at : ℕ → ℕ
  at = m.differ.at

  in_first : IsAssignment (drawn_weights l first.drawn).vertices (drawn_weights l first.drawn).size at
  in_first k kl = let low = subst (λ n. k < n) (sym first.folds.vertices) kl in
      subst (λ n. at k < n) (first.folds.sizes k low) (m.differ.within k low)

  in_second : IsAssignment (drawn_weights l second.drawn).vertices (drawn_weights l second.drawn).size at
  in_second k kl =
      let low = subst (λ n. k < n) (sym second.folds.vertices) kl in
      let low' = subst (λ n. k < n) (sym m.observed.vertices) low in
      subst (λ n. at k < n) (m.observed.sizes k low' ∙ second.folds.sizes k low) (m.differ.within k low')

  pub two_models : HasTwoModels g t
  two_models = record {
    first = first.drawn;
    second = second.drawn;
    first_fits = first.fits;
    second_fits = second.fits;
    first_positive = first_positive;
    second_positive = second_positive;
    observed = agree_drawn (graph_of g.graph) g.graph.valid l q seen m.first m.second m.first_fits m.second_fits m.first_positive m.second_positive
        m.observed first second;
    differ = record {
      at = at;
      within = in_first;
      unequal = λ e. m.differ.unequal
          (equal_trans (effect m.first t at) (term_value (drawn_weights l first.drawn) t.y t.x t.given at) (effect m.second t at)
          (equal_sym (term_value (drawn_weights l first.drawn) t.y t.x t.given at) (effect m.first t at)
          (keeps_term (graph_of g.graph) g.graph.valid l q seen first.drawn m.first first.fits m.first_fits first.folds first_positive t.y t.x t.given at
          in_first))
          (equal_trans (term_value (drawn_weights l first.drawn) t.y t.x t.given at) (term_value (drawn_weights l second.drawn) t.y t.x t.given at)
          (effect m.second t at) e
          (keeps_term (graph_of g.graph) g.graph.valid l q seen second.drawn m.second second.fits m.second_fits second.folds second_positive t.y t.x t.given
          at in_second)));
    };
  }
