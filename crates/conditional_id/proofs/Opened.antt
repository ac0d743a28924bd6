-- An observation that doesn't turn and y are dependent in a model in which nothing reads that observation.
use Rattle.std.proofs.Common.{ℕ, ◌≡◌, Bool, true, not, refl, ap, ◌∙◌, ◌&&◌, ◌||◌}
use Rattle.std.proofs.lemmas.Bool.{not-true}
use Rattle.mixed_graph.specs.Vocabulary.{MixedGraph, IsMixedGraph}
use Rattle.finite_models.specs.Vocabulary.{set_at, FiniteModel, Fits}
use Rattle.finite_models.proofs.Bools.{and_second, not_both}
use Rattle.finite_models.proofs.SumLaws.{set_at-other}
use Rattle.do_rules.specs.Vocabulary.{cut_into, cut_out}
use Rattle.do_rules.proofs.Fewer.{HasFewer, fewer_into, fewer_out, graph_into, graph_out}
use Rattle.m_separation.specs.Vocabulary.{HasOpenWalk}
use Rattle.walk_models.specs.Vocabulary.{event, IsBelowSomewhere}
use Rattle.walk_models.proofs.Told.{seen_ends_tell}
use Rattle.do_rules.proofs.Failing.{headless_into}
use Rattle.do_rules.proofs.RuleWalks.{walk_to, joined_more, fewer_twice}
use Rattle.conditional_id.specs.Masked.{IsUnread}

-- the graph of rule 2
abbrev pub rule_graph : MixedGraph → (x z : ℕ → Bool) → MixedGraph
rule_graph g x z = cut_out (cut_into g x) z

module _ (g : MixedGraph) (ok : IsMixedGraph g) (x z : ℕ → Bool) where
  abbrev h : MixedGraph
  h = rule_graph g x z

  cut_ok : IsMixedGraph (cut_into g x)
  cut_ok = graph_into g x ok

  pub graph_ok : IsMixedGraph h
  graph_ok = graph_out (cut_into g x) z cut_ok

  fewer : HasFewer h g
  fewer = fewer_twice h (cut_into g x) g (fewer_out (cut_into g x) z cut_ok) (fewer_into g x ok)

  pub dependent : (y W : ℕ → Bool) → HasOpenWalk h y z (λ u. x u || W u)
      → IsBelowSomewhere h (event x (λ u. y u || W u)) (event x (λ u. z u || W u)) (event x (λ u. y u || (z u || W u))) (event x W)
  dependent y W walk =
      let p = walk_to h graph_ok x (λ k u v j e. headless_into g x k u v
      (joined_more h (cut_into g x) (fewer_out (cut_into g x) z cut_ok) u k v j) e) W y z walk in
      seen_ends_tell h graph_ok p.0 x W y z p.1

  -- a model that fits it fits g
  pub fits_more : (q : FiniteModel) → Fits h q → Fits g q
  fits_more q fit = record {
    vertices = fit.vertices;
    positive_size = fit.positive_size;
    positive_weight = fit.positive_weight;
    some_child = fit.some_child;
    child_below = fit.child_below;
    joined = λ j u v jl a c ne. fewer.spouses u v (fit.joined j u v jl a c ne);
    reads = λ v lt s t u w parents causes. fit.reads v lt s t u w (λ p e. parents p (fewer.arrows p v e)) causes;
    below = fit.below;
  }

  -- and no mechanism reads a member of z
  pub not_read : (q : FiniteModel) → Fits h q → (w : ℕ) → z w ≡ true → IsUnread q w
  not_read q fit w e v s u i lt = fit.reads v lt (set_at s w i) s u u
      (λ p a. set_at-other s w i p (λ same. not_both (z p) (ap z same ∙ e) (not-true (z p) (and_second (g.arrow p v && not (x v)) (not (z p)) a))))
      (λ j jl k. refl)
