use Rattle.std.proofs.Common.{◌≡◌, ◌∙◌, ◌<◌, not, sym, ℕ, true, subst}
use Rattle.std.proofs.lemmas.Bool.{and_from, not_from_false, lt-ltb}
use Rattle.mixed_graph.specs.Vocabulary.{has, MixedGraph, IsDescendant, graph_of}
use Rattle.finite_models.proofs.Bools.{and_first, and_second}
use Rattle.hidden_models.proofs.ReachingLaw.{observed_of}
use Rattle.hidden_models.proofs.Reach.{reached_of, of_reached}
use Rattle.hidden_models.proofs.reaching.reach.Goals as goal

pub returns-clause-tells : goal.returns-clause-tells
returns-clause-tells c v =
    let d : has c.descendants.result.bits v ≡ true → IsDescendant _ (has c.args.s.bits) v =
    λ h. subst (λ (q : MixedGraph). IsDescendant q (has c.args.s.bits) v) c.restrict-past_latent.ensures ((c.descendants.ensures v).0 h) in
    let all : (u : ℕ) → u < c.args.g.now.n → has c.below.result.bits u ≡ true = λ u lt. c.below.ensures.members u ∙ lt-ltb u c.args.g.now.n lt in (
      λ h. let e = sym (c.difference.ensures.members v) ∙ h in
          reached_of (graph_of c.args.g.now) c.args.g.now.valid (has c.args.latent.bits) (has c.below.result.bits) (has c.empty.result.bits) all
          (has c.args.s.bits) (λ u i. c.requires u i) v
          (d (and_first (has c.descendants.result.bits v) (not (has c.args.latent.bits v)) e))
          (observed_of (has c.args.latent.bits v) (and_second (has c.descendants.result.bits v) (not (has c.args.latent.bits v)) e)),
      λ r. let w = of_reached (graph_of c.args.g.now) c.args.g.now.valid (has c.args.latent.bits) (has c.below.result.bits) (has c.empty.result.bits) all
          (has c.args.s.bits) (λ u i. c.requires u i) v r in
          c.difference.ensures.members v ∙ and_from (has c.descendants.result.bits v) (not (has c.args.latent.bits v))
          ((c.descendants.ensures v).1 (subst (λ (q : MixedGraph). IsDescendant q (has c.args.s.bits) v) (sym c.restrict-past_latent.ensures) w))
          (not_from_false (has c.args.latent.bits v) r.observed),
    )
