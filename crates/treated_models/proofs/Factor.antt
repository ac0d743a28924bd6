-- Factors as effects, and events with held arrows as sums of factors.
use Rattle.std.proofs.Common.{ℕ, ◌*◌, ◌≡◌, ◌<◌, Bool, true, false, cond, eqb, not, refl, sym, ap, ◌∙◌, ◌||◌, eqb-true, eq-eqb}
use Rattle.std.proofs.lemmas.Bool.{cond-false, cond-true}
use Rattle.mixed_graph.specs.Vocabulary.{MixedGraph}
use Rattle.finite_models.specs.Vocabulary.{sum_over, FiniteModel, IsAssignment, solution, agree, event_weight, world_weight, intervene, weight_of}
use Rattle.finite_models.proofs.Bools.{same_truth}
use Rattle.finite_models.proofs.Factors.{marginal, weight_by_checks}
use Rattle.finite_models.proofs.Following.{Follows, follows_of, follows_intervene}
use Rattle.finite_models.proofs.Indicators.{number, number-all, cond-number, all_below_each, all_below_from, cond_gives, cond_from}
use Rattle.finite_models.proofs.Ranks.{with_rank}
use Rattle.finite_models.proofs.Solutions.{IsRanked, obeys, solution_is, unique, agree_from, agree_gives}
use Rattle.finite_models.proofs.SumLaws.{over-congr}
use Rattle.do_rules.specs.Vocabulary.{cut_out}
use Rattle.do_rules.proofs.Altered.{ranked_out, follows_hold}
use Rattle.treated_models.specs.Treated.{held, factor_of, obeyed, FactorIsEffect, HeldEventIsSum}

module _ (g : MixedGraph) (m : FiniteModel) (rank : ℕ → ℕ) (ranked : IsRanked g rank) (follows : Follows g m) (a : ℕ → Bool) (s : ℕ → ℕ)
    (within : IsAssignment m.vertices m.size s) (u : ℕ → ℕ) where
  abbrev after : ℕ → ℕ
  after = solution (intervene m (λ v. not (a v)) s) u

  solved : (v : ℕ) → v < m.vertices → after v ≡ cond (not (a v)) (s v) (m.mechanism v after u)
  solved v il = solution_is g (intervene m (λ v. not (a v)) s) rank ranked (follows_intervene g m (λ v. not (a v)) s within follows) u v il

  -- where the members of a have their values, all vertices do
  everywhere : agree m.vertices a after s ≡ true → (v : ℕ) → v < m.vertices → after v ≡ s v
  everywhere e v il = go (a v) refl
    where
      go : (c : Bool) → a v ≡ c → after v ≡ s v
      go true i = agree_gives m.vertices a after s e v il i
      go false o = solved v il ∙ cond-true (not (a v)) (s v) (m.mechanism v after u) (rw o refl)

  same : agree m.vertices a after s ≡ obeys m a u s
  same = same_truth (agree m.vertices a after s) (obeys m a u s)
      (λ e. all_below_from m.vertices (λ v. cond (a v) (eqb (s v) (m.mechanism v s u)) true)
      (λ v il. cond_from (a v) (eqb (s v) (m.mechanism v s u)) (λ i. eq-eqb (s v) (m.mechanism v s u)
      (sym (everywhere e v il) ∙ solved v il ∙ cond-false (not (a v)) (s v) (m.mechanism v after u) (rw i refl)
      ∙ follows.reads v il after s u u (λ p h. everywhere e p (rw follows.vertices (ranked.tail_below p v h))) (λ j jl q. refl)))))
      (λ e. agree_from m.vertices a after s (λ v il i. sym (unique g (intervene m (λ v. not (a v)) s) rank ranked
      (follows_intervene g m (λ v. not (a v)) s within follows) u s after (λ w wl. at e w wl (a w) refl)
      (solution_is g (intervene m (λ v. not (a v)) s) rank ranked (follows_intervene g m (λ v. not (a v)) s within follows) u) v il)))
    where
      at : obeys m a u s ≡ true → (w : ℕ) → w < m.vertices → (c : Bool) → a w ≡ c → s w ≡ cond (not (a w)) (s w) (m.mechanism w s u)
      at e w wl true i = eqb-true (s w) (m.mechanism w s u) (cond_gives (a w) (eqb (s w) (m.mechanism w s u))
          (all_below_each m.vertices (λ v. cond (a v) (eqb (s v) (m.mechanism v s u)) true) e w wl) i)
          ∙ sym (cond-false (not (a w)) (s w) (m.mechanism w s u) (rw i refl))
      at e w wl false o = sym (cond-true (not (a w)) (s w) (m.mechanism w s u) (rw o refl))

pub factor_is_effect : FactorIsEffect
factor_is_effect g ok m fit a s within = with_rank g ok (factor_of m a s) (weight_of m (λ v. not (a v)) a s)
    (λ rank ranked. over-congr (λ j. true) m.values m.causes (λ u. world_weight m u * obeyed m a s u)
    (λ u. cond (agree m.vertices a (solution (intervene m (λ v. not (a v)) s) u) s) (world_weight m u) 0) (λ j. 0)
    (λ u. ap (λ r. world_weight m u * r) (sym (number-all m.vertices (λ v. cond (a v) (eqb (s v) (m.mechanism v s u)) true)))
    ∙ ap (λ b. world_weight m u * number b) (sym (same g m rank ranked (follows_of g m fit) a s within u))
    ∙ sym (cond-number (agree m.vertices a (solution (intervene m (λ v. not (a v)) s) u) s) (world_weight m u))))

pub held_event_is_sum : HeldEventIsSum
held_event_is_sum g ok m fit x e rest apart closed s t within =
    with_rank g ok (event_weight (held m x s) e t) (sum_over rest m.size m.vertices (factor_of (held m x s) (λ v. e v || rest v)) t)
    (λ rank ranked. let follows = follows_hold g m x s within (follows_of g m fit) in let order = ranked_out g x rank ranked in
    sym (marginal (cut_out g x) (held m x s) rank order follows e rest t apart)
    ∙ over-congr rest m.size m.vertices (event_weight (held m x s) (λ v. e v || rest v)) (factor_of (held m x s) (λ v. e v || rest v)) t
    (λ r. weight_by_checks (cut_out g x) (held m x s) rank order follows (λ v. e v || rest v) r closed))
