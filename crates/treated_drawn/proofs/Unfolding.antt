-- A model of the observed graph whose causes serve two vertices at most folds a model of the diagram as drawn, two worlds at once.
use Rattle.std.proofs.Common.{ℕ, ◌*◌, ◌≡◌, ◌<◌, Bool, true, false, not, cond, ◌&&◌, nat_lt, refl, sym, ap, ap₂, ◌∙◌, subst, arith}
use Rattle.std.proofs.lemmas.Bool.{lt-ltb}
use Rattle.mixed_graph.specs.Vocabulary.{MixedGraph, IsMixedGraph, Apart}
use Rattle.finite_models.specs.Vocabulary.{FiniteModel, Fits, IsAssignment, agree, intervene, solution, world_weight, total, ServesTwo}
use Rattle.finite_models.proofs.Bools.{and_first}
use Rattle.finite_models.proofs.Following.{follows_of}
use Rattle.finite_models.proofs.Ranks.{with_rank}
use Rattle.finite_models.proofs.SumLaws.{over-congr}
use Rattle.latent_projection.specs.Vocabulary.{IsProjection, observed_below, renumbered, renumbered_set}
use Rattle.latent_projection.proofs.Numbering.{IsMixedGraph-renumbered}
use Rattle.latent_projection.proofs.Projected.{IsMixedGraph-projection}
use Rattle.hidden_models.specs.Vocabulary.{set_before, values_before, values_after}
use Rattle.hidden_models.proofs.Depends.{same_agree}
use Rattle.hidden_models.proofs.Drawing.{un, folds_model, shares_model}
use Rattle.hidden_models.proofs.Expanded.{new, new_lt, expanded, agree_both}
use Rattle.hidden_models.proofs.FoldingLaw.{position}
use Rattle.hidden_models.proofs.Positions.{member_is}
use Rattle.hidden_models.proofs.ReachingLaw.{observed_of}
use Rattle.hidden_models.proofs.Unfolded.{two_weight}
use Rattle.hidden_models.proofs.Unprojected.{IsUnprojected}
use Rattle.treated_models.specs.Vocabulary.{is_both, weight_of_both}
use Rattle.treated_drawn.specs.Drawn.{FoldsBoth}
use Rattle.treated_drawn.specs.Laws.{EachIsBothFolded}
use Rattle.treated_drawn.proofs.Both.{solution_none, no_member}

-- what has values under an intervention beside what has values without one is an event of two worlds
both_two : (m : FiniteModel) (x y o none : ℕ → Bool) → ((v : ℕ) → none v ≡ false) → (s t : ℕ → ℕ) → weight_of_both m x y o s t ≡ two_weight m x y none o s t
both_two m x y o none h s t = over-congr (λ j. true) m.values m.causes (λ u. cond (is_both m x y o s t u) (world_weight m u) 0)
    (λ u. cond (agree m.vertices y (solution (intervene m x s) u) s && agree m.vertices o (solution (intervene m none t) u) t) (world_weight m u) 0) (λ j. 0)
    (λ u. ap (λ (w : ℕ → ℕ). cond (agree m.vertices y (solution (intervene m x s) u) s && agree m.vertices o w t) (world_weight m u) 0)
    (sym (solution_none m none t u h)))

module _ (g : MixedGraph) (l : ℕ → Bool) (p : MixedGraph) (m : FiniteModel) (two : ServesTwo m) (ok : IsMixedGraph g) (is : IsProjection g l p)
    (fit : Fits (renumbered p (observed_below l g.vertices)) m) where
  mixed : IsMixedGraph p
  mixed = IsMixedGraph-projection g p l ok is

  q_mixed : IsMixedGraph (renumbered p (observed_below l g.vertices))
  q_mixed = IsMixedGraph-renumbered p (observed_below l g.vertices) mixed

  abbrev put : IsUnprojected g l (expanded l g.vertices m two)
  put = un g l p m two ok is fit

  apart : (d : ℕ → Bool) → Apart (set_before l d) l
  apart d v e = observed_of (l v) (and_first (not (l v)) (d (position (λ v. not (l v)) v)) e)

  -- values of the observed vertices, in their old numbers
  before_within : (s : ℕ → ℕ) → IsAssignment m.vertices m.size s → IsAssignment g.vertices (λ v. cond (l v) 1 (m.size (new l g.vertices v))) (values_before l s)
  before_within s hs v vl = go (l v) refl
    where
      go : (c : Bool) → l v ≡ c → cond (not c) (s (position (λ v. not (l v)) v)) 0 < cond c 1 (m.size (new l g.vertices v))
      go true e = omega arith
      go false e = hs (new l g.vertices v) (subst (λ n. new l g.vertices v < n) (sym fit.vertices) (new_lt l g.vertices v vl e))

  twice_within : (s : ℕ → ℕ) → IsAssignment g.vertices (λ v. cond (l v) 1 (m.size (new l g.vertices v))) s
      → IsAssignment g.vertices (λ v. cond (l v) 1 (cond (l v) 1 (m.size (new l g.vertices v)))) s
  twice_within s hs v vl = go (l v) (hs v vl)
    where
      go : (c : Bool) → s v < cond c 1 (m.size (new l g.vertices v)) → s v < cond c 1 (cond c 1 (m.size (new l g.vertices v)))
      go true h = h
      go false h = h

  -- in the new numbers
  expanded_two : (b a b' a' : ℕ → Bool) → Apart b l → Apart a l → Apart b' l → Apart a' l → (s t : ℕ → ℕ)
      → IsAssignment g.vertices (λ v. cond (l v) 1 (m.size (new l g.vertices v))) s
      → IsAssignment g.vertices (λ v. cond (l v) 1 (m.size (new l g.vertices v))) t
      → two_weight (expanded l g.vertices m two) b a b' a' s t
      ≡ two_weight m (renumbered_set (observed_below l g.vertices) b) (renumbered_set (observed_below l g.vertices) a)
      (renumbered_set (observed_below l g.vertices) b') (renumbered_set (observed_below l g.vertices) a') (values_after l g.vertices s)
      (values_after l g.vertices t)
  expanded_two b a b' a' bo ao bo' ao' s t hs ht = with_rank p mixed left right (λ rank ranked.
      with_rank (renumbered p (observed_below l g.vertices)) q_mixed left right (λ rank' ranked'.
      over-congr (λ j. true) m.values m.causes
      (λ u. cond (agree g.vertices a (solution (intervene (expanded l g.vertices m two) b s) u) s
      && agree g.vertices a' (solution (intervene (expanded l g.vertices m two) b' t) u) t) (world_weight m u) 0)
      (λ u. cond (agree m.vertices (renumbered_set (observed_below l g.vertices) a)
      (solution (intervene m (renumbered_set (observed_below l g.vertices) b) (values_after l g.vertices s)) u) (values_after l g.vertices s)
      && agree m.vertices (renumbered_set (observed_below l g.vertices) a')
      (solution (intervene m (renumbered_set (observed_below l g.vertices) b') (values_after l g.vertices t)) u) (values_after l g.vertices t))
      (world_weight m u) 0)
      (λ j. 0)
      (λ u. ap (λ c. cond c (world_weight m u) 0) (ap₂ (λ c d. c && d)
      (agree_both p l g.vertices m two mixed is.vertices fit rank rank' ranked ranked' b a bo ao s hs u)
      (agree_both p l g.vertices m two mixed is.vertices fit rank rank' ranked ranked' b' a' bo' ao' t ht u)))))
    where
      left : ℕ
      left = two_weight (expanded l g.vertices m two) b a b' a' s t

      right : ℕ
      right = two_weight m (renumbered_set (observed_below l g.vertices) b) (renumbered_set (observed_below l g.vertices) a)
          (renumbered_set (observed_below l g.vertices) b') (renumbered_set (observed_below l g.vertices) a') (values_after l g.vertices s)
          (values_after l g.vertices t)

  -- taken to the old numbers and back, sets and values are the same
  same_set : (b : ℕ → Bool) (k : ℕ) → k < m.vertices → renumbered_set (observed_below l g.vertices) (set_before l b) k ≡ b k
  same_set b k kl =
      let low = subst (λ n. k < n) fit.vertices kl in
      let w = member_is (λ v. not (l v)) g.vertices k low in
      let lt : nat_lt k (position (λ v. not (l v)) g.vertices) ≡ true = lt-ltb k (position (λ v. not (l v)) g.vertices) low in
      rw (lt, w.inside, w.place) refl

  same_value : (s : ℕ → ℕ) (k : ℕ) → k < m.vertices → values_after l g.vertices (values_before l s) k ≡ s k
  same_value s k kl = let w = member_is (λ v. not (l v)) g.vertices k (subst (λ n. k < n) fit.vertices kl) in rw (w.inside, w.place) refl

  agree_same : (b a : ℕ → Bool) (s u : ℕ → ℕ)
      → agree m.vertices (renumbered_set (observed_below l g.vertices) (set_before l a))
      (solution (intervene m (renumbered_set (observed_below l g.vertices) (set_before l b)) (values_after l g.vertices (values_before l s))) u)
      (values_after l g.vertices (values_before l s))
      ≡ agree m.vertices a (solution (intervene m b s) u) s
  agree_same b a s u =
      same_agree (renumbered p (observed_below l g.vertices)) m q_mixed (follows_of (renumbered p (observed_below l g.vertices)) m fit)
      (renumbered_set (observed_below l g.vertices) (set_before l b)) b (renumbered_set (observed_below l g.vertices) (set_before l a)) a
      (values_after l g.vertices (values_before l s)) s (same_set b) (same_set a) (λ k kl e. same_value s k kl) (λ k kl e. same_value s k kl) u

  numbers_same : (b a b' a' : ℕ → Bool) (s t : ℕ → ℕ)
      → two_weight m (renumbered_set (observed_below l g.vertices) (set_before l b)) (renumbered_set (observed_below l g.vertices) (set_before l a))
      (renumbered_set (observed_below l g.vertices) (set_before l b')) (renumbered_set (observed_below l g.vertices) (set_before l a'))
      (values_after l g.vertices (values_before l s)) (values_after l g.vertices (values_before l t))
      ≡ two_weight m b a b' a' s t
  numbers_same b a b' a' s t = over-congr (λ j. true) m.values m.causes
      (λ u. cond (agree m.vertices (renumbered_set (observed_below l g.vertices) (set_before l a))
      (solution (intervene m (renumbered_set (observed_below l g.vertices) (set_before l b)) (values_after l g.vertices (values_before l s))) u)
      (values_after l g.vertices (values_before l s))
      && agree m.vertices (renumbered_set (observed_below l g.vertices) (set_before l a'))
      (solution (intervene m (renumbered_set (observed_below l g.vertices) (set_before l b')) (values_after l g.vertices (values_before l t))) u)
      (values_after l g.vertices (values_before l t))) (world_weight m u) 0)
      (λ u. cond (agree m.vertices a (solution (intervene m b s) u) s && agree m.vertices a' (solution (intervene m b' t) u) t) (world_weight m u) 0) (λ j. 0)
      (λ u. ap (λ c. cond c (world_weight m u) 0) (ap₂ (λ c d. c && d) (agree_same b a s u) (agree_same b' a' t u)))

  both_drawn : (x y o : ℕ → Bool) (s t : ℕ → ℕ) → IsAssignment m.vertices m.size s → IsAssignment m.vertices m.size t
      → weight_of_both put.model (set_before l x) (set_before l y) (set_before l o) (values_before l s) (values_before l t) ≡ weight_of_both m x y o s t
  both_drawn x y o s t hs ht =
      both_two put.model (set_before l x) (set_before l y) (set_before l o) (set_before l (λ v. false)) (λ v. no_member (not (l v))) (values_before l s)
      (values_before l t)
      ∙ sym (put.weighs_two (set_before l x) (set_before l y) (set_before l (λ v. false)) (set_before l o) (apart x) (apart y) (apart (λ v. false)) (apart o)
      (values_before l s) (values_before l t) (twice_within (values_before l s) (before_within s hs)) (twice_within (values_before l t) (before_within t ht)))
      ∙ expanded_two (set_before l x) (set_before l y) (set_before l (λ v. false)) (set_before l o) (apart x) (apart y) (apart (λ v. false)) (apart o)
      (values_before l s) (values_before l t) (before_within s hs) (before_within t ht)
      ∙ numbers_same x y (λ v. false) o s t
      ∙ sym (both_two m x y o (λ v. false) (λ v. refl) s t)

  pub folds_two : FoldsBoth l (un g l p m two ok is fit).model m
  folds_two = record {
    folds = folds_model g l p m two ok is fit;
    both = λ x y o s t hs ht. ap₂ (λ a b. a * b) (both_drawn x y o s t hs ht) (un g l p m two ok is fit).total_is;
  }

pub each_is_both_folded : EachIsBothFolded
each_is_both_folded = λ g ok l q is m fit two.
    let fit' : Fits (renumbered is.projection (observed_below l g.vertices)) m = subst (λ h. Fits h m) is.renumbers fit in record {
      drawn = (un g l is.projection m two ok is.projects fit').model;
      fits = (un g l is.projection m two ok is.projects fit').fits;
      folds = folds_two g l is.projection m two ok is.projects fit';
      shares = shares_model g l is.projection m two ok is.projects fit';
    }
