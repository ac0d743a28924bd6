-- The folded model gives events of two worlds the weights that the model gives them.
use Rattle.std.proofs.Common.{ℕ, zero, suc, ◌*◌, ◌≡◌, Bool, true, false, not, cond, ◌&&◌, refl, sym, ap, ap₂, ◌∙◌, subst, arith}
use mathlib.Core.Path.{fun_ext}
use Rattle.mixed_graph.specs.Vocabulary.{members_below, MixedGraph, IsMixedGraph, Apart}
use Rattle.finite_models.specs.Vocabulary.{FiniteModel, Fits, IsAssignment, rounds, solution, agree, intervene, world_weight, total}
use Rattle.finite_models.proofs.Following.{Follows, follows_of}
use Rattle.finite_models.proofs.Indicators.{number, number-and, cond-number}
use Rattle.finite_models.proofs.Ranks.{with_rank}
use Rattle.finite_models.proofs.Solutions.{IsRanked}
use Rattle.finite_models.proofs.SumLaws.{over-congr, over-congr_within, Ignores}
use Rattle.latent_projection.specs.Vocabulary.{IsProjection, observed_below, renumbered}
use Rattle.latent_projection.proofs.Numbering.{IsMixedGraph-renumbered}
use Rattle.latent_projection.proofs.Treks.{ProjectsByTreks}
use Rattle.hidden_models.proofs.Fold.{same_agree as fold_agree}
use Rattle.hidden_models.proofs.Folded.{by_fits, by_folds, p_ok, p_fit, p_tail, inside}
use Rattle.hidden_models.proofs.FoldingLaw.{fold, folded_by, TellsReached, KeepsCauses, by_treks, position, member, kept, set_in, values_in}
use Rattle.hidden_models.proofs.Folds.{agreed, agreed_ignores, sides, rest_total, total_kept}
use Rattle.hidden_models.proofs.Positions.{spread}
use Rattle.hidden_models.proofs.ReachingLaw.{reached, reaches_some, tells_reached, keeps_causes}
use Rattle.hidden_models.proofs.Renumber.{same_agree as kept_agree, within}
use Rattle.treated_models.specs.Vocabulary.{is_both, weight_of_both}
use Rattle.treated_drawn.specs.Laws.{EachHasBothFolded}

-- where nothing is set the solution is that of the model
pub solution_none : (m : FiniteModel) (b : ℕ → Bool) (t u : ℕ → ℕ) → ((v : ℕ) → b v ≡ false) → solution (intervene m b t) u ≡ solution m u
solution_none m b t u none = go m.vertices
  where
    go : (k : ℕ) → rounds (intervene m b t) k u ≡ rounds m k u
    go zero = refl
    go (suc k) = let ih = go k in fun_ext (λ v. let e = none v in rw e (ap (λ (x : ℕ → ℕ). m.mechanism v x u) ih))

pub nothing : (l : ℕ → Bool) → Apart (λ v. false) l
nothing l v e = absurd (grind (arith, e))

pub no_member : (c : Bool) → (c && false) ≡ false
no_member true = refl
no_member false = refl

-- ---- the hidden mechanisms are put into the observed ones
module _ (g p : MixedGraph) (l : ℕ → Bool) (m : FiniteModel) (r : ℕ → ℕ → Bool) (ok : IsMixedGraph g) (is : ProjectsByTreks g l p) (fit : Follows g m)
    (tells : TellsReached g l m r) (x y o : ℕ → Bool) (xo : Apart x l) (yo : Apart y l) (oo : Apart o l) (s t : ℕ → ℕ)
    (hs : IsAssignment m.vertices (λ v. cond (l v) 1 (m.size v)) s) (ht : IsAssignment m.vertices (λ v. cond (l v) 1 (m.size v)) t) where
  seen_same : (rank : ℕ → ℕ) → IsRanked g rank → (u : ℕ → ℕ) → IsAssignment m.causes m.values u
      → agree m.vertices o (solution m u) t ≡ agree m.vertices o (solution (fold m l r) u) t
  seen_same rank ranked u hu =
      ap (λ (w : ℕ → ℕ). agree m.vertices o w t) (sym (solution_none m (λ v. false) t u (λ v. refl)))
      ∙ fold_agree g p l m r ok is fit tells rank ranked (λ v. false) o (nothing l) oo t ht u hu
      ∙ ap (λ (w : ℕ → ℕ). agree m.vertices o w t) (solution_none (fold m l r) (λ v. false) t u (λ v. refl))

  fold_both : weight_of_both m x y o s t ≡ weight_of_both (fold m l r) x y o s t
  fold_both = with_rank g ok (weight_of_both m x y o s t) (weight_of_both (fold m l r) x y o s t) (λ rank ranked.
      over-congr_within (λ j. true) m.values m.causes (λ u. cond (is_both m x y o s t u) (world_weight m u) 0)
      (λ u. cond (is_both (fold m l r) x y o s t u) (world_weight m u) 0) (λ j. 0)
      (λ u values rest. ap (λ b. cond b (world_weight m u) 0) (ap₂ (λ a b. a && b)
      (fold_agree g p l m r ok is fit tells rank ranked x y xo yo s hs u (λ j jl. values j jl refl))
      (seen_same rank ranked u (λ j jl. values j jl refl)))))

-- ---- idle causes and hidden vertices are left out
module _ (p : MixedGraph) (m : FiniteModel) (o j : ℕ → Bool) (ok : IsMixedGraph p) (fit : Follows p m) (tail : (a b : ℕ) → p.arrow a b ≡ true → o a ≡ true)
    (keeps : KeepsCauses m o j) (rank rank' : ℕ → ℕ) (ranked : IsRanked p rank) (ranked' : IsRanked (renumbered p (members_below o m.vertices)) rank')
    (x y e : ℕ → Bool) (s t : ℕ → ℕ) (hs : IsAssignment (position o m.vertices) (λ v. m.size (member o m.vertices v)) s)
    (ht : IsAssignment (position o m.vertices) (λ v. m.size (member o m.vertices v)) t) where
  -- whether the events of the two worlds are there
  abbrev set_there : (ℕ → ℕ) → Bool
  set_there = agreed p m o j ok fit tail keeps rank rank' ranked ranked' x y s hs

  abbrev seen_there : (ℕ → ℕ) → Bool
  seen_there = agreed p m o j ok fit tail keeps rank rank' ranked ranked' (λ v. false) e t ht

  both_ignore : Ignores m.causes (λ i. not (j i)) (λ u. number (set_there u) * number (seen_there u))
  both_ignore u i k il n = ap₂ (λ a b. a * b) (agreed_ignores p m o j ok fit tail keeps rank rank' ranked ranked' x y s hs u i k il n)
      (agreed_ignores p m o j ok fit tail keeps rank rank' ranked ranked' (λ v. false) e t ht u i k il n)

  at_first : (u : ℕ → ℕ) → cond (is_both m (set_in o x) (set_in o y) (set_in o e) (values_in o s) (values_in o t) u) (world_weight m u) 0
      ≡ world_weight m u * (number (set_there u) * number (seen_there u))
  at_first u =
      ap (λ (w : ℕ → ℕ). cond (set_there u && agree m.vertices (set_in o e) w (values_in o t)) (world_weight m u) 0)
      (sym (solution_none m (set_in o (λ v. false)) (values_in o t) u (λ v. no_member (o v))))
      ∙ cond-number (set_there u && seen_there u) (world_weight m u)
      ∙ ap (λ n. world_weight m u * n) (number-and (set_there u) (seen_there u))

  at_second : (c : ℕ → ℕ) → world_weight (kept m o j) c
      * (number (set_there (spread j m.causes (λ i. 0) c)) * number (seen_there (spread j m.causes (λ i. 0) c)))
      ≡ cond (is_both (kept m o j) x y e s t c) (world_weight (kept m o j) c) 0
  at_second c =
      ap (λ n. world_weight (kept m o j) c * n) (sym (number-and (set_there (spread j m.causes (λ i. 0) c)) (seen_there (spread j m.causes (λ i. 0) c))))
      ∙ sym (cond-number (set_there (spread j m.causes (λ i. 0) c) && seen_there (spread j m.causes (λ i. 0) c)) (world_weight (kept m o j) c))
      ∙ ap (λ b. cond b (world_weight (kept m o j) c) 0) (ap₂ (λ a b. a && b)
      (kept_agree p m o j ok fit tail keeps rank rank' ranked ranked' x y s hs c)
      (kept_agree p m o j ok fit tail keeps rank rank' ranked ranked' (λ v. false) e t ht c
      ∙ ap (λ (w : ℕ → ℕ). agree (position o m.vertices) e w t) (solution_none (kept m o j) (λ v. false) t c (λ v. refl))))

  kept_both : weight_of_both m (set_in o x) (set_in o y) (set_in o e) (values_in o s) (values_in o t)
      ≡ weight_of_both (kept m o j) x y e s t * rest_total m o j
  kept_both =
      over-congr (λ i. true) m.values m.causes
      (λ u. cond (is_both m (set_in o x) (set_in o y) (set_in o e) (values_in o s) (values_in o t) u) (world_weight m u) 0)
      (λ u. world_weight m u * (number (set_there u) * number (seen_there u))) (λ i. 0) at_first
      ∙ sides m o j (λ u. number (set_there u) * number (seen_there u)) both_ignore
      ∙ ap (λ n. n * rest_total m o j) (over-congr (λ i. true) (kept m o j).values (position j m.causes)
      (λ c. world_weight (kept m o j) c * (number (set_there (spread j m.causes (λ i. 0) c)) * number (seen_there (spread j m.causes (λ i. 0) c))))
      (λ c. cond (is_both (kept m o j) x y e s t c) (world_weight (kept m o j) c) 0) (λ i. 0) at_second)

  crossed : (n n' t t' r : ℕ) → n ≡ n' * r → t ≡ t' * r → n * t' ≡ n' * t
  crossed n n' t t' r h k = rw (h, k) (omega arith)

  both_kept : weight_of_both m (set_in o x) (set_in o y) (set_in o e) (values_in o s) (values_in o t) * total (kept m o j)
      ≡ weight_of_both (kept m o j) x y e s t * total m
  both_kept = crossed (weight_of_both m (set_in o x) (set_in o y) (set_in o e) (values_in o s) (values_in o t)) (weight_of_both (kept m o j) x y e s t)
      (total m) (total (kept m o j)) (rest_total m o j) kept_both (total_kept m o j)

-- ---- both together
module _ (g p : MixedGraph) (l : ℕ → Bool) (m : FiniteModel) (r : ℕ → ℕ → Bool) (j : ℕ → Bool)
    (ok : IsMixedGraph g) (is : IsProjection g l p) (fit : Fits g m) (tells : TellsReached g l m r) (keeps : KeepsCauses (fold m l r) (λ v. not (l v)) j) where
  pub both_folded : (x y e : ℕ → Bool) (s t : ℕ → ℕ) → IsAssignment (folded_by m l r j).vertices (folded_by m l r j).size s
      → IsAssignment (folded_by m l r j).vertices (folded_by m l r j).size t
      → weight_of_both m (set_in (λ v. not (l v)) x) (set_in (λ v. not (l v)) y) (set_in (λ v. not (l v)) e) (values_in (λ v. not (l v)) s)
      (values_in (λ v. not (l v)) t) * total (folded_by m l r j)
      ≡ weight_of_both (folded_by m l r j) x y e s t * total m
  both_folded x y e s t hs ht =
      with_rank p mixed left right (λ rank ranked. with_rank (renumbered p (observed_below l m.vertices))
      (IsMixedGraph-renumbered p (observed_below l m.vertices) mixed) left right (λ rank' ranked'.
      ap (λ n. n * total (folded_by m l r j)) (fold_both g p l m r ok (by_treks g p l is) (follows_of g m fit) tells (set_in (λ v. not (l v)) x)
      (set_in (λ v. not (l v)) y) (set_in (λ v. not (l v)) e) (apart x) (apart y) (apart e) (values_in (λ v. not (l v)) s) (values_in (λ v. not (l v)) t)
      (within p (fold m l r) (λ v. not (l v)) j mixed follows tail keeps rank rank' ranked ranked' x y s hs)
      (within p (fold m l r) (λ v. not (l v)) j mixed follows tail keeps rank rank' ranked ranked' x y t ht))
      ∙ both_kept p (fold m l r) (λ v. not (l v)) j mixed follows tail keeps rank rank' ranked ranked' x y e s t hs ht))
    where
      mixed : IsMixedGraph p
      mixed = p_ok g p l m r j ok is fit tells keeps

      follows : Follows p (fold m l r)
      follows = p_fit g p l m r j ok is fit tells keeps

      tail : (a b : ℕ) → p.arrow a b ≡ true → not (l a) ≡ true
      tail = p_tail g p l m r j ok is fit tells keeps

      apart : (d : ℕ → Bool) → Apart (set_in (λ v. not (l v)) d) l
      apart = inside g p l m r j ok is fit tells keeps

      left : ℕ
      left = weight_of_both m (set_in (λ v. not (l v)) x) (set_in (λ v. not (l v)) y) (set_in (λ v. not (l v)) e) (values_in (λ v. not (l v)) s)
          (values_in (λ v. not (l v)) t) * total (folded_by m l r j)

      right : ℕ
      right = weight_of_both (folded_by m l r j) x y e s t * total m

-- every model has one that folds it, two worlds at once
pub each_has_both_folded : EachHasBothFolded
each_has_both_folded = λ g ok l q is m fit. record {
  folded = folded_by m l (reached g l m) (reaches_some g l m);
  fits = subst (λ h. Fits h (folded_by m l (reached g l m) (reaches_some g l m)))
      (ap (λ n. renumbered is.projection (observed_below l n)) fit.vertices ∙ sym is.renumbers)
      (by_fits g is.projection l m (reached g l m) (reaches_some g l m) ok is.projects fit (tells_reached g l ok m fit) (keeps_causes g l ok m fit));
  folds = record {
    folds = by_folds g is.projection l m (reached g l m) (reaches_some g l m) ok is.projects fit (tells_reached g l ok m fit) (keeps_causes g l ok m fit);
    both = both_folded g is.projection l m (reached g l m) (reaches_some g l m) ok is.projects fit (tells_reached g l ok m fit)
        (keeps_causes g l ok m fit);
  };
}
