-- The folded model fits the observed graph, and folds the model.
use Rattle.std.proofs.Common.{ℕ, ◌*◌, ◌≡◌, ◌<◌, Bool, true, false, not, ◌&&◌, nat_lt, refl, sym, ap, ◌∙◌, subst}
use Rattle.std.proofs.lemmas.Bool.{false_from_ne_true, not_from_false, lt-ltb}
use Rattle.mixed_graph.specs.Vocabulary.{MixedGraph, IsMixedGraph, Apart}
use Rattle.finite_models.specs.Vocabulary.{FiniteModel, Fits, IsAssignment, weight_of, total}
use Rattle.finite_models.proofs.Bools.{and_first}
use Rattle.finite_models.proofs.Following.{Follows, follows_of}
use Rattle.finite_models.proofs.Ranks.{with_rank}
use Rattle.latent_projection.specs.Vocabulary.{IsProjection, observed_below, renumbered_set, renumbered}
use Rattle.latent_projection.proofs.Numbering.{IsMixedGraph-renumbered}
use Rattle.latent_projection.proofs.Projected.{IsMixedGraph-projection}
use Rattle.latent_projection.proofs.Treks.{clash}
use Rattle.hidden_models.specs.Folding.{Folds, values_after}
use Rattle.hidden_models.specs.FoldingLaws.{EachHasFolded}
use Rattle.hidden_models.proofs.Depends.{weight_depends}
use Rattle.hidden_models.proofs.Fold.{fold_follows, fold_weighs}
use Rattle.hidden_models.proofs.FoldingLaw.{fold, folded_by, TellsReached, KeepsCauses, by_treks, position, member, set_in, values_in}
use Rattle.hidden_models.proofs.Folds.{kept_folds}
use Rattle.hidden_models.proofs.Positions.{position_lt, member_position, member_is}
use Rattle.hidden_models.proofs.ReachingLaw.{reached, reaches_some, tells_reached, keeps_causes, observed_of}
use Rattle.hidden_models.proofs.Renumber.{fits_kept, within}

module _ (g p : MixedGraph) (l : ℕ → Bool) (m : FiniteModel) (r : ℕ → ℕ → Bool) (j : ℕ → Bool)
    (ok : IsMixedGraph g) (is : IsProjection g l p) (fit : Fits g m) (tells : TellsReached g l m r) (keeps : KeepsCauses (fold m l r) (λ v. not (l v)) j) where
  pub p_ok : IsMixedGraph p
  p_ok = IsMixedGraph-projection g p l ok is

  pub p_fit : Follows p (fold m l r)
  p_fit = fold_follows g p l m r ok (by_treks g p l is) (follows_of g m fit) tells

  pub p_tail : (a b : ℕ) → p.arrow a b ≡ true → not (l a) ≡ true
  p_tail a b e = not_from_false (l a) ((by_treks g p l is).tail_observed a b e)

  -- the folded model fits the observed graph
  pub by_fits : Fits (renumbered p (observed_below l m.vertices)) (folded_by m l r j)
  by_fits = fits_kept p (fold m l r) (λ v. not (l v)) j p_ok p_fit p_tail keeps fit.positive_weight

  pub inside : (d : ℕ → Bool) → Apart (set_in (λ v. not (l v)) d) l
  inside d v e = observed_of (l v) (and_first (not (l v)) (d (position (λ v. not (l v)) v)) e)

  folds_new : (b a : ℕ → Bool) (s : ℕ → ℕ) → IsAssignment (folded_by m l r j).vertices (folded_by m l r j).size s
      → weight_of m (set_in (λ v. not (l v)) b) (set_in (λ v. not (l v)) a) (values_in (λ v. not (l v)) s) * total (folded_by m l r j)
      ≡ weight_of (folded_by m l r j) b a s * total m
  folds_new b a s hs =
      with_rank p p_ok left right (λ rank ranked. with_rank (renumbered p (observed_below l m.vertices))
      (IsMixedGraph-renumbered p (observed_below l m.vertices) p_ok) left right (λ rank' ranked'.
      ap (λ n. n * total (folded_by m l r j)) (fold_weighs g p l m r ok (by_treks g p l is) (follows_of g m fit) tells (set_in (λ v. not (l v)) b)
      (set_in (λ v. not (l v)) a) (inside b) (inside a) (values_in (λ v. not (l v)) s)
      (within p (fold m l r) (λ v. not (l v)) j p_ok p_fit p_tail keeps rank rank' ranked ranked' b a s hs))
      ∙ kept_folds p (fold m l r) (λ v. not (l v)) j p_ok p_fit p_tail keeps rank rank' ranked ranked' b a s hs))
    where
      left : ℕ
      left = weight_of m (set_in (λ v. not (l v)) b) (set_in (λ v. not (l v)) a) (values_in (λ v. not (l v)) s) * total (folded_by m l r j)

      right : ℕ
      right = weight_of (folded_by m l r j) b a s * total m

  size_is : (k : ℕ) → k < position (λ v. not (l v)) m.vertices → (folded_by m l r j).size k ≡ m.size (member (λ v. not (l v)) m.vertices k)
  size_is k kl = let e : l (member (λ v. not (l v)) m.vertices k) ≡ false =
      observed_of (l (member (λ v. not (l v)) m.vertices k)) (member_is (λ v. not (l v)) m.vertices k kl).inside in rw e refl

  same_set : (b : ℕ → Bool) → Apart b l → (v : ℕ) → v < m.vertices → b v ≡ set_in (λ v. not (l v)) (renumbered_set (observed_below l m.vertices) b) v
  same_set b bo v vl = go (l v) refl
    where
      go : (c : Bool) → l v ≡ c → b v ≡ (not (l v) && (nat_lt (position (λ v. not (l v)) v) (position (λ v. not (l v)) m.vertices)
          && b (member (λ v. not (l v)) m.vertices (position (λ v. not (l v)) v))))
      go true e = rw e (false_from_ne_true (b v) (λ h. clash (l v) e (bo v h)))
      go false e =
          let o : not (l v) ≡ true = not_from_false (l v) e in
          let lt : nat_lt (position (λ v. not (l v)) v) (position (λ v. not (l v)) m.vertices) ≡ true =
          lt-ltb (position (λ v. not (l v)) v) (position (λ v. not (l v)) m.vertices) (position_lt (λ v. not (l v)) v m.vertices vl o) in
          rw (o, lt) (ap b (sym (member_position (λ v. not (l v)) m.vertices v vl o)))

  same_value : (s : ℕ → ℕ) (v : ℕ) → v < m.vertices → l v ≡ false → s v ≡ values_in (λ v. not (l v)) (values_after l m.vertices s) v
  same_value s v vl e = let o : not (l v) ≡ true = not_from_false (l v) e in rw o (ap s (sym (member_position (λ v. not (l v)) m.vertices v vl o)))

  -- the folded model gives each event of observed vertices its probability, under every intervention on them
  pub by_folds : Folds l m (folded_by m l r j)
  by_folds = record {
    vertices = refl;
    sizes = size_is;
    weights = λ b a bo ao s hs.
        ap (λ n. n * total (folded_by m l r j)) (weight_depends g m ok (follows_of g m fit) b
        (set_in (λ v. not (l v)) (renumbered_set (observed_below l m.vertices) b)) a
        (set_in (λ v. not (l v)) (renumbered_set (observed_below l m.vertices) a))
        s (values_in (λ v. not (l v)) (values_after l m.vertices s)) (same_set b bo) (same_set a ao) (λ v vl e. same_value s v vl (bo v e))
        (λ v vl e. same_value s v vl (ao v e)))
        ∙ folds_new (renumbered_set (observed_below l m.vertices) b) (renumbered_set (observed_below l m.vertices) a) (values_after l m.vertices s)
        (new_within s hs);
  }
    where
      new_within : (s : ℕ → ℕ) → IsAssignment m.vertices m.size s → IsAssignment (folded_by m l r j).vertices (folded_by m l r j).size
          (values_after l m.vertices s)
      new_within s hs k kl = subst (λ n. s (member (λ v. not (l v)) m.vertices k) < n) (sym (size_is k kl))
          (hs (member (λ v. not (l v)) m.vertices k) (member_is (λ v. not (l v)) m.vertices k kl).below)

-- every model has one that folds it
pub each_has_folded : EachHasFolded
each_has_folded = λ g ok l q is m fit. record {
  folded = folded_by m l (reached g l m) (reaches_some g l m);
  fits = subst (λ h. Fits h (folded_by m l (reached g l m) (reaches_some g l m)))
      (ap (λ n. renumbered is.projection (observed_below l n)) fit.vertices ∙ sym is.renumbers)
      (by_fits g is.projection l m (reached g l m) (reaches_some g l m) ok is.projects fit (tells_reached g l ok m fit) (keeps_causes g l ok m fit));
  folds = by_folds g is.projection l m (reached g l m) (reaches_some g l m) ok is.projects fit (tells_reached g l ok m fit) (keeps_causes g l ok m fit);
}
