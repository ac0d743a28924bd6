-- Every model has one of the observed graph that folds it, nested events too.
use Rattle.std.proofs.Common.{ℕ, ◌*◌, ◌≡◌, Bool, true, not, sym, ap, ◌∙◌, subst}
use Rattle.mixed_graph.specs.Vocabulary.{MixedGraph, IsMixedGraph, Apart}
use Rattle.finite_models.specs.Vocabulary.{FiniteModel, Fits, IsAssignment, total}
use Rattle.finite_models.proofs.Following.{Follows, follows_of}
use Rattle.finite_models.proofs.Ranks.{with_rank}
use Rattle.latent_projection.specs.Vocabulary.{IsProjection, observed_below, renumbered}
use Rattle.latent_projection.proofs.Numbering.{IsMixedGraph-renumbered}
use Rattle.hidden_models.proofs.Folded.{by_fits, by_folds, p_ok, p_fit, p_tail, inside}
use Rattle.hidden_models.proofs.FoldingLaw.{fold, folded_by, TellsReached, KeepsCauses, by_treks, set_in, values_in}
use Rattle.hidden_models.proofs.ReachingLaw.{reached, reaches_some, tells_reached, keeps_causes}
use Rattle.hidden_models.proofs.Renumber.{within}
use Rattle.treated_drawn.proofs.Both.{both_folded}
use Rattle.nested_models.specs.Vocabulary.{weight_of_nested}
use Rattle.natural_drawn.specs.Laws.{EachHasNestedFolded}
use Rattle.natural_drawn.proofs.Filled.{fold_nested}
use Rattle.natural_drawn.proofs.Kept.{kept_nested}

module _ (g p : MixedGraph) (l : ℕ → Bool) (w : FiniteModel) (r : ℕ → ℕ → Bool) (j : ℕ → Bool)
    (ok : IsMixedGraph g) (is : IsProjection g l p) (fit : Fits g w) (tells : TellsReached g l w r) (keeps : KeepsCauses (fold w l r) (λ v. not (l v)) j) where
  nested_folded : (x m y z : ℕ → Bool) (s t : ℕ → ℕ) → IsAssignment (folded_by w l r j).vertices (folded_by w l r j).size s
      → IsAssignment (folded_by w l r j).vertices (folded_by w l r j).size t
      → weight_of_nested w (set_in (λ v. not (l v)) x) (set_in (λ v. not (l v)) m) (set_in (λ v. not (l v)) y) (set_in (λ v. not (l v)) z)
      (values_in (λ v. not (l v)) s) (values_in (λ v. not (l v)) t) * total (folded_by w l r j)
      ≡ weight_of_nested (folded_by w l r j) x m y z s t * total w
  nested_folded x m y z s t hs ht =
      with_rank p mixed left right (λ rank ranked. with_rank (renumbered p (observed_below l w.vertices))
      (IsMixedGraph-renumbered p (observed_below l w.vertices) mixed) left right (λ rank' ranked'.
      ap (λ n. n * total (folded_by w l r j)) (fold_nested g p l w r ok mixed (by_treks g p l is) (follows_of g w fit) tells (set_in (λ v. not (l v)) x)
      (set_in (λ v. not (l v)) m) (set_in (λ v. not (l v)) y) (set_in (λ v. not (l v)) z) (apart x) (apart m) (apart y) (apart z)
      (values_in (λ v. not (l v)) s) (values_in (λ v. not (l v)) t)
      (within p (fold w l r) (λ v. not (l v)) j mixed follows tail keeps rank rank' ranked ranked' x y s hs)
      (within p (fold w l r) (λ v. not (l v)) j mixed follows tail keeps rank rank' ranked ranked' x y t ht))
      ∙ kept_nested p (fold w l r) (λ v. not (l v)) j mixed follows tail keeps rank rank' ranked ranked' x m y z s t hs ht))
    where
      mixed : IsMixedGraph p
      mixed = p_ok g p l w r j ok is fit tells keeps

      follows : Follows p (fold w l r)
      follows = p_fit g p l w r j ok is fit tells keeps

      tail : (a b : ℕ) → p.arrow a b ≡ true → not (l a) ≡ true
      tail = p_tail g p l w r j ok is fit tells keeps

      apart : (d : ℕ → Bool) → Apart (set_in (λ v. not (l v)) d) l
      apart = inside g p l w r j ok is fit tells keeps

      left : ℕ
      left = weight_of_nested w (set_in (λ v. not (l v)) x) (set_in (λ v. not (l v)) m) (set_in (λ v. not (l v)) y) (set_in (λ v. not (l v)) z)
          (values_in (λ v. not (l v)) s) (values_in (λ v. not (l v)) t) * total (folded_by w l r j)

      right : ℕ
      right = weight_of_nested (folded_by w l r j) x m y z s t * total w

pub each_has_nested_folded : EachHasNestedFolded
each_has_nested_folded = λ g ok l q is w fit. record {
  folded = folded_by w l (reached g l w) (reaches_some g l w);
  fits = subst (λ h. Fits h (folded_by w l (reached g l w) (reaches_some g l w)))
      (ap (λ n. renumbered is.projection (observed_below l n)) fit.vertices ∙ sym is.renumbers)
      (by_fits g is.projection l w (reached g l w) (reaches_some g l w) ok is.projects fit (tells_reached g l ok w fit) (keeps_causes g l ok w fit));
  folds = record {
    both = record {
      folds = by_folds g is.projection l w (reached g l w) (reaches_some g l w) ok is.projects fit (tells_reached g l ok w fit)
          (keeps_causes g l ok w fit);
      both = both_folded g is.projection l w (reached g l w) (reaches_some g l w) ok is.projects fit (tells_reached g l ok w fit)
          (keeps_causes g l ok w fit);
    };
    nested = nested_folded g is.projection l w (reached g l w) (reaches_some g l w) ok is.projects fit (tells_reached g l ok w fit)
        (keeps_causes g l ok w fit);
  };
}
