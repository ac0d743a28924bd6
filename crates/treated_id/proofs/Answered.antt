-- From what was found to the answer.
use Rattle.std.proofs.Common.{◌≡◌, ℕ, ◌<◌, Bool, true, ◌||◌, ◌==◌, ap, ◌∙◌, subst, arith}
use Rattle.std.proofs.lemmas.Bool.{eqb-true}
use Rattle.mixed_graph.specs.Vocabulary.{has, MixedGraph, IsMixedGraph, IsAncestor, union}
use Rattle.mixed_graph.proofs.Masks.{same_from_has}
use Rattle.mixed_graph.proofs.MaskLaws.{has_join}
use Rattle.finite_models.proofs.Bools.{same_truth}
use Rattle.hedge.specs.Vocabulary.{IsLinked, IsSetOf}
use Rattle.hedge.proofs.Parts.{link_in}
use Rattle.treated_id.specs.Answers.{IsPair, HasNoPair}
use Rattle.treated_id.specs.Sets.{AreAncestors, IsConfounded}
use Rattle.treated_id.specs.declared.pairs.Pair.{Pair}
use Rattle.treated_id.proofs.Ancestors.{ancestors_own}

-- one fact has one set
set_one : (a b : ℕ) (P : ℕ → Type 0) → IsSetOf a P → IsSetOf b P → a ≡ b
set_one a b P i j = same_from_has a b (λ v. same_truth (has a v) (has b v) (λ e. j.complete v (i.sound v e)) (λ e. i.complete v (j.sound v e)))

module _ (g : MixedGraph) (ok : IsMixedGraph g) (x y z s : ℕ) (are : AreAncestors g x y z s) (x_low : (v : ℕ) → has x v ≡ true → v < g.vertices) where
  pub x_in : (v : ℕ) → has x v ≡ true → has s v ≡ true
  x_in v e = ancestors_own g ok s (has (union (union x z) y)) are v (x_low v e)
      (has_join (union x z) y v ∙ left (has (union x z) v) (has y v) (has_join x z v ∙ left (has x v) (has z v) e))
    where
      left : (p q : Bool) → p ≡ true → (p || q) ≡ true
      left p q h = grind (arith, h)

  pub child_in : (pair : Pair) → IsPair g x s pair → has s pair.child ≡ true
  child_in pair k = link_in g ok (has s) (λ w. w == pair.treatment) pair.child
      (λ w e. ap (has s) (eqb-true w pair.treatment e) ∙ x_in pair.treatment k.treated) k.linked

  pub not_confounded : HasNoPair g x s → IsConfounded g x y z → ⊥
  not_confounded none k = none k.treatment k.child k.treated k.arrow
      (subst (λ a. IsLinked g (has a) (λ v. v == k.treatment) k.child) (set_one k.ancestors s (IsAncestor g (has (union (union x z) y))) k.are are) k.linked)
