-- Where no path leads through m, or none past it, an effect is nil in the diagram as drawn.
use Rattle.std.proofs.Common.{ℕ, ◌*◌, ◌≡◌, ◌<◌, Bool, true, false, cond, sym, ap, ◌∙◌, ◌||◌, arith}
use Rattle.std.proofs.Math.Nat.{eq_of_mul-eq-mul_left}
use Rattle.mixed_graph.specs.Vocabulary.{has, MixedGraph, IsMixedGraph}
use Rattle.finite_models.specs.Vocabulary.{FiniteModel, Fits, IsAssignment, weight_of, total}
use Rattle.latent_projection.specs.Vocabulary.{IsObserved}
use Rattle.hidden_models.specs.Vocabulary.{drawn_weights}
use Rattle.hidden_models.proofs.Drawn.{drawn_weight}
use Rattle.hidden_models.proofs.Totals.{total_positive}
use Rattle.treated_models.specs.Vocabulary.{joined}
use Rattle.treated_drawn.proofs.Among.{q_mixed}
use Rattle.nested_models.specs.Vocabulary.{weight_of_nested}
use Rattle.nested_models.proofs.Effects.{no_indirect_path_is_effect, no_direct_path_is_effect}
use Rattle.natural_drawn.specs.Drawn.{FoldsNested, drawn_nested}
use Rattle.natural_drawn.specs.Laws.{NoIndirectPathIsDrawn, NoDirectPathIsDrawn}
use Rattle.natural_drawn.proofs.Carried.{inside}
use Rattle.natural_drawn.proofs.Folding.{each_has_nested_folded}

-- numbers in one ratio to equal ones are equal
one_number : (d e d' e' t t' : ℕ) → 0 < t' → d * t' ≡ d' * t → e * t' ≡ e' * t → d' ≡ e' → d ≡ e
one_number d e d' e' t t' some p r same = eq_of_mul-eq-mul_left t' some d e
    ((let k : t' * d ≡ d * t' = omega arith in k) ∙ p ∙ ap (λ n. n * t) same ∙ sym r ∙ (let k : e * t' ≡ t' * e = omega arith in k))

-- a nested event that is one under do(b) in what folds a model is so in it
carried : (g : MixedGraph) → IsMixedGraph g → (l : ℕ → Bool) (q : MixedGraph) → IsObserved g l q → (w w' : FiniteModel) → Fits g w → Fits q w'
    → FoldsNested l w w' → (x m y z b a : ℕ → Bool) (s t r : ℕ → ℕ) → IsAssignment w'.vertices w'.size s → IsAssignment w'.vertices w'.size t
    → IsAssignment w'.vertices w'.size r → weight_of_nested w' x m y z s t ≡ weight_of w' b a r
    → drawn_nested l w x m y z s t ≡ (drawn_weights l w).weight b a r
carried g ok l q is w w' fit fit' folds x m y z b a s t r hs ht hr same =
    one_number (drawn_nested l w x m y z s t) ((drawn_weights l w).weight b a r) (weight_of_nested w' x m y z s t) (weight_of w' b a r) (total w) (total w')
    (total_positive q w' fit') (folds.nested x m y z s t hs ht) (drawn_weight g ok l q is w w' fit fit' folds.both.folds b a r hr) same

joined_within : (n : ℕ) (size : ℕ → ℕ) (x : ℕ → Bool) (s t : ℕ → ℕ) → IsAssignment n size s → IsAssignment n size t → IsAssignment n size (joined x s t)
joined_within n size x s t hs ht v il = go (x v)
  where
    go : (c : Bool) → cond c (t v) (s v) < size v
    go true = ht v il
    go false = hs v il

pub no_indirect_path_is_drawn : NoIndirectPathIsDrawn
no_indirect_path_is_drawn = λ g ok l q is x m y z asked none w fit s t hs ht.
    let h = each_has_nested_folded g ok l q is w fit in
    let hs' = inside g ok l q is w h.folded fit h.fits h.folds s hs in
    let ht' = inside g ok l q is w h.folded fit h.fits h.folds t ht in
    carried g ok l q is w h.folded fit h.fits h.folds (has x) (has m) (has y) (has z) (has x) (λ v. has y v || has z v) s t s hs' ht' hs'
    (no_indirect_path_is_effect q (q_mixed g ok l q is) h.folded h.fits (has x) (has m) (has y) (has z) asked none s t hs' ht')

pub no_direct_path_is_drawn : NoDirectPathIsDrawn
no_direct_path_is_drawn = λ g ok l q is x m y z asked none w fit s t hs ht.
    let h = each_has_nested_folded g ok l q is w fit in
    let hs' = inside g ok l q is w h.folded fit h.fits h.folds s hs in
    let ht' = inside g ok l q is w h.folded fit h.fits h.folds t ht in
    carried g ok l q is w h.folded fit h.fits h.folds (has x) (has m) (has y) (has z) (has x) (λ v. has y v || has z v) s t (joined (has x) s t) hs' ht'
    (joined_within h.folded.vertices h.folded.size (has x) s t hs' ht')
    (no_direct_path_is_effect q (q_mixed g ok l q is) h.folded h.fits (has x) (has m) (has y) (has z) asked none s t hs' ht')
