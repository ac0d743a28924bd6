-- A formula of parts that equals an effect among the treated in the observed graph equals it in the diagram as drawn.
use Rattle.std.proofs.Common.{ℕ, ◌*◌, ◌≡◌, ◌<◌, ◌≤◌, Bool, true, false, not, cond, refl, sym, ap, ◌∙◌, ◌||◌, subst, mul-pos, List, arith}
use Rattle.mixed_graph.specs.Vocabulary.{has, MixedGraph, IsMixedGraph, union}
use Rattle.fractions.specs.Vocabulary.{IsEqual}
use Rattle.fractions.proofs.FractionLaws.{equal_trans, div_equal}
use Rattle.finite_models.specs.Vocabulary.{FiniteModel, Fits, IsAssignment, event_weight, total}
use Rattle.finite_models.proofs.Following.{follows_of}
use Rattle.finite_models.proofs.Positive.{positive_weight}
use Rattle.finite_models.proofs.Weights.{weight_of-none}
use Rattle.latent_projection.specs.Vocabulary.{IsObserved}
use Rattle.prob_expr.specs.Vocabulary.{weights_of, add_over, term_value}
use Rattle.prob_expr.proofs.Alike.{left_positive}
use Rattle.prob_expr.proofs.Boxes.{assignment_set, add_over_equal}
use Rattle.hidden_models.specs.Vocabulary.{IsObservedPositive, set_before, values_before, drawn_weights}
use Rattle.hidden_models.proofs.Drawn.{drawn_weight, drawn_positive, keeps_term}
use Rattle.hidden_models.proofs.Statements.{one_fraction}
use Rattle.hidden_models.proofs.Totals.{total_positive}
use Rattle.treated_models.specs.Vocabulary.{joined, weight_of_both}
use Rattle.treated_models.specs.NoFormula.{among_at}
use Rattle.treated_drawn.specs.Vocabulary.{drawn_both}
use Rattle.treated_drawn.proofs.Both.{no_member}
use Rattle.treated_drawn.proofs.Among.{q_mixed}
use Rattle.treated_parts.specs.Vocabulary.{treated_value}
use Rattle.natural_id.specs.Vocabulary.{PlainPart, parts_value}
use Rattle.natural_drawn.specs.Drawn.{FoldsNested}
use Rattle.natural_drawn.specs.Vocabulary.{drawn_parts_value}
use Rattle.natural_drawn.proofs.Carried.{inside, positive}
use Rattle.natural_drawn.proofs.Folding.{each_has_nested_folded}
use Rattle.natural_drawn.proofs.Formulas.{IsValued, sizes, parts_same}
use Rattle.parts_drawn.specs.Drawn.{drawn_among_at, drawn_treated_value}
use Rattle.parts_drawn.specs.Laws.{TreatedPartsAreDrawn}

-- values of x as observed, and of all else as set, are values
joined_within : (n : ℕ) (size : ℕ → ℕ) (x : ℕ → Bool) (s t : ℕ → ℕ) → IsAssignment n size s → IsAssignment n size t → IsAssignment n size (joined x s t)
joined_within n size x s t hs ht v il = go (x v)
  where
    go : (c : Bool) → cond c (t v) (s v) < size v
    go true = ht v il
    go false = hs v il

module _ (g : MixedGraph) (ok : IsMixedGraph g) (l : ℕ → Bool) (q : MixedGraph) (is : IsObserved g l q) (w w' : FiniteModel) (fit : Fits g w)
    (fit' : Fits q w') (folds : FoldsNested l w w') (observed : IsObservedPositive l w) (x : ℕ) (s t : ℕ → ℕ)
    (hs : IsAssignment (drawn_weights l w).vertices (drawn_weights l w).size s)
    (ht : IsAssignment (drawn_weights l w).vertices (drawn_weights l w).size t) where
  abbrev seen : ℕ → ℕ
  seen = joined (has x) s t

  seen_within : IsAssignment (drawn_weights l w).vertices (drawn_weights l w).size seen
  seen_within = joined_within (drawn_weights l w).vertices (drawn_weights l w).size (has x) s t hs ht

  -- the formula of the parts has one value in both
  treated_same : (z summed : ℕ) (ps : List PlainPart) → IsEqual (drawn_treated_value l w x z summed ps s t) (treated_value w' x z summed ps s t)
  treated_same z summed ps =
      div_equal (add_over (has summed) (drawn_weights l w).size (drawn_weights l w).vertices (drawn_parts_value l w x ps s t) seen)
      (add_over (has summed) w'.size w'.vertices (parts_value w' x ps s t) seen) (term_value (drawn_weights l w) (union x z) 0 0 seen)
      (term_value (weights_of w') (union x z) 0 0 seen)
      (drawn_positive g ok l q is w w' fit fit' folds.both.folds observed (has 0) (λ v. has (union x z) v || has 0 v) seen seen_within)
      (subst (λ n. IsEqual (add_over (has summed) (drawn_weights l w).size (drawn_weights l w).vertices (drawn_parts_value l w x ps s t) seen)
      (add_over (has summed) w'.size n (parts_value w' x ps s t) seen)) (sym folds.both.folds.vertices)
      (add_over_equal (has summed) (drawn_weights l w).size (IsValued g ok l q is w w' fit fit' folds observed) (drawn_weights l w).vertices w'.size
      (drawn_parts_value l w x ps s t) (parts_value w' x ps s t) seen (sizes g ok l q is w w' fit fit' folds observed)
      (λ c i k lt ui kl h. assignment_set (drawn_weights l w).vertices (drawn_weights l w).size c i k kl h) seen_within
      (parts_same g ok l q is w w' fit fit' folds observed x s t hs ht ps)))
      (keeps_term g ok l q is w w' fit fit' folds.both.folds observed (union x z) 0 0 seen seen_within)

  first_inside : IsAssignment w'.vertices w'.size s
  first_inside = inside g ok l q is w w' fit fit' folds s hs

  seen_inside : IsAssignment w'.vertices w'.size seen
  seen_inside = inside g ok l q is w w' fit fit' folds seen seen_within

  -- an observed event has one probability in both
  observed_once : (o : ℕ → Bool) → event_weight w (set_before l o) (values_before l seen) * total w' ≡ event_weight w' o seen * total w
  observed_once o =
      ap (λ n. n * total w') (sym (weight_of-none w (set_before l (λ k. false)) (set_before l o) (values_before l seen) (λ v. no_member (not (l v)))))
      ∙ drawn_weight g ok l q is w w' fit fit' folds.both.folds (λ k. false) o seen seen_inside
      ∙ ap (λ n. n * total w) (weight_of-none w' (λ k. false) o seen (λ k. refl))

  some_event : (o : ℕ → Bool) → 1 ≤ event_weight w' o seen
  some_event o =
      let e = positive_weight q w' (q_mixed g ok l q is) (follows_of q w' fit') (positive g ok l q is w w' fit fit' folds observed) (λ v. false) o seen
      seen_inside in
      let is_none = weight_of-none w' (λ v. false) o seen (λ v. refl) in
      omega (arith, e, is_none)

  -- what was observed
  abbrev known : ℕ → ℕ → Bool
  known z v = has x v || has z v

  -- the effect has one value in both
  one_among : (y z : ℕ) → IsEqual (among_at w' x y z s t) (drawn_among_at l w x y z s t)
  one_among y z =
      one_fraction (weight_of_both w' (has x) (has y) (known z) s seen) (event_weight w' (known z) seen) (drawn_both l w (has x) (has y) (known z) s seen)
      (event_weight w (set_before l (known z)) (values_before l seen)) (total w') (total w) (total_positive q w' fit') (total_positive g w fit) (some_event (known z))
      (left_positive (event_weight w (set_before l (known z)) (values_before l seen)) (total w') (event_weight w' (known z) seen * total w)
      (mul-pos (some_event (known z)) (total_positive g w fit)) (sym (observed_once (known z))))
      (sym (folds.both.both (has x) (has y) (known z) s seen first_inside seen_inside)) (sym (observed_once (known z)))

pub treated_parts_are_drawn : TreatedPartsAreDrawn
treated_parts_are_drawn = λ g ok l q is x y z summed ps right w fit observed s t hs ht.
    let h = each_has_nested_folded g ok l q is w fit in
    let hs' = inside g ok l q is w h.folded fit h.fits h.folds s hs in
    let ht' = inside g ok l q is w h.folded fit h.fits h.folds t ht in
    equal_trans (drawn_treated_value l w x z summed ps s t) (treated_value h.folded x z summed ps s t) (drawn_among_at l w x y z s t)
    (treated_same g ok l q is w h.folded fit h.fits h.folds observed x s t hs ht z summed ps)
    (equal_trans (treated_value h.folded x z summed ps s t) (among_at h.folded x y z s t) (drawn_among_at l w x y z s t)
    (right h.folded h.fits (positive g ok l q is w h.folded fit h.fits h.folds observed) s t hs' ht')
    (one_among g ok l q is w h.folded fit h.fits h.folds observed x s t hs ht y z))
