-- A formula that equals a nested effect in the observed graph equals it in the diagram as drawn.
use Rattle.std.proofs.Common.{ℕ, ◌≡◌, ◌<◌, Bool, true, false, not, cond, sym, subst, mul-pos, List, [], ◌∷◌, arith, ◌||◌}
use Rattle.mixed_graph.specs.Vocabulary.{has, MixedGraph, IsMixedGraph}
use Rattle.fractions.specs.Vocabulary.{over, IsEqual}
use Rattle.fractions.proofs.FractionLaws.{equal_refl, equal_trans, mul_equal, div_equal}
use Rattle.finite_models.specs.Vocabulary.{FiniteModel, Fits, IsAssignment, total}
use Rattle.latent_projection.specs.Vocabulary.{IsObserved}
use Rattle.prob_expr.specs.Vocabulary.{PlainFormula, weights_of, value_of, add_over, term_value}
use Rattle.prob_expr.proofs.Alike.{Events, formula_alike, asks_any, all_ask_any}
use Rattle.prob_expr.proofs.Boxes.{assignment_set, add_over_equal}
use Rattle.hidden_models.specs.Vocabulary.{IsObservedPositive, drawn_weights}
use Rattle.hidden_models.proofs.Drawn.{drawn_weight, drawn_positive, keeps_term}
use Rattle.hidden_models.proofs.FoldingLaw.{member}
use Rattle.hidden_models.proofs.Positions.{member_is}
use Rattle.hidden_models.proofs.Totals.{total_positive}
use Rattle.treated_models.specs.Vocabulary.{as_observed, with_primes}
use Rattle.treated_drawn.specs.Vocabulary.{observed_count, drawn_with_primes}
use Rattle.treated_drawn.proofs.Among.{into, one_value}
use Rattle.nested_models.specs.Vocabulary.{nested_effect}
use Rattle.natural_id.specs.Vocabulary.{PlainPart, parts_value, natural_value}
use Rattle.natural_drawn.specs.Drawn.{FoldsNested, drawn_nested_effect, drawn_parts_value, drawn_natural_value}
use Rattle.natural_drawn.specs.Laws.{RightPartsAreDrawn, RightNestedIsDrawn}
use Rattle.natural_drawn.proofs.Carried.{inside, positive, one_nested, one_named}
use Rattle.natural_drawn.proofs.Folding.{each_has_nested_folded}

-- all events
abbrev Any : Events
Any b a = Unit {0}

module _ (g : MixedGraph) (ok : IsMixedGraph g) (l : ℕ → Bool) (q : MixedGraph) (is : IsObserved g l q) (w w' : FiniteModel) (fit : Fits g w)
    (fit' : Fits q w') (folds : FoldsNested l w w') (observed : IsObservedPositive l w) where
  abbrev pub IsValued : (ℕ → ℕ) → Type 0
  IsValued s = IsAssignment (drawn_weights l w).vertices (drawn_weights l w).size s

  pub sizes : (k : ℕ) → k < (drawn_weights l w).vertices → (drawn_weights l w).size k ≡ w'.size k
  sizes k kl = sym (folds.both.folds.sizes k (subst (λ n. k < n) (sym folds.both.folds.vertices) kl))

  -- a formula over the observed vertices has one value in both
  formula_same : (f : PlainFormula) (s : ℕ → ℕ) → IsValued s → IsEqual (value_of (drawn_weights l w) f s) (value_of (weights_of w') f s)
  formula_same f s hs =
      formula_alike (drawn_weights l w) (weights_of w') (sym folds.both.folds.vertices) sizes
      (λ k kl. fit.positive_size (member (λ v. not (l v)) w.vertices k) (member_is (λ v. not (l v)) w.vertices k kl).below)
      (total w) (total w') (mul-pos (total_positive g w fit) (total_positive q w' fit'))
      Any (λ b a k. drawn_positive g ok l q is w w' fit fit' folds.both.folds observed (has b) a)
      (λ b a k c hc. drawn_weight g ok l q is w w' fit fit' folds.both.folds (has b) a c (inside g ok l q is w w' fit fit' folds c hc))
      f (all_ask_any Any (λ b a. tt) f.defs) (asks_any Any (λ b a. tt) f.main) s hs

  module _ (x : ℕ) (s t : ℕ → ℕ) (hs : IsValued s) (ht : IsValued t) where
    -- the values at which a part reads
    abbrev read : ℕ → (ℕ → ℕ) → ℕ → ℕ
    read b c v = cond (has x v) (cond (has b v) (t v) (s v)) (c v)

    read_within : (b : ℕ) (c : ℕ → ℕ) → IsValued c → IsValued (read b c)
    read_within b c hc k kl = go (has x k) (has b k)
      where
        go : (a b : Bool) → cond a (cond b (t k) (s k)) (c k) < (drawn_weights l w).size k
        go true true = ht k kl
        go true false = hs k kl
        go false b = hc k kl

    -- so has each product of parts
    pub parts_same : (ps : List PlainPart) (c : ℕ → ℕ) → IsValued c → IsEqual (drawn_parts_value l w x ps s t c) (parts_value w' x ps s t c)
    parts_same [] c hc = equal_refl (over 1 1) (omega arith)
    parts_same (p ∷ ps) c hc =
        mul_equal (value_of (drawn_weights l w) p.formula (read p.second c)) (value_of (weights_of w') p.formula (read p.second c))
        (drawn_parts_value l w x ps s t c) (parts_value w' x ps s t c)
        (formula_same p.formula (read p.second c) (read_within p.second c hc)) (parts_same ps c hc)

    -- and their sum over P(z)
    natural_same : (z summed : ℕ) (ps : List PlainPart) → IsEqual (drawn_natural_value l w x z summed ps s t) (natural_value w' x z summed ps s t)
    natural_same z summed ps =
        div_equal (add_over (has summed) (drawn_weights l w).size (drawn_weights l w).vertices (drawn_parts_value l w x ps s t) s)
        (add_over (has summed) w'.size w'.vertices (parts_value w' x ps s t) s) (term_value (drawn_weights l w) z 0 0 s) (term_value (weights_of w') z 0 0 s)
        (drawn_positive g ok l q is w w' fit fit' folds.both.folds observed (has 0) (λ v. has z v || has 0 v) s hs)
        (subst (λ n. IsEqual (add_over (has summed) (drawn_weights l w).size (drawn_weights l w).vertices (drawn_parts_value l w x ps s t) s)
        (add_over (has summed) w'.size n (parts_value w' x ps s t) s)) (sym folds.both.folds.vertices)
        (add_over_equal (has summed) (drawn_weights l w).size IsValued (drawn_weights l w).vertices w'.size (drawn_parts_value l w x ps s t)
        (parts_value w' x ps s t) s sizes (λ c i k lt ui kl h. assignment_set (drawn_weights l w).vertices (drawn_weights l w).size c i k kl h) hs
        (parts_same ps)))
        (keeps_term g ok l q is w w' fit fit' folds.both.folds observed z 0 0 s hs)

pub right_parts_are_drawn : RightPartsAreDrawn
right_parts_are_drawn = λ g ok l q is x m y z summed ps right w fit observed s t hs ht.
    let h = each_has_nested_folded g ok l q is w fit in
    let hs' = inside g ok l q is w h.folded fit h.fits h.folds s hs in
    let ht' = inside g ok l q is w h.folded fit h.fits h.folds t ht in
    equal_trans (drawn_natural_value l w x z summed ps s t) (natural_value h.folded x z summed ps s t) (drawn_nested_effect l w x m y z s t)
    (natural_same g ok l q is w h.folded fit h.fits h.folds observed x s t hs ht z summed ps)
    (equal_trans (natural_value h.folded x z summed ps s t) (nested_effect h.folded (has x) (has m) (has y) (has z) s t) (drawn_nested_effect l w x m y z s t)
    (right h.folded h.fits (positive g ok l q is w h.folded fit h.fits h.folds observed) s t hs' ht')
    (one_nested g ok l q is w h.folded fit h.fits h.folds observed x m y z s t hs' ht'))

pub right_nested_is_drawn : RightNestedIsDrawn
right_nested_is_drawn = λ g ok l q is x m y z f once right w fit observed c hc.
    let h = each_has_nested_folded g ok l q is w fit in
    let e = drawn_nested_effect l w x m y z c (as_observed (observed_count l w) x c) in
    let e' = nested_effect h.folded (has x) (has m) (has y) (has z) c (as_observed h.folded.vertices x c) in
    equal_trans (value_of (drawn_with_primes l w x) f c) (value_of (with_primes h.folded x) f c) e
    (one_value g ok l q is w h.folded fit h.fits h.folds.both x observed f once c hc)
    (equal_trans (value_of (with_primes h.folded x) f c) e' e
    (right h.folded h.fits (positive g ok l q is w h.folded fit h.fits h.folds observed) c (into g ok l q is w h.folded fit h.fits h.folds.both x c hc))
    (one_named g ok l q is w h.folded fit h.fits h.folds observed x m y z c hc))
