-- From the observed graph to the diagram as drawn.
use Rattle.std.proofs.Common.{ℕ, zero, suc, ◌*◌, ◌≡◌, ◌<◌, ◌≤◌, Bool, true, false, not, ◌&&◌, ◌||◌, refl, sym, ap, ◌∙◌, subst, arith}
use Rattle.std.proofs.Math.Nat.{eq_of_mul-eq-mul_left}
use Rattle.std.proofs.lemmas.Bool.{not_from_false}
use Rattle.mixed_graph.specs.Vocabulary.{MixedGraph, IsMixedGraph}
use Rattle.fractions.specs.Vocabulary.{Fraction}
use Rattle.finite_models.specs.Vocabulary.{FiniteModel, Fits, IsAssignment, weight_of, total, probability}
use Rattle.finite_models.proofs.Bools.{and_first}
use Rattle.finite_models.proofs.Following.{follows_of}
use Rattle.latent_projection.specs.Vocabulary.{IsObserved}
use Rattle.hidden_models.specs.Vocabulary.{Folds, values_after, values_before, set_before}
use Rattle.hidden_models.proofs.Depends.{weight_depends}
use Rattle.hidden_models.proofs.Drawn.{matched_folded, drawn_weight, after_within}
use Rattle.hidden_models.proofs.Folded.{each_has_folded}
use Rattle.hidden_models.proofs.FoldingLaw.{position}
use Rattle.hidden_models.proofs.Positions.{position_lt, member_position}
use Rattle.hidden_models.proofs.ReachingLaw.{observed_of}
use Rattle.hidden_models.proofs.Totals.{total_positive}
use Rattle.natural_bounds.specs.declared.ends.End.{End}
use Rattle.natural_bounds.specs.declared.ends.End.TheVariants.{AtLeast, AtMost}
use Rattle.natural_bounds.specs.Orders.{Bounds}
use Rattle.natural_bounds.specs.Drawn.{BoundingIsAsDrawn, NoModelIsAsDrawn}
use Rattle.natural_bounds.proofs.Orders.{bounds_equal, positive-times}

-- p/q and r/s are equal where each part of one times t is that of the other times b
scaled : (p q r s t b : ℕ) → 1 ≤ t → 1 ≤ b → p * t ≡ r * b → q * t ≡ s * b → r * q ≡ p * s
scaled p q r s t b pos some e f = eq_of_mul-eq-mul_left (t * b) (positive-times t b pos some) (r * q) (p * s)
    ((let k : (t * b) * (r * q) ≡ (r * b) * (q * t) = omega arith in k) ∙ ap (λ n. n * (q * t)) (sym e) ∙ ap (λ n. (p * t) * n) f
    ∙ (let k : (p * t) * (s * b) ≡ (t * b) * (p * s) = omega arith in k))

left_some : (p t r b : ℕ) → 1 ≤ b → 1 ≤ r → p * t ≡ r * b → 1 ≤ p
left_some zero t r b pos some e = absurd (let k = positive-times r b some pos in omega (arith, k, e))
left_some (suc p) t r b pos some e = omega arith

bounded_bottom : (end : End) (f h : Fraction) → Bounds end f h → 1 ≤ h.bottom
bounded_bottom AtLeast f h b = b.right_bottom
bounded_bottom AtMost f h b = b.left_bottom

module _ (g : MixedGraph) (ok : IsMixedGraph g) (l : ℕ → Bool) (q : MixedGraph) (is : IsObserved g l q) (m m' : FiniteModel) (fit : Fits g m)
    (fit' : Fits q m') (folds : Folds l m m') (a s : ℕ → ℕ) (within : IsAssignment m'.vertices m'.size s)
    (same : (k : ℕ) → k < m'.vertices → values_after l m.vertices a k ≡ s k) where
  apart : (d : ℕ → Bool) (v : ℕ) → set_before l d v ≡ true → l v ≡ false
  apart d v e = observed_of (l v) (and_first (not (l v)) (d (position (λ v. not (l v)) v)) e)

  -- values of the observed vertices, taken to all vertices
  as_before : (v : ℕ) → v < m.vertices → l v ≡ false → values_before l s v ≡ a v
  as_before v vl e =
      let o : not (l v) ≡ true = not_from_false (l v) e in
      let kl : position (λ v. not (l v)) v < m'.vertices = subst (λ n. position (λ v. not (l v)) v < n) (sym folds.vertices)
      (position_lt (λ v. not (l v)) v m.vertices vl o) in
      rw o (sym (same (position (λ v. not (l v)) v) kl) ∙ ap a (member_position (λ v. not (l v)) m.vertices v vl o))

  -- an event of observed vertices is as probable in what folds a model
  pub weight_as_drawn : (b d d' : ℕ → Bool) → ((v : ℕ) → set_before l d v ≡ d' v)
      → weight_of m (set_before l b) d' a * total m' ≡ weight_of m' b d s * total m
  weight_as_drawn b d d' e =
      ap (λ k. k * total m') (sym (weight_depends g m ok (follows_of g m fit) (set_before l b) (set_before l b) (set_before l d) d' (values_before l s) a
      (λ v vl. refl) (λ v vl. e v) (λ v vl i. as_before v vl (apart b v i)) (λ v vl i. as_before v vl (apart d v i))))
      ∙ drawn_weight g ok l q is m m' fit fit' folds b d s within

either_of : (l x y : ℕ → Bool) (v : ℕ) → set_before l (λ k. x k || y k) v ≡ (set_before l x v || set_before l y v)
either_of l x y v = go (not (l v)) (x (position (λ v. not (l v)) v)) (y (position (λ v. not (l v)) v))
  where
    go : (o p q : Bool) → (o && (p || q)) ≡ ((o && p) || (o && q))
    go true p q = refl
    go false p q = refl

pub bounding_is_as_drawn : BoundingIsAsDrawn
bounding_is_as_drawn end g ok l q is x y c used n all s f h m fit match a within same =
    let folded = each_has_folded g ok l q is m fit in
    let m' = folded.folded in
    let match' = matched_folded g ok l q is m m' fit folded.fits folded.folds used n all match in
    let same' : (k : ℕ) → k < m'.vertices → values_after l m.vertices a k ≡ s k = λ k kl. same k (subst (λ j. k < j) (sym match'.vertices) kl) in
    let within' : IsAssignment m'.vertices m'.size s = λ k kl. subst (λ j. j < m'.size k) (same' k kl)
    (after_within g ok l q is m m' fit folded.fits folded.folds a within k kl) in
    let b : Bounds end f (probability m' x y c s) = h m' folded.fits match' within' in
    let top = weight_as_drawn g ok l q is m m' fit folded.fits folded.folds a s within' same' x (λ v. y v || c v)
    (λ v. set_before l y v || set_before l c v) (either_of l y c) in
    let bottom = weight_as_drawn g ok l q is m m' fit folded.fits folded.folds a s within' same' x c (set_before l c) (λ v. refl) in
    let t = total_positive q m' folded.fits in let t' = total_positive g m fit in
    let some' = bounded_bottom end f (probability m' x y c s) b in
    let some = left_some (weight_of m (set_before l x) (set_before l c) a) (total m') (weight_of m' x c s) (total m) t' some' bottom in
    bounds_equal end f (probability m' x y c s) (probability m (set_before l x) (set_before l y) (set_before l c) a) b
    (record {
      left_bottom = some';
      right_bottom = some;
      products = scaled (weight_of m (set_before l x) (λ v. set_before l y v || set_before l c v) a) (weight_of m (set_before l x) (set_before l c) a)
          (weight_of m' x (λ v. y v || c v) s) (weight_of m' x c s) (total m') (total m) t t' top bottom;
    })

pub no_model_is_as_drawn : NoModelIsAsDrawn
no_model_is_as_drawn g ok l q is used n all none m fit match =
    let folded = each_has_folded g ok l q is m fit in
    none folded.folded folded.fits (matched_folded g ok l q is m folded.folded fit folded.fits folded.folds used n all match)
