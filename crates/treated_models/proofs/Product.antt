-- The effect among the observed as a sum of products of effects.
use Rattle.std.proofs.Common.{ℕ, zero, suc, ◌*◌, ◌^◌, ◌≡◌, ◌<◌, ◌≤◌, Bool, true, false, cond, eqb, not, refl, sym, ap, ap₂, ◌∙◌, ◌||◌, ◌&&◌, List, [], ◌∷◌}
use Rattle.std.proofs.Common.{length, arith, eqb-true}
use mathlib.Core.Path.{fun_ext}
use Rattle.mixed_graph.specs.Vocabulary.{has, MixedGraph, IsMixedGraph}
use Rattle.finite_models.specs.Vocabulary.{sum_below, sum_over, set_at, FiniteModel, Fits, IsAssignment, total}
use Rattle.finite_models.proofs.SumLaws.{sum_below-congr, over-scale}
use Rattle.treated_models.specs.Treated.{held, joined, factor_of, factors_of, AreFree, read_at, weights_at, TreatedIsProduct}
use Rattle.treated_models.proofs.Held.{treated_is_held, untouched_factors}
use Rattle.treated_models.proofs.Districts.{districts_multiply}
use Rattle.treated_models.proofs.Factor.{factor_is_effect, held_event_is_sum}

-- the points of a sum are assignments where its base is one
pub over-congr_assigned : (U : ℕ → Bool) (s : ℕ → ℕ) (n N : ℕ) → n ≤ N → (F G : (ℕ → ℕ) → ℕ) (b : ℕ → ℕ) → IsAssignment N s b
    → ((c : ℕ → ℕ) → IsAssignment N s c → F c ≡ G c) → sum_over U s n F b ≡ sum_over U s n G b
over-congr_assigned U s zero N le F G b inside h = h b inside
over-congr_assigned U s (suc n) N le F G b inside h = go (U n) (λ c ic. over-congr_assigned U s n N (omega arith) F G c ic h)
  where
    at : (x : ℕ) → x < s n → (i : ℕ) → i < N → (c : Bool) → eqb i n ≡ c → cond c x (b i) < s i
    at x lt i il true e = rw (eqb-true i n e) lt
    at x lt i il false e = inside i il

    go : (p : Bool) → ((c : ℕ → ℕ) → IsAssignment N s c → sum_over U s n F c ≡ sum_over U s n G c)
        → cond p (sum_below (s n) (λ x. sum_over U s n F (set_at b n x))) (sum_over U s n F b)
        ≡ cond p (sum_below (s n) (λ x. sum_over U s n G (set_at b n x))) (sum_over U s n G b)
    go true ih = sum_below-congr (s n) (λ x. sum_over U s n F (set_at b n x)) (λ x. sum_over U s n G (set_at b n x))
        (λ x lt. ih (set_at b n x) (λ i il. at x lt i il (eqb i n) refl))
    go false ih = ih b inside

-- a model with held arrows fits the graph
pub held_fits : (g : MixedGraph) (m : FiniteModel) → Fits g m → (x : ℕ → Bool) (s : ℕ → ℕ) → IsAssignment m.vertices m.size s → Fits g (held m x s)
held_fits g m fit x s within = record {
  vertices = fit.vertices;
  positive_size = fit.positive_size;
  positive_weight = fit.positive_weight;
  some_child = fit.some_child;
  child_below = fit.child_below;
  joined = fit.joined;
  reads = λ v il a b u w hp hc. fit.reads v il (λ p. cond (x p) (s p) (a p)) (λ p. cond (x p) (s p) (b p)) u w (λ p e. mixed a b p (hp p e) (x p)) hc;
  below = λ v il a u ha hu. fit.below v il (λ p. cond (x p) (s p) (a p)) u (λ p pl. low p pl (a p) (ha p pl) (x p)) hu;
}
  where
    mixed : (a b : ℕ → ℕ) (p : ℕ) → a p ≡ b p → (c : Bool) → cond c (s p) (a p) ≡ cond c (s p) (b p)
    mixed a b p e true = refl
    mixed a b p e false = e

    low : (p : ℕ) → p < m.vertices → (y : ℕ) → y < m.size p → (c : Bool) → cond c (s p) y < m.size p
    low p pl y lt true = within p pl
    low p pl y lt false = lt

module _ (g : MixedGraph) (ok : IsMixedGraph g) (m : FiniteModel) (fit : Fits g m) (x : ℕ → Bool) (s : ℕ → ℕ) (within : IsAssignment m.vertices m.size s) where
  read_within : (d : ℕ) (r : ℕ → ℕ) → IsAssignment m.vertices m.size r → IsAssignment m.vertices m.size (read_at x d s r)
  read_within d r inside v il = go (x v && not (has d v))
    where
      go : (c : Bool) → cond c (s v) (r v) < m.size v
      go true = within v il
      go false = inside v il

  factors : (ds : List ℕ) → AreFree g x ds → (r : ℕ → ℕ) → IsAssignment m.vertices m.size r → factors_of (held m x s) ds r ≡ weights_at m x ds s r
  factors [] free r inside = refl
  factors (d ∷ ds) free r inside = ap₂ (λ a b. a * b)
      (untouched_factors g m fit x (has d) free.0 s r ∙ factor_is_effect g ok m fit (has d) (read_at x d s r) (read_within d r inside))
      (factors ds free.1 r inside)

joined_within : (m : FiniteModel) (o : ℕ → Bool) (s t : ℕ → ℕ) → IsAssignment m.vertices m.size s → IsAssignment m.vertices m.size t
    → IsAssignment m.vertices m.size (joined o s t)
joined_within m o s t hs ht v il = go (o v)
  where
    go : (c : Bool) → cond c (t v) (s v) < m.size v
    go true = ht v il
    go false = hs v il

pub treated_is_product : TreatedIsProduct
treated_is_product g ok m fit x y o rest before yx yo apart closed ds are unjoined free s t hs ht =
    ap (λ w. w * total m ^ length ds) (treated_is_held g ok m fit x y o before yx yo s t hs
    ∙ held_event_is_sum g ok m fit x (λ v. y v || o v) rest apart closed s (joined o s t) hs)
    ∙ flipped (sum_over rest m.size m.vertices (factor_of (held m x s) (λ v. (y v || o v) || rest v)) (joined o s t)) (total m ^ length ds)
    ∙ sym (over-scale rest m.size m.vertices (total m ^ length ds) (factor_of (held m x s) (λ v. (y v || o v) || rest v)) (joined o s t))
    ∙ over-congr_assigned rest m.size m.vertices m.vertices (omega arith) (λ r. total m ^ length ds * factor_of (held m x s) (λ v. (y v || o v) || rest v) r)
    (λ r. total m * weights_at m x ds s r) (joined o s t) (joined_within m o s t hs ht)
    (λ r inside. flipped (total m ^ length ds) (factor_of (held m x s) (λ v. (y v || o v) || rest v) r)
    ∙ ap (λ a. factor_of (held m x s) a r * total m ^ length ds) (sym (fun_ext are))
    ∙ districts_multiply g (held m x s) (held_fits g m fit x s hs) ds unjoined r
    ∙ ap (λ w. total m * w) (factors g ok m fit x s hs ds free r inside))
    ∙ over-scale rest m.size m.vertices (total m) (λ r. weights_at m x ds s r) (joined o s t)
  where
    flipped : (a b : ℕ) → a * b ≡ b * a
    flipped a b = omega arith
