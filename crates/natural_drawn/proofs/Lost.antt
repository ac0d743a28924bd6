-- Where the joint effect has no formula in the diagram as drawn, the nested effect has none.
use Rattle.std.proofs.Common.{ℕ, ◌*◌, ◌≡◌, ◌<◌, Bool, true, false, cond, refl, sym, ap, ap₂, ◌∙◌, ◌||◌, ◌&&◌, subst, arith}
use Rattle.std.proofs.lemmas.Bool.{cond-true, cond-false}
use Rattle.std.proofs.Math.Nat.{eq_of_mul-eq-mul_left}
use Rattle.mixed_graph.specs.Vocabulary.{has, MixedGraph, IsMixedGraph, union}
use Rattle.fractions.specs.Vocabulary.{Fraction, IsEqual, over}
use Rattle.fractions.proofs.FractionLaws.{equal_sym, equal_trans}
use Rattle.finite_models.specs.Vocabulary.{AgreeObserved, FiniteModel, Fits, IsAssignment, solution, agree, event_weight, weight_of, world_weight, total}
use Rattle.finite_models.proofs.Bools.{same_truth}
use Rattle.finite_models.proofs.Following.{follows_of}
use Rattle.finite_models.proofs.Solutions.{agree_from, agree_gives}
use Rattle.finite_models.proofs.SumLaws.{over-congr}
use Rattle.finite_models.proofs.Weights.{weight_of-none}
use Rattle.latent_projection.specs.Vocabulary.{IsObserved}
use Rattle.prob_expr.specs.Vocabulary.{effect_on, value_of}
use Rattle.prob_expr.proofs.Allowed.{events_under, in_second}
use Rattle.hidden_models.specs.Vocabulary.{NotIdentifiableAsDrawn, DifferOnAsDrawn}
use Rattle.treated_models.specs.Vocabulary.{prime_of, vertex_of, as_observed}
use Rattle.treated_models.proofs.NamedOnce.{vertex_low}
use Rattle.treated_models.proofs.Primes.{vertex_plain, vertex_primed}
use Rattle.treated_drawn.specs.Vocabulary.{observed_count, drawn_with_primes}
use Rattle.treated_drawn.proofs.Among.{q_mixed, agreed, second_names, one_formula, difference, no_one_weight}
use Rattle.nested_models.specs.Nested.{nested}
use Rattle.nested_models.specs.Vocabulary.{is_nested, nested_effect, IsNestedQuery}
use Rattle.nested_models.proofs.Effects.{one_value_is_effect}
use Rattle.natural_drawn.specs.Drawn.{FoldsNested, drawn_nested_effect, HasNoFormulaNestedAsDrawn, DifferNestedAsDrawn}
use Rattle.natural_drawn.specs.Laws.{NestedLostIsDrawn}
use Rattle.natural_drawn.proofs.Carried.{inside, one_nested}
use Rattle.natural_drawn.proofs.Folding.{each_has_nested_folded}
use Rattle.natural_drawn.proofs.Worlds.{same_nested}

-- ---- a nested effect reads values of vertices alone
agree_alike : (n : ℕ) (a : ℕ → Bool) (f h s t : ℕ → ℕ) → ((v : ℕ) → v < n → f v ≡ h v) → ((v : ℕ) → v < n → s v ≡ t v) → agree n a f s ≡ agree n a h t
agree_alike n a f h s t same at = same_truth (agree n a f s) (agree n a h t)
    (λ e. agree_from n a h t (λ v vl i. sym (same v vl) ∙ agree_gives n a f s e v vl i ∙ at v vl))
    (λ e. agree_from n a f s (λ v vl i. same v vl ∙ agree_gives n a h t e v vl i ∙ sym (at v vl)))

effect_alike : (g : MixedGraph) → IsMixedGraph g → (w : FiniteModel) → Fits g w → (x m y z : ℕ → Bool) (s s' t t' : ℕ → ℕ)
    → ((v : ℕ) → v < w.vertices → s v ≡ s' v) → ((v : ℕ) → v < w.vertices → t v ≡ t' v) → nested_effect w x m y z s t ≡ nested_effect w x m y z s' t'
effect_alike g ok w fit x m y z s s' t t' at_s at_t = ap₂ over
    (over-congr (λ j. true) w.values w.causes (λ u. cond (is_nested w x m y z s t u) (world_weight w u) 0)
    (λ u. cond (is_nested w x m y z s' t' u) (world_weight w u) 0) (λ j. 0)
    (λ u. ap (λ b. cond b (world_weight w u) 0) (ap₂ (λ a b. a && b)
    (agree_alike w.vertices y (nested w x m s t u) (nested w x m s' t' u) s s'
    (same_nested g w ok (follows_of g w fit) u u (λ j v jl e. refl) x m s s' t t' at_s (λ v vl e. at_t v vl)) at_s)
    (agree_alike w.vertices z (solution w u) (solution w u) s s' (λ v vl. refl) at_s))))
    (over-congr (λ j. true) w.values w.causes (λ u. cond (agree w.vertices z (solution w u) s) (world_weight w u) 0)
    (λ u. cond (agree w.vertices z (solution w u) s') (world_weight w u) 0) (λ j. 0)
    (λ u. ap (λ b. cond b (world_weight w u) 0) (agree_alike w.vertices z (solution w u) (solution w u) s s' (λ v vl. refl) at_s)))

-- ---- values of vertices as values of names
module _ (n x : ℕ) (s : ℕ → ℕ) where
  -- a name has the value of its vertex
  abbrev named : ℕ → ℕ
  named k = s (vertex_of n x k)

  named_own : (v : ℕ) → v < n → named v ≡ s v
  named_own v il = ap s (vertex_plain n x v il)

  named_second : (v : ℕ) → v < n → as_observed n x named v ≡ s v
  named_second v il = go (has x v) refl
    where
      go : (c : Bool) → has x v ≡ c → as_observed n x named v ≡ s v
      go true e = cond-true (has x v) (named (prime_of n x v)) (named v) e ∙ ap s (vertex_primed n x v il e)
      go false e = cond-false (has x v) (named (prime_of n x v)) (named v) e ∙ named_own v il

-- ---- two models that differ on the joint effect
cancelled : (w₁ w₂ e₁ e₂ t₁ t₂ : ℕ) → w₁ * e₂ ≡ w₂ * e₁ → e₁ * t₂ ≡ e₂ * t₁ → e₁ * (w₁ * t₂) ≡ e₁ * (w₂ * t₁)
cancelled w₁ w₂ e₁ e₂ t₁ t₂ p q =
    (let k : e₁ * (w₁ * t₂) ≡ w₁ * (e₁ * t₂) = omega arith in k) ∙ ap (λ k. w₁ * k) q
    ∙ (let k : w₁ * (e₂ * t₁) ≡ (w₁ * e₂) * t₁ = omega arith in k) ∙ ap (λ k. k * t₁) p
    ∙ (let k : (w₂ * e₁) * t₁ ≡ e₁ * (w₂ * t₁) = omega arith in k)

module _ (g : MixedGraph) (ok : IsMixedGraph g) (l : ℕ → Bool) (q : MixedGraph) (is : IsObserved g l q) (x m y z : ℕ)
    (asked : IsNestedQuery q (has x) (has m) (has y) (has z)) (joint : NotIdentifiableAsDrawn g l (effect_on x (union y z))) (w₁ w₂ : FiniteModel)
    (f₁ : Fits q w₁) (f₂ : Fits q w₂) (n₁ : FoldsNested l joint.first w₁) (n₂ : FoldsNested l joint.second w₂) where
  observed : AgreeObserved w₁ w₂
  observed = agreed g ok l q is x y z joint w₁ w₂ f₁ f₂ n₁.both n₂.both

  abbrev pub apart : DifferOnAsDrawn l joint.first joint.second (effect_on x (union y z))
  apart = difference g ok l q is x y z joint w₁ w₂ f₁ f₂ n₁.both n₂.both

  abbrev at : ℕ → ℕ
  at = apart.at

  in_first : IsAssignment w₁.vertices w₁.size at
  in_first = inside g ok l q is joint.first w₁ joint.first_fits f₁ n₁ at apart.within

  in_other : (s : ℕ → ℕ) → IsAssignment w₁.vertices w₁.size s → IsAssignment w₂.vertices w₂.size s
  in_other = in_second w₁ w₂ observed.vertices observed.sizes

  -- the nested effect in what folds a model
  abbrev effect : FiniteModel → (ℕ → ℕ) → (ℕ → ℕ) → Fraction
  effect w s t = nested_effect w (has x) (has m) (has y) (has z) s t

  abbrev both_weight : FiniteModel → ℕ
  both_weight w = weight_of w (has x) (λ v. has y v || has z v) at

  one_value : (w : FiniteModel) → Fits q w → IsAssignment w.vertices w.size at → effect w at at ≡ over (both_weight w) (event_weight w (has z) at)
  one_value w fit within = ap (λ n. over n (event_weight w (has z) at))
      (one_value_is_effect q (q_mixed g ok l q is) w fit (has x) (has m) (has y) (has z) asked at at within within (λ v e. refl))

  given_agree : event_weight w₁ (has z) at * total w₂ ≡ event_weight w₂ (has z) at * total w₁
  given_agree = ap (λ k. k * total w₂) (sym (weight_of-none w₁ (λ v. false) (has z) at (λ v. refl)))
      ∙ events_under q (q_mixed g ok l q is) w₁ w₂ f₁ f₂ (λ v. false) observed (has z) at in_first
      ∙ ap (λ k. k * total w₁) (weight_of-none w₂ (λ v. false) (has z) at (λ v. refl))

  -- where both values of x are one, the nested effect is the joint one
  folded_unequal : IsEqual (effect w₁ at at) (effect w₂ at at) → ⊥
  folded_unequal same =
      let equal : IsEqual (over (both_weight w₁) (event_weight w₁ (has z) at)) (over (both_weight w₂) (event_weight w₂ (has z) at)) =
      subst (λ a. IsEqual a (over (both_weight w₂) (event_weight w₂ (has z) at))) (one_value w₁ f₁ in_first)
      (subst (IsEqual (effect w₁ at at)) (one_value w₂ f₂ (in_other at in_first)) same) in
      no_one_weight g ok l q is x y z joint w₁ w₂ f₁ f₂ n₁.both n₂.both apart
      (eq_of_mul-eq-mul_left (event_weight w₁ (has z) at) equal.left_bottom (both_weight w₁ * total w₂) (both_weight w₂ * total w₁)
      (cancelled (both_weight w₁) (both_weight w₂) (event_weight w₁ (has z) at) (event_weight w₂ (has z) at) (total w₁) (total w₂) equal.products given_agree))

  -- so it is unequal in the two models, at values that are the same on the vertices
  unequal : (s t : ℕ → ℕ) → ((v : ℕ) → v < w₁.vertices → s v ≡ at v) → ((v : ℕ) → v < w₁.vertices → t v ≡ at v)
      → IsEqual (drawn_nested_effect l joint.first x m y z s t) (drawn_nested_effect l joint.second x m y z s t) → ⊥
  unequal s t at_s at_t equal =
      let e₁ = drawn_nested_effect l joint.first x m y z s t in
      let e₂ = drawn_nested_effect l joint.second x m y z s t in
      let hs = within s at_s in
      let ht = within t at_t in
      folded_unequal (subst (λ a. IsEqual a (effect w₂ at at))
      (effect_alike q (q_mixed g ok l q is) w₁ f₁ (has x) (has m) (has y) (has z) s at t at at_s at_t)
      (subst (IsEqual (effect w₁ s t))
      (effect_alike q (q_mixed g ok l q is) w₂ f₂ (has x) (has m) (has y) (has z) s at t at (λ v vl. at_s v (low v vl)) (λ v vl. at_t v (low v vl)))
      (equal_trans (effect w₁ s t) e₁ (effect w₂ s t)
      (one_nested g ok l q is joint.first w₁ joint.first_fits f₁ n₁ joint.first_positive x m y z s t hs ht)
      (equal_trans e₁ e₂ (effect w₂ s t) equal (equal_sym (effect w₂ s t) e₂
      (one_nested g ok l q is joint.second w₂ joint.second_fits f₂ n₂ joint.second_positive x m y z s t (in_other s hs) (in_other t ht)))))))
    where
      low : (v : ℕ) → v < w₂.vertices → v < w₁.vertices
      low v vl = subst (λ n. v < n) (sym observed.vertices) vl

      within : (s : ℕ → ℕ) → ((v : ℕ) → v < w₁.vertices → s v ≡ at v) → IsAssignment w₁.vertices w₁.size s
      within s same v vl = subst (λ k. k < w₁.size v) (sym (same v vl)) (in_first v vl)

  pub differs : DifferNestedAsDrawn l joint.first joint.second x m y z
  differs = record {
    first = at;
    second = at;
    first_within = apart.within;
    second_within = apart.within;
    unequal = unequal at at (λ v vl. refl) (λ v vl. refl);
  }

  -- how many vertices are observed
  abbrev n : ℕ
  n = observed_count l joint.first

  pub no_formula : HasNoFormulaNestedAsDrawn g l q.vertices x m y z
  no_formula f once right =
      let c = named n x at in
      let t = as_observed n x c in
      let hc : IsAssignment (drawn_with_primes l joint.first x).vertices (drawn_with_primes l joint.first x).size c =
      λ k lt. apart.within (vertex_of n x k) (vertex_low n x k lt) in
      let hc₂ = second_names g ok l q is x y z joint w₁ w₂ f₁ f₂ n₁.both n₂.both c hc in
      let v₁ = value_of (drawn_with_primes l joint.first x) f c in
      let v₂ = value_of (drawn_with_primes l joint.second x) f c in
      let e₁ = drawn_nested_effect l joint.first x m y z c t in
      let e₂ = drawn_nested_effect l joint.second x m y z c t in
      unequal c t (λ v vl. named_own n x at v (low v vl)) (λ v vl. named_second n x at v (low v vl))
      (equal_trans e₁ v₁ e₂ (equal_sym v₁ e₁ (right joint.first joint.first_fits joint.first_positive c hc))
      (equal_trans v₁ v₂ e₂ (one_formula g ok l q is x y z joint w₁ w₂ f₁ f₂ n₁.both n₂.both f once c hc)
      (subst (λ k. IsEqual v₂ (drawn_nested_effect l joint.second x m y z c (as_observed k x c))) (sym joint.observed.vertices)
      (right joint.second joint.second_fits joint.second_positive c hc₂))))
    where
      low : (v : ℕ) → v < w₁.vertices → v < n
      low v vl = subst (λ k. v < k) n₁.both.folds.vertices vl

pub nested_lost_is_drawn : NestedLostIsDrawn
nested_lost_is_drawn = λ g ok l q is x m y z asked joint.
    let h₁ = each_has_nested_folded g ok l q is joint.first joint.first_fits in
    let h₂ = each_has_nested_folded g ok l q is joint.second joint.second_fits in
    record {
      joint = joint;
      differ = differs g ok l q is x m y z asked joint h₁.folded h₂.folded h₁.fits h₂.fits h₁.folds h₂.folds;
      no_formula = no_formula g ok l q is x m y z asked joint h₁.folded h₂.folded h₁.fits h₂.fits h₁.folds h₂.folds;
    }
