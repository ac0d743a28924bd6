-- In a model what the joint effect leaves to those who have the other level, over their probability, is the effect among them.
use Rattle.std.proofs.Common.{ℕ, ◌+◌, ◌*◌, ◌-◌, ◌≡◌, ◌<◌, ◌≤◌, Bool, true, false, ◌||◌, ◌==◌, refl, sym, ap, ap₂, ◌∙◌, subst, arith, [], ◌∷◌}
use Rattle.std.proofs.Common.{mul-pos, mul-le-mul_right}
use Rattle.std.proofs.lemmas.Bool.{false_from_ne_true}
use mathlib.Core.Path.{fun_ext}
use Rattle.mixed_graph.specs.Vocabulary.{has, MixedGraph, IsMixedGraph, IsAncestor, union}
use Rattle.mixed_graph.proofs.MaskLaws.{has_join, has_none}
use Rattle.fractions.specs.Vocabulary.{Fraction, over, div, IsEqual}
use Rattle.finite_models.specs.Vocabulary.{FiniteModel, Fits, IsAssignment, IsPositiveModel, event_weight, intervene, total, weight_of}
use Rattle.finite_models.proofs.Bools.{either, not_both}
use Rattle.finite_models.proofs.Following.{follows_of}
use Rattle.finite_models.proofs.Positive.{positive_weight}
use Rattle.finite_models.proofs.Tested.{tested, stable}
use Rattle.finite_models.proofs.Weights.{weight-none, weight_of-none}
use Rattle.prob_expr.specs.Vocabulary.{effect, effect_on, value_of, weights_of}
use Rattle.differences.specs.Vocabulary.{IsAtMost, minus}
use Rattle.treated_models.specs.Vocabulary.{IsBefore, IsOtherValue, effect_among, weight_of_both}
use Rattle.treated_id.specs.Vocabulary.{IsTreatedTarget}
use Rattle.treated_paths.proofs.TwoValues.{two_values_split_joint}
use Rattle.factor_values.specs.Vocabulary.{chance_of}
use Rattle.split_values.specs.Values.{shown_of}

-- it can't be that no set shows that x and z don't come after x: their ancestors do
before_tested : (g : MixedGraph) → IsMixedGraph g → (x y z : ℕ) → IsTreatedTarget g x y z → (IsBefore g (has x) (λ v. has x v || has z v) → ⊥) → ⊥
before_tested g ok x y z target none = tested (IsAncestor g (has (union x z))) g.vertices (λ t. none (record {
  past = t.test;
  holds = λ v e.
      let low = either (has x v) (has z v) (v < g.vertices) e (target.x_low v) (target.z_low v) in
      t.complete v low (record { vertex = low; path = []; end = v; leads = refl; inside = has_join x z v ∙ e });
  closed = λ p v arrow e.
      let k = t.sound v e in
      let low = ok.tail_below p v arrow in
      t.complete p low (record { vertex = low; path = v ∷ k.path; end = k.end; leads = (arrow, k.leads); inside = k.inside });
  untouched = λ p v arrow e. false_from_ne_true (has x p) (λ h.
      let k = t.sound v e in
      target.before k.end k.inside (record { start = p; next = v; path = k.path; inside = h; leads = (arrow, k.leads) }));
}))

-- where the second isn't beside the first, the first isn't beside the second
turned : (p q : Bool) → q ≡ true → (p ≡ true → q ≡ false) → p ≡ false
turned true q h k = absurd (not_both q h (k refl))
turned false q h k = refl

-- with a = e + b, the difference of a / t and e / t, over o / t, is b / o
split_numbers : (a e b t o : ℕ) → a ≡ e + b → 1 ≤ t → 1 ≤ o → IsEqual (div (minus (over a t) (over e t)) (over o t)) (over b o)
split_numbers a e b t o is lt lo = record {
  left_bottom = mul-pos (mul-pos lt lt) lo;
  right_bottom = lo;
  products = ap (λ n. (n * t - e * t) * t * o) is ∙ ap (λ n. n * t * o) rest ∙ (let r : b * t * t * o ≡ b * (t * t * o) = omega arith in r);
}
  where
    rest : (e + b) * t - e * t ≡ b * t
    rest = let r : (e + b) * t ≡ e * t + b * t = omega arith in omega (arith, r)

module _ (g : MixedGraph) (ok : IsMixedGraph g) (m : FiniteModel) (fit : Fits g m) (positive : IsPositiveModel m) (x y z : ℕ)
    (target : IsTreatedTarget g x y z) (v : ℕ) (single : (u : ℕ) → has x u ≡ (u == v)) (s t : ℕ → ℕ) (within : IsAssignment m.vertices m.size s)
    (inside : IsAssignment m.vertices m.size t) (other : IsOtherValue m v s t) (elsewhere : (u : ℕ) → has x u ≡ false → t u ≡ s u) where
  path : has x ≡ (λ u. u == v)
  path = fun_ext single

  abbrev whole : ℕ
  whole = weight_of m (has x) (λ u. has y u || has z u) s

  abbrev shown : ℕ
  shown = event_weight m (λ u. (has y u || has z u) || has x u) s

  abbrev rest : ℕ
  rest = weight_of_both m (has x) (has y) (λ u. has x u || has z u) s t

  abbrev MakesUp : (ℕ → Bool) → Type 0
  MakesUp a = weight_of m a (λ u. has y u || has z u) s
      ≡ event_weight m (λ u. (has y u || has z u) || a u) s + weight_of_both m a (has y) (λ u. a u || has z u) s t

  made_up : IsBefore g (has x) (λ u. has x u || has z u) → MakesUp (has x)
  made_up before = subst MakesUp (sym path)
      (two_values_split_joint g ok m fit v (has y) (has z) (subst (λ a. IsBefore g a (λ u. a u || has z u)) path before)
      (λ u e. sym (single u) ∙ turned (has x u) (has y u) e (target.x_off_y u)) (λ u e. turned (has z u) (has y u) e (target.z_off_y u) ∙ refl)
      (λ u e. sym (single u) ∙ turned (has x u) (has z u) e (target.x_off_z u)) s t within other (λ u e. elsewhere u (single u ∙ e)))

  split : whole ≡ shown + rest
  split = stable whole (shown + rest) (λ differ. before_tested g ok x y z target (λ before. differ (made_up before)))

  some : 1 ≤ total m
  some = subst (λ n. 1 ≤ n) (weight-none (intervene m (has 0) s) (has 0) s has_none)
      (positive_weight g m ok (follows_of g m fit) positive (has 0) (has 0) s within)

  -- P(set) at r
  chance_is : (set : ℕ) (a : ℕ → Bool) (r : ℕ → ℕ) → ((u : ℕ) → has set u ≡ a u) → value_of (weights_of m) (chance_of set) r ≡ over (event_weight m a r) (total m)
  chance_is set a r is =
      ap₂ over
      (weight_of-none m (has 0) (λ u. has set u || has 0 u) r has_none ∙ ap (λ (b : ℕ → Bool). event_weight m b r) (fun_ext (λ u. same u)))
      (weight_of-none m (has 0) (has 0) r has_none ∙ weight-none m (has 0) r has_none)
    where
      same : (u : ℕ) → (has set u || has 0 u) ≡ a u
      same u = let n = has_none u in let i = is u in grind (arith, n, i)

  joint_is : effect m (effect_on x (union y z)) s ≡ over whole (total m)
  joint_is =
      ap₂ over (ap (λ (b : ℕ → Bool). weight_of m (has x) b s) (fun_ext same)) (weight-none (intervene m (has x) s) (has 0) s has_none)
    where
      same : (u : ℕ) → (has (union y z) u || has 0 u) ≡ (has y u || has z u)
      same u = let n = has_none u in let i = has_join y z u in grind (arith, n, i)

  shown_is : value_of (weights_of m) (shown_of x y z) s ≡ over shown (total m)
  shown_is = chance_is (union (union x y) z) (λ u. (has y u || has z u) || has x u) s same
    where
      same : (u : ℕ) → has (union (union x y) z) u ≡ ((has y u || has z u) || has x u)
      same u = let i = has_join (union x y) z u in let j = has_join x y u in grind (arith, i, j)

  others_is : value_of (weights_of m) (chance_of (union x z)) t ≡ over (event_weight m (λ u. has x u || has z u) t) (total m)
  others_is = chance_is (union x z) (λ u. has x u || has z u) t (has_join x z)

  some_others : 1 ≤ event_weight m (λ u. has x u || has z u) t
  some_others = subst (λ n. 1 ≤ n) (weight_of-none m (has 0) (λ u. has x u || has z u) t has_none)
      (positive_weight g m ok (follows_of g m fit) positive (has 0) (λ u. has x u || has z u) t inside)

  pub left_effect : IsEqual (div (minus (effect m (effect_on x (union y z)) s) (value_of (weights_of m) (shown_of x y z) s))
      (value_of (weights_of m) (chance_of (union x z)) t)) (effect_among m (has x) (has y) (λ u. has x u || has z u) s t)
  left_effect =
      let o = event_weight m (λ u. has x u || has z u) t in
      subst (λ (f : Fraction). IsEqual (div (minus f (value_of (weights_of m) (shown_of x y z) s)) (value_of (weights_of m) (chance_of (union x z)) t)) (over rest o))
      (sym joint_is)
      (subst (λ (f : Fraction). IsEqual (div (minus (over whole (total m)) f) (value_of (weights_of m) (chance_of (union x z)) t)) (over rest o)) (sym shown_is)
      (subst (λ (f : Fraction). IsEqual (div (minus (over whole (total m)) (over shown (total m))) f) (over rest o)) (sym others_is)
      (split_numbers whole shown rest (total m) o split some some_others)))

  pub shown_at_most : IsAtMost (value_of (weights_of m) (shown_of x y z) s) (effect m (effect_on x (union y z)) s)
  shown_at_most =
      subst (λ (f : Fraction). IsAtMost (value_of (weights_of m) (shown_of x y z) s) f) (sym joint_is)
      (subst (λ (f : Fraction). IsAtMost f (over whole (total m))) (sym shown_is)
      (mul-le-mul_right (total m) (let e = split in let l : shown ≤ whole = omega (arith, e) in l)))
