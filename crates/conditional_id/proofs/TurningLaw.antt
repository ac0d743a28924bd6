-- Observations that turn into interventions.
use Rattle.std.proofs.Common.{ℕ, suc, ◌≡◌, ◌<◌, Bool, true, false, not, ltb, refl, sym, ap₂, subst, ◌∙◌, ◌&&◌, ◌⊎◌, inl, inr, List, [], ◌∷◌, arith, ltb-true}
use Rattle.conditional_id.specs.Conditionals.AreTurned.{still, move}
use Rattle.conditional_id.specs.Conditionals.{IsConditionalTarget, AreTurned, IsTurned, turned_steps}
use Rattle.do_derivation.specs.Plans.{Plans}
use Rattle.do_derivation.specs.declared.faults.StepFault.TheVariants.{Sets}
use Rattle.do_derivation.specs.Vocabulary.{MakesAll, is_part}
use Rattle.do_derivation.specs.Table.{Row}
use Rattle.do_rules.specs.declared.rules.Rule.TheVariants.{Two}
use Rattle.identification_theory.proofs.Bools.{and_l, and_r, both_true, clash, not_e, not_i, or_e, or_l}
use Rattle.identification_theory.proofs.Places.{made_if, part}
use Rattle.identification_theory.proofs.Sets.{apart, below, has-minus, not_empty, one-is, one-self}
use Rattle.identification_theory.specs.Vocabulary.{are_plans_within, IsTarget}
use Rattle.mixed_graph.proofs.Masks.{has-or, has-zero}
use Rattle.mixed_graph.specs.Vocabulary.{has, MixedGraph, is_empty, union, minus, one}
use Rattle.prob_expr.specs.Vocabulary.{is_term, PlainTarget}
use Rattle.prob_expr.specs.Tree.{Tree, prob}

-- the target P(y | do(x), z)
abbrev pub targeted : (x y z : ℕ) → PlainTarget
targeted x y z = record { x = x; y = y; given = z }

-- the sets of a target as those of a term
pub given_term : (g : MixedGraph) (t : PlainTarget) → IsConditionalTarget g t → is_term g.vertices t.y t.x t.given ≡ true
given_term g t k = both_true _ _ (both_true _ _ (both_true _ _ (below n t.y k.sets.y_within)
    (both_true _ _ (below n t.x k.sets.x_within) (below n t.given k.sets.w_within)))
    (both_true _ _ (apart t.y t.x (λ v e i. clash (has t.y v) e (k.sets.x_y v i)))
    (both_true _ _ (apart t.y t.given (λ v e i. clash (has t.given v) i (k.sets.y_w v e)))
    (apart t.x t.given (λ v e i. clash (has t.given v) i (k.sets.x_w v e))))))
    (not_i (is_empty t.y) (not_empty t.y k.some.0 k.some.1))
  where
    n : ℕ
    n = g.vertices

-- x and y as a target without a condition
pub pair_of : (g : MixedGraph) (t : PlainTarget) → IsConditionalTarget g t → IsTarget g t.x t.y
pair_of g t k = record {
  x_low = k.sets.x_within;
  y_low = k.sets.y_within;
  off = λ u e i. clash (has t.y u) i (k.sets.x_y u e);
  some = k.some.0;
  some_in = k.some.1;
}

not_true : (p : Bool) → (p ≡ true → ⊥) → p ≡ false
not_true true h = absurd (h refl)
not_true false h = refl

module _ (g : MixedGraph) (y : ℕ) where
  minus_of : (z v u : ℕ) → has (minus z (one v)) u ≡ true → (has z u ≡ true) × (has (one v) u ≡ false)
  minus_of z v u e =
      let q : (has z u && not (has (one v) u)) ≡ true = rw (has-minus z (one v) u) at e in
      (and_l (has z u) (not (has (one v) u)) q, not_e (has (one v) u) (and_r (has z u) (not (has (one v) u)) q))

  -- one move leaves a target
  pub moved_target : (x z v : ℕ) → has z v ≡ true → IsConditionalTarget g (targeted x y z)
      → IsConditionalTarget g (targeted (union x (one v)) y (minus z (one v)))
  moved_target x z v i k = record {
    sets = record {
      x_within = λ u e. low u (of_x u e);
      y_within = k.sets.y_within;
      w_within = λ u e. k.sets.w_within u (minus_of z v u e).0;
      x_y = λ u e. off_y u (of_x u e);
      x_w = λ u e. off_z u (of_x u e);
      y_w = λ u e. not_true (has (minus z (one v)) u) (λ j. clash (has z u) (minus_of z v u j).0 (k.sets.y_w u e));
    };
    some = k.some;
  }
    where
      of_x : (u : ℕ) → has (union x (one v)) u ≡ true → (has x u ≡ true) ⊎ (has (one v) u ≡ true)
      of_x u e = or_e (has x u) (has (one v) u) (rw (has-or x (one v) u) at e)

      low : (u : ℕ) → (has x u ≡ true) ⊎ (has (one v) u ≡ true) → u < g.vertices
      low u (inl e) = k.sets.x_within u e
      low u (inr e) = k.sets.w_within u (rw (one-is v u e) i)

      off_y : (u : ℕ) → (has x u ≡ true) ⊎ (has (one v) u ≡ true) → has y u ≡ false
      off_y u (inl e) = k.sets.x_y u e
      off_y u (inr e) = not_true (has y u) (λ j. clash (has z u) (rw (one-is v u e) i) (k.sets.y_w u j))

      off_z : (u : ℕ) → (has x u ≡ true) ⊎ (has (one v) u ≡ true) → has (minus z (one v)) u ≡ false
      off_z u (inl e) = not_true (has (minus z (one v)) u) (λ j. clash (has z u) (minus_of z v u j).0 (k.sets.x_w u e))
      off_z u (inr e) = not_true (has (minus z (one v)) u) (λ j. clash (has (one v) u) e (minus_of z v u j).1)

  -- and so do all
  pub turned_target : (x z x' z' : ℕ) (vs : List ℕ) → AreTurned g y x z x' z' vs → IsConditionalTarget g (targeted x y z)
      → IsConditionalTarget g (targeted x' y z')
  turned_target x z _ _ _ (still n) k = k
  turned_target x z x' z' _ (move {v = v} {vs = vs} i h l r) k = turned_target (union x (one v)) (minus z (one v)) x' z' vs r (moved_target x z v i k)

  -- what is left was given
  pub left_in : (x z x' z' : ℕ) (vs : List ℕ) → AreTurned g y x z x' z' vs → (u : ℕ) → has z' u ≡ true → has z u ≡ true
  left_in x z _ _ _ (still n) u e = e
  left_in x z x' z' _ (move {v = v} {vs = vs} i h l r) u e = (minus_of z v u (left_in (union x (one v)) (minus z (one v)) x' z' vs r u e)).0

  -- where nothing is given, nothing moves
  pub none_moves : (x z x' z' : ℕ) (vs : List ℕ) → AreTurned g y x z x' z' vs → z ≡ 0 → (x' ≡ x) × (z' ≡ 0) × (vs ≡ [])
  none_moves x z _ _ _ (still n) e = (refl, e, refl)
  none_moves x z x' z' _ (move {v = v} i h l r) e = absurd (clash (has z v) i (rw e (has-zero v)))

  -- each move is a step
  pub turned_made : (ls : List ℕ) (x z x' z' : ℕ) (vs : List ℕ) (rest : Plans) (e : Tree) → AreTurned g y x z x' z' vs → MakesAll g ls rest (prob y x' z') e
      → MakesAll g ls (turned_steps vs rest) (prob y x z) e
  turned_made ls x z _ _ _ rest e (still n) m = m
  turned_made ls x z x' z' _ rest e (move {v = v} {vs = vs} i h l r) m = (
    prob y (union x (one v)) (minus z (one v)),
    made_if g (is_part (one v) z) (Row.Ask Two x y (one v) (minus z (one v)) (prob y (union x (one v)) (minus z (one v)))) Sets
        (prob y (union x (one v)) (minus z (one v)))
        (part (one v) z (not_empty (one v) v (one-self v)) (λ u e. rw (one-is v u e) i))
        (h, refl),
    turned_made ls (union x (one v)) (minus z (one v)) x' z' vs rest e r m,
  )

  pub turned_deep : (d : ℕ) (vs : List ℕ) (rest : Plans) → are_plans_within (suc d) rest ≡ true → are_plans_within (suc d) (turned_steps vs rest) ≡ true
  turned_deep d [] rest h = h
  turned_deep d (v ∷ vs) rest h = turned_deep d vs rest h

  -- they are fixed
  pub turned_one : (x z x' z' a b : ℕ) (vs ws : List ℕ) → AreTurned g y x z x' z' vs → AreTurned g y x z a b ws → (x' ≡ a) × (z' ≡ b) × (vs ≡ ws)
  turned_one x z _ _ _ _ _ _ (still n) (still m) = (refl, refl, refl)
  turned_one x z _ _ a b _ _ (still n) (move {v = v} i h l r) = absurd (n v i h)
  turned_one x z x' z' _ _ _ _ (move {v = v} i h l r) (still m) = absurd (m v i h)
  turned_one x z x' z' a b _ _ (move {v = v} {vs = vs} i h l r) (move {v = w} {vs = ws} j k m s) =
      go (ltb v w) refl (ltb w v) refl (λ t. turned_one (union x (one v)) (minus z (one v)) x' z' a b vs ws r t)
    where
      go : (p : Bool) → ltb v w ≡ p → (q : Bool) → ltb w v ≡ q → (AreTurned g y (union x (one v)) (minus z (one v)) a b ws → (x' ≡ a) × (z' ≡ b) × (vs ≡ ws))
          → (x' ≡ a) × (z' ≡ b) × ((v ∷ vs) ≡ (w ∷ ws))
      go true e q f ih = absurd (m v (ltb-true v w e) i h)
      go false e true f ih = absurd (l w (ltb-true w v f) j k)
      go false e false f ih =
          let same : w ≡ v = grind (arith, e, f) in
          let t = ih (subst (λ c. AreTurned g y (union x (one c)) (minus z (one c)) a b ws) same s) in
          (t.0, t.1, ap₂ (λ c d. c ∷ d) (sym same) t.2)

-- the turned sets of a target are sets of one
pub turned_sets : (g : MixedGraph) (t : PlainTarget) → IsConditionalTarget g t → (x' z' : ℕ) (vs : List ℕ) → IsTurned g t x' z' vs
    → IsConditionalTarget g (targeted x' t.y z')
turned_sets g t k x' z' vs (inl c) = subst (λ a. IsConditionalTarget g (targeted a t.y z')) (sym c.1)
    (subst (λ a. IsConditionalTarget g (targeted t.x t.y a)) (sym c.2) k)
turned_sets g t k x' z' vs (inr c) = turned_target g t.y t.x t.given x' z' vs c.1 k

-- and those of a joint effect
pub joint_target : (g : MixedGraph) (x y z : ℕ) → IsConditionalTarget g (targeted x y z) → IsConditionalTarget g (targeted x (union y z) 0)
joint_target g x y z k = record {
  sets = record {
    x_within = k.sets.x_within;
    y_within = λ u e. low u (of_both u e);
    w_within = λ u e. absurd (clash (has 0 u) e (has-zero u));
    x_y = λ u e. not_true (has (union y z) u) (λ j. off u e (of_both u j));
    x_w = λ u e. has-zero u;
    y_w = λ u e. has-zero u;
  };
  some = (k.some.0, has-or y z k.some.0 ∙ or_l (has y k.some.0) (has z k.some.0) k.some.1);
}
  where
    of_both : (u : ℕ) → has (union y z) u ≡ true → (has y u ≡ true) ⊎ (has z u ≡ true)
    of_both u e = or_e (has y u) (has z u) (rw (has-or y z u) at e)

    low : (u : ℕ) → (has y u ≡ true) ⊎ (has z u ≡ true) → u < g.vertices
    low u (inl e) = k.sets.y_within u e
    low u (inr e) = k.sets.w_within u e

    off : (u : ℕ) → has x u ≡ true → (has y u ≡ true) ⊎ (has z u ≡ true) → ⊥
    off u e (inl j) = clash (has y u) j (k.sets.x_y u e)
    off u e (inr j) = clash (has z u) j (k.sets.x_w u e)
