-- The chain of all vertices, each factor brought to its district.
use Rattle.std.proofs.Common.{ℕ, ◌≡◌, ◌<◌, Bool, true, false, not, refl, sym, ap, ap₂, ◌∙◌, ◌||◌, ◌&&◌, List, arith}
use Rattle.do_derivation.specs.Plans.{Move, Plan, Plans}
use Rattle.do_derivation.specs.declared.faults.StepFault.TheVariants.{Sets}
use Rattle.do_derivation.specs.Vocabulary.{no_plans, Makes, MakesAll, is_new, is_part}
use Rattle.do_derivation.specs.Table.{Row}
use Rattle.do_rules.specs.declared.rules.Rule.TheVariants.{Two, Three}
use Rattle.do_rules.proofs.RuleGraphs.{asked_of_two, asked_of_three}
use Rattle.do_derivation.specs.declared.moves.SetMove.TheVariants as set_move
use Rattle.identification_theory.proofs.Bools.{and_l, and_r, both_true, clash, not_i, or_l, or_r}
use Rattle.identification_theory.proofs.Places.{made_with, made_if, part, cut_three}
use Rattle.identification_theory.proofs.Separations.{IsPlace, later_not_above, later_removed, earlier_exchanged}
use Rattle.identification_theory.proofs.Sets.{all-is, apart, below, empty-has, has-minus, one-is}
use Rattle.mixed_graph.proofs.Masks.{has-and, has-or, same_from_has}
use Rattle.mixed_graph.specs.Vocabulary.{has, IsMixedGraph, MixedGraph, all, is_apart, is_below, is_empty, union, minus, one, common}
use Rattle.prob_expr.specs.Tree.{prob}
use Rattle.identification_theory.specs.Derivations.{with_set}

-- not empty, below n, apart from the three
pub new_set : (n z a b c : ℕ) → is_empty z ≡ false → ((v : ℕ) → has z v ≡ true → v < n) → ((v : ℕ) → has z v ≡ true → has a v ≡ true → ⊥)
    → ((v : ℕ) → has z v ≡ true → has b v ≡ true → ⊥)
    → ((v : ℕ) → has z v ≡ true → has c v ≡ true → ⊥) → is_new n z a b c ≡ true
new_set n z a b c ne low off_a off_b off_c = both_true (not (is_empty z)) (is_below n z && (is_apart z a && (is_apart z b && is_apart z c)))
    (not_i (is_empty z) ne)
    (both_true (is_below n z) (is_apart z a && (is_apart z b && is_apart z c)) (below n z low)
    (both_true (is_apart z a) (is_apart z b && is_apart z c) (apart z a off_a)
    (both_true (is_apart z b) (is_apart z c) (apart z b off_b) (apart z c off_c))))

module _ (g : MixedGraph) (is_graph : IsMixedGraph g) (d t P v : ℕ) (low : (u : ℕ) → has d u ≡ true → u < g.vertices)
    (k : IsPlace g (has P) (has d) (has d) (has t) v) where
  -- of d outside the district, those before v and those after it
  abbrev pub others_before : ℕ
  others_before = minus (common d P) t

  abbrev pub others_after : ℕ
  others_after = minus (minus d t) (minus (common d P) t)

  abbrev outer : ℕ
  outer = minus (all g.vertices) d

  has-ob : (u : ℕ) → has others_before u ≡ ((has d u && has P u) && not (has t u))
  has-ob u = has-minus (common d P) t u ∙ ap (λ b. b && not (has t u)) (has-and d P u)

  has-oa : (u : ℕ) → has others_after u ≡ ((has d u && not (has t u)) && not ((has d u && has P u) && not (has t u)))
  has-oa u = has-minus (minus d t) others_before u ∙ ap₂ (λ x y. x && not y) (has-minus d t u) (has-ob u)

  outer_rest : (p u : ℕ) → g.arrow p u ≡ true → has d p ≡ false → has outer p ≡ true
  outer_rest p u a o = has-minus (all g.vertices) d p ∙ rw (all-is g.vertices p (is_graph.tail_below p u a), o) refl

  ob_all : (u : ℕ) → has d u ≡ true → has t u ≡ false → has P u ≡ true → has others_before u ≡ true
  ob_all u e n q = has-ob u ∙ rw (e, n, q) refl

  ob_in : (u : ℕ) → has others_before u ≡ true → (has d u ≡ true) × (has P u ≡ true)
  ob_in u e = let h : ((has d u && has P u) && not (has t u)) ≡ true = rw (has-ob u) at e in let q : (has d u && has P u) ≡ true =
      and_l (has d u && has P u) (not (has t u)) h in
      (and_l (has d u) (has P u) q, and_r (has d u) (has P u) q)

  w_is : (u : ℕ) → has t u ≡ true → has P u ≡ true → has (common t P) u ≡ true
  w_is u e q = has-and t P u ∙ both_true (has t u) (has P u) e q

  w_in : (u : ℕ) → has (common t P) u ≡ true → (has t u ≡ true) × (has P u ≡ true)
  w_in u e = let j : (has t u && has P u) ≡ true = rw (has-and t P u) at e in (and_l (has t u) (has P u) j, and_r (has t u) (has P u) j)

  kept : minus (common d P) others_before ≡ common t P
  kept = same_from_has (minus (common d P) others_before) (common t P)
      (λ u. (has-minus (common d P) others_before u ∙ ap₂ (λ x y. x && not y) (has-and d P u) (has-ob u)) ∙
      (bools (has d u) (has P u) (has t u) (k.t_in u) ∙ sym (has-and t P u)))
    where
      bools : (x y z : Bool) → (z ≡ true → x ≡ true) → ((x && y) && not ((x && y) && not z)) ≡ (z && y)
      bools x y z h = grind (arith, h)

  step_do : (ls : List ℕ) → is_empty others_before ≡ false → Makes g ls (Plan.Make (Move.WithSet set_move.Rule2Do others_before)) (prob (one v) outer (common d P))
      (prob (one v) (union outer others_before) (common t P))
  step_do ls ne = made_if g (is_part others_before (common d P)) (Row.Ask Two outer (one v) others_before (minus (common d P) others_before)
      (prob (one v) (union outer others_before) (minus (common d P) others_before))) Sets
      (prob (one v) (union outer others_before) (common t P))
      (part others_before (common d P) ne (λ u e. has-and d P u ∙ both_true (has d u) (has P u) (ob_in u e).0 (ob_in u e).1)) (
        asked_of_two g (has outer) (has (one v)) (has others_before) (has (minus (common d P) others_before))
            (earlier_exchanged g (has P) (has d) (has d) (has t) v k (has outer) (has others_before) (has (common t P)) (has (one v))
            (λ u. has outer u || has (minus (common d P) others_before) u)
            outer_rest ob_all ob_in w_is w_in (λ u. ap (λ z. has outer u || has z u) kept) (one-is v)),
        ap (prob (one v) (union outer others_before)) (sym kept),
      )

  has-first : (u : ℕ) → has (union outer others_before) u ≡ ((has (all g.vertices) u && not (has d u)) || ((has d u && has P u) && not (has t u)))
  has-first u = has-or outer others_before u ∙ ap₂ (λ x y. x || y) (has-minus (all g.vertices) d u) (has-ob u)

  oa_out : (u : ℕ) → has others_after u ≡ true → (has t u ≡ false) × (has (union outer others_before) u ≡ false)
  oa_out u e = (
    one_ (has d u) (has t u) (has P u) (rw (has-oa u) at e),
    has-first u
        ∙ two_ (has (all g.vertices) u) (has d u) (has t u) (has P u) (rw (has-oa u) at e),
  )
    where
      one_ : (d t p : Bool) → ((d && not t) && not ((d && p) && not t)) ≡ true → t ≡ false
      one_ d t p h = grind (arith, h)

      two_ : (V d t p : Bool) → ((d && not t) && not ((d && p) && not t)) ≡ true → ((V && not d) || ((d && p) && not t)) ≡ false
      two_ V d t p h = grind (arith, h)

  oa_d : (u : ℕ) → has others_after u ≡ true → has d u ≡ true
  oa_d u e = go (has d u) (has t u) (has P u) (rw (has-oa u) at e)
    where
      go : (d t p : Bool) → ((d && not t) && not ((d && p) && not t)) ≡ true → d ≡ true
      go d t p h = grind (arith, h)

  first_rest : (p u : ℕ) → g.arrow p u ≡ true → has d p ≡ false → has (union outer others_before) p ≡ true
  first_rest p u a o = has-or outer others_before p ∙ or_l (has outer p) (has others_before p) (outer_rest p u a o)

  first_before : (u : ℕ) → has d u ≡ true → has t u ≡ false → has P u ≡ true → has (union outer others_before) u ≡ true
  first_before u e n q = has-or outer others_before u ∙ or_r (has outer u) (has others_before u) (ob_all u e n q)

  all_set : union (union outer others_before) others_after ≡ minus (all g.vertices) t
  all_set = same_from_has (union (union outer others_before) others_after) (minus (all g.vertices) t)
      (λ u. (has-or (union outer others_before) others_after u ∙ ap₂ (λ x y. x || y) (has-first u) (has-oa u)) ∙
      (bools (has (all g.vertices) u) (has d u) (has t u) (has P u) (λ e. all-is g.vertices u (low u e)) (k.t_in u) ∙ sym (has-minus (all g.vertices) t u)))
    where
      bools : (V d t p : Bool) → (d ≡ true → V ≡ true) → (t ≡ true → d ≡ true)
          → (((V && not d) || ((d && p) && not t)) || ((d && not t) && not ((d && p) && not t))) ≡ (V && not t)
      bools V d t p h1 h2 = grind (arith, h1, h2)

  step_in : (ls : List ℕ) → is_empty others_after ≡ false → Makes g ls (Plan.Make (Move.WithSet set_move.Rule3In others_after))
      (prob (one v) (union outer others_before) (common t P)) (prob (one v) (minus (all g.vertices) t) (common t P))
  step_in ls ne = made_if g (is_new g.vertices others_after (one v) (union outer others_before) (common t P))
      (Row.Ask Three (union outer others_before) (one v) others_after (common t P) (prob (one v) (union (union outer others_before) others_after) (common t P)))
      Sets (prob (one v) (minus (all g.vertices) t) (common t P))
      (new_set g.vertices others_after (one v) (union outer others_before) (common t P) ne (λ u e. low u (oa_d u e))
      (λ u e i. clash (has t u) (rw (one-is v u i) k.v_in) (oa_out u e).0) (λ u e i. clash (has (union outer others_before) u) i (oa_out u e).1)
      (λ u e i. clash (has t u) (w_in u i).0 (oa_out u e).0)) (
        asked_of_three g (has (union outer others_before)) (has (one v)) (has others_after) (has (common t P)) (has others_after)
            (cut_three g (union outer others_before) others_after (common t P)
            (later_not_above g (has P) (has d) (has d) (has t) v k (has (union outer others_before)) (has others_after) (has (common t P))
            (has others_after) (has (one v))
            (λ u. has (union outer others_before) u || has (common t P) u) first_rest first_before w_is w_in oa_out))
            (later_removed g (has P) (has d) (has d) (has t) v k (has (union outer others_before)) (has others_after) (has (common t P)) (has others_after)
            (has (one v)) (λ u. has (union outer others_before) u || has (common t P) u)
            first_rest first_before w_is w_in oa_out (λ u e. e) (one-is v) (λ u e. e) (λ u e. e)),
        ap (λ z. prob (one v) z (common t P)) (sym all_set),
      )

  abbrev pub home_steps : Plans
  home_steps = with_set others_before (Plan.Make (Move.WithSet set_move.Rule2Do others_before)) (with_set others_after (Plan.Make (Move.WithSet set_move.Rule3In others_after)) no_plans)

  none_before : is_empty others_before ≡ true → prob (one v) (union outer others_before) (common t P) ≡ prob (one v) outer (common d P)
  none_before e = ap₂ (prob (one v)) (same_from_has (union outer others_before) outer
      (λ u. has-or outer others_before u ∙ rw (empty-has others_before u e) (one_ (has outer u))))
      (sym kept ∙ same_from_has (minus (common d P) others_before) (common d P)
      (λ u. has-minus (common d P) others_before u ∙ rw (empty-has others_before u e) (two_ (has (common d P) u))))
    where
      one_ : (b : Bool) → (b || false) ≡ b
      one_ b = grind arith

      two_ : (b : Bool) → (b && not false) ≡ b
      two_ b = grind arith

  none_after : is_empty others_after ≡ true → prob (one v) (minus (all g.vertices) t) (common t P) ≡ prob (one v) (union outer others_before) (common t P)
  none_after e = ap (λ z. prob (one v) z (common t P)) (sym all_set ∙ same_from_has (union (union outer others_before) others_after) (union outer others_before)
      (λ u. has-or (union outer others_before) others_after u ∙ rw (empty-has others_after u e) (go (has (union outer others_before) u))))
    where
      go : (b : Bool) → (b || false) ≡ b
      go b = grind arith

  -- the chain's factor of v in d becomes that of v in its district
  pub home_made : (ls : List ℕ) → MakesAll g ls home_steps (prob (one v) (minus (all g.vertices) d) (common d P))
      (prob (one v) (minus (all g.vertices) t) (common t P))
  home_made ls = made_with g ls others_before (Plan.Make (Move.WithSet set_move.Rule2Do others_before))
      (with_set others_after (Plan.Make (Move.WithSet set_move.Rule3In others_after)) no_plans) (prob (one v) outer (common d P))
      (prob (one v) (union outer others_before) (common t P)) (prob (one v) (minus (all g.vertices) t) (common t P))
      none_before (step_do ls)
      (made_with g ls others_after (Plan.Make (Move.WithSet set_move.Rule3In others_after)) no_plans (prob (one v) (union outer others_before) (common t P))
      (prob (one v) (minus (all g.vertices) t) (common t P)) (prob (one v) (minus (all g.vertices) t) (common t P)) none_after (step_in ls) refl)
