-- The steps at one place of a factor's body are accepted.
use Rattle.std.proofs.Common.{ℕ, ◌≡◌, ◌<◌, Bool, true, false, cond, not, refl, sym, ap, ◌∙◌, ◌||◌, ◌&&◌, ◌⊎◌, List, arith}
use mathlib.Core.Path.{ap₂}
use Rattle.do_derivation.specs.Plans.{Move, Plan, Plans, plan}
use Rattle.do_derivation.specs.declared.faults.StepFault.TheVariants.{Sets}
use Rattle.do_derivation.specs.declared.faults.StepFault.{StepFault}
use Rattle.do_derivation.specs.Vocabulary.{IsMade, Makes, MakesAll, if_so, is_part}
use Rattle.do_derivation.specs.Table.{Row}
use Rattle.do_derivation.specs.declared.moves.SetMove.TheVariants as set_move
use Rattle.do_rules.specs.declared.rules.Rule.TheVariants.{One, Two, Three}
use Rattle.do_rules.specs.Vocabulary.{IsFarPart, cut_into}
use Rattle.do_rules.proofs.RuleGraphs.{asked_of_one, asked_of_two, asked_of_three}
use Rattle.identification_theory.proofs.Bools.{and_l, and_r, both_true, not_e, not_i, clash}
use Rattle.identification_theory.proofs.Separations.{IsPlace, later_not_above, later_removed, earlier_exchanged, rest_apart}
use Rattle.identification_theory.proofs.Sets.{all-is, empty-has, has-minus, inside, one-is}
use Rattle.mixed_graph.proofs.Masks.{has-and, has-or, same_from_has}
use Rattle.mixed_graph.specs.Vocabulary.{has, IsAncestor, IsMixedGraph, MixedGraph, all, is_empty, is_inside, union, minus, one, common}
use Rattle.prob_expr.specs.Tree.{Tree, prob}
use Rattle.identification_theory.specs.Derivations.{with_set, place_list}

pub made_with : (g : MixedGraph) (ls : List ℕ) (z : ℕ) (s : Plan) (l : Plans) (e m e' : Tree) → (is_empty z ≡ true → m ≡ e)
    → (is_empty z ≡ false → Makes g ls s e m) → MakesAll g ls l m e' → MakesAll g ls (with_set z s l) e e'
made_with g ls z s l e m e' skip step rest = go (is_empty z) refl
  where
    go : (b : Bool) → is_empty z ≡ b → MakesAll g ls (cond b l (plan s l)) e e'
    go true q = rw (skip q) at rest
    go false q = (m, step q, rest)

-- a row whose condition holds has the result that it has without the condition
pub made_if : (g : MixedGraph) (ok : Bool) (r : Row) (fault : StepFault) (e : Tree) → ok ≡ true → IsMade g r e → IsMade g (if_so ok r fault) e
made_if g true r fault e q h = h
made_if g false r fault e q h = absurd (grind (arith, q))

-- the far part of rule 3 is all of z where no member of z is an ancestor
pub cut_three : (g : MixedGraph) (x z w : ℕ) → ((v : ℕ) → has z v ≡ true → IsAncestor (cut_into g (has x)) (has w) v → ⊥)
    → IsFarPart g (has x) (has z) (has w) (has z)
cut_three g x z w none = record { inside = λ v e. e; no_ancestor = none; complete = λ v e n. absurd (clash (has z v) e n) }

-- a set that isn't empty and lies in b passes as a part of b
pub part : (z b : ℕ) → is_empty z ≡ false → ((v : ℕ) → has z v ≡ true → has b v ≡ true) → is_part z b ≡ true
part z b e h = both_true (not (is_empty z)) (is_inside z b) (not_i (is_empty z) e) (inside z b h)

module _ (g : MixedGraph) (is_graph : IsMixedGraph g) (P U A T v M : ℕ) (k : IsPlace g (has P) (has U) (has A) (has T) v) (D : ℕ → Type 0)
    (d_in : (u : ℕ) → D u → (has A u ≡ true) × ((has P u ≡ true) ⊎ (u ≡ v)))
    (d_v : D v)
    (d_closed : (u w : ℕ) → g.both u w ≡ true → D u → has A w ≡ true → (has P w ≡ true) ⊎ (w ≡ v) → D w)
    (m_in : (u : ℕ) → has M u ≡ true → (has A u ≡ true) × (has P u ≡ true))
    (m_d : (u : ℕ) → D u → has P u ≡ true → has M u ≡ true)
    (m_parent : (p u : ℕ) → g.arrow p u ≡ true → D u → has A p ≡ true → has P p ≡ true → has M p ≡ true)
    (u_low : (u : ℕ) → has U u ≡ true → u < g.vertices) where
  abbrev pub before_outside : ℕ
  before_outside = minus (common A P) T

  abbrev pub later : ℕ
  later = minus (minus U T) (minus (common A P) T)

  abbrev pub unneeded : ℕ
  unneeded = minus (common A P) M

  has-before : (u : ℕ) → has before_outside u ≡ ((has A u && has P u) && not (has T u))
  has-before u = has-minus (common A P) T u ∙ ap (λ b. b && not (has T u)) (has-and A P u)

  has-later : (u : ℕ) → has later u ≡ ((has U u && not (has T u)) && not ((has A u && has P u) && not (has T u)))
  has-later u = has-minus (minus U T) before_outside u ∙ (ap (λ b. b && not (has before_outside u)) (has-minus U T u)
      ∙ ap (λ b. (has U u && not (has T u)) && not b) (has-before u))

  abbrev rest_set : ℕ
  rest_set = minus (all g.vertices) T

  abbrev set_one : ℕ
  set_one = minus rest_set later

  abbrev set_two : ℕ
  set_two = minus set_one before_outside

  has-one_ : (u : ℕ) → has set_one u ≡ ((has (all g.vertices) u && not (has T u))
      && not ((has U u && not (has T u)) && not ((has A u && has P u) && not (has T u))))
  has-one_ u = has-minus rest_set later u ∙ (ap (λ b. b && not (has later u)) (has-minus (all g.vertices) T u)
      ∙ ap (λ b. (has (all g.vertices) u && not (has T u)) && not b) (has-later u))

  in_v : (u : ℕ) → has U u ≡ true → has (all g.vertices) u ≡ true
  in_v u e = all-is g.vertices u (u_low u e)

  two_is : set_two ≡ minus (all g.vertices) U
  two_is = same_from_has set_two (minus (all g.vertices) U) (λ u. (has-minus set_one before_outside u
      ∙ (ap (λ b. b && not (has before_outside u)) (has-one_ u) ∙
      ap (λ b. ((has (all g.vertices) u && not (has T u)) && not ((has U u && not (has T u)) && not ((has A u && has P u) && not (has T u)))) && not b)
      (has-before u)))
      ∙ (eq_two (has (all g.vertices) u) (has U u) (has A u) (has T u) (has P u) (k.t_in u) (k.a_in u) (in_v u) ∙ sym (has-minus (all g.vertices) U u)))
    where
      eq_two : (V U A T P : Bool) → (T ≡ true → A ≡ true) → (A ≡ true → U ≡ true) → (U ≡ true → V ≡ true)
          → (((V && not T) && not ((U && not T) && not ((A && P) && not T))) && not ((A && P) && not T)) ≡ (V && not U)
      eq_two V U A T P h1 h2 h3 = grind (arith, h1, h2, h3)

  tail_v : (p u : ℕ) → g.arrow p u ≡ true → has (all g.vertices) p ≡ true
  tail_v p u a = all-is g.vertices p (is_graph.tail_below p u a)

  module _ (W : ℕ) (w_is : (u : ℕ) → has T u ≡ true → has P u ≡ true → has W u ≡ true)
      (w_in : (u : ℕ) → has W u ≡ true → (has T u ≡ true) × (has P u ≡ true)) where
    one_rest : (p u : ℕ) → g.arrow p u ≡ true → has U p ≡ false → has set_one p ≡ true
    one_rest p u a o = rw (has-one_ p) (go (has (all g.vertices) p) (has U p) (has A p) (has T p) (has P p) (k.t_in p) (k.a_in p) (tail_v p u a) o)
      where
        go : (V U A T P : Bool) → (T ≡ true → A ≡ true) → (A ≡ true → U ≡ true) → V ≡ true → U ≡ false
            → ((V && not T) && not ((U && not T) && not ((A && P) && not T))) ≡ true
        go V U A T P h1 h2 h3 h4 = grind (arith, h1, h2, h3, h4)

    one_before : (u : ℕ) → has A u ≡ true → has T u ≡ false → has P u ≡ true → has set_one u ≡ true
    one_before u a t q = rw (has-one_ u) (go (has (all g.vertices) u) (has U u) (has A u) (has T u) (has P u) (in_v u (k.a_in u a)) a t q)
      where
        go : (V U A T P : Bool) → V ≡ true → A ≡ true → T ≡ false → P ≡ true → ((V && not T) && not ((U && not T) && not ((A && P) && not T))) ≡ true
        go V U A T P h1 h2 h3 h4 = grind (arith, h1, h2, h3, h4)

    later_out : (u : ℕ) → has later u ≡ true → (has T u ≡ false) × (has set_one u ≡ false)
    later_out u e = (go (has U u) (has T u) (has A u) (has P u) (rw (has-later u) at e), has-minus rest_set later u ∙ rw e (go2 (has rest_set u)))
      where
        go : (U T A P : Bool) → ((U && not T) && not ((A && P) && not T)) ≡ true → T ≡ false
        go U T A P h = grind (arith, h)

        go2 : (b : Bool) → (b && not true) ≡ false
        go2 b = grind arith

    later_in : (u : ℕ) → has later u ≡ true → has rest_set u ≡ true
    later_in u e = has-minus (all g.vertices) T u ∙ go (has (all g.vertices) u) (has U u) (has T u) (has A u) (has P u) (in_v u) (rw (has-later u) at e)
      where
        go : (V U T A P : Bool) → (U ≡ true → V ≡ true) → ((U && not T) && not ((A && P) && not T)) ≡ true → (V && not T) ≡ true
        go V U T A P h1 h2 = grind (arith, h1, h2)

    step_one : (ls : List ℕ) → is_empty later ≡ false → Makes g ls (Plan.Make (Move.WithSet set_move.Rule3Out later)) (prob (one v) rest_set W) (prob (one v) set_one W)
    step_one ls ne = made_if g (is_part later rest_set) (Row.Ask Three (minus rest_set later) (one v) later W (prob (one v) (minus rest_set later) W)) Sets
        (prob (one v) set_one W)
        (part later rest_set ne later_in) (
          asked_of_three g (has set_one) (has (one v)) (has later) (has W) (has later)
              (cut_three g set_one later W (later_not_above g (has P) (has U) (has A) (has T) v k (has set_one) (has later) (has W) (has later) (has (one v))
              (λ u. has set_one u || has W u) one_rest one_before w_is w_in later_out))
              (later_removed g (has P) (has U) (has A) (has T) v k (has set_one) (has later) (has W) (has later) (has (one v)) (λ u. has set_one u || has W u)
              one_rest one_before w_is w_in later_out
              (λ u e. e) (one-is v) (λ u e. e) (λ u e. e)),
          refl,
        )

    two_rest : (p u : ℕ) → g.arrow p u ≡ true → has U p ≡ false → has set_two p ≡ true
    two_rest p u a o = rw two_is (has-minus (all g.vertices) U p ∙ rw (tail_v p u a, o) refl)

    before_all : (u : ℕ) → has A u ≡ true → has T u ≡ false → has P u ≡ true → has before_outside u ≡ true
    before_all u a t q = has-before u ∙ rw (a, t, q) refl

    before_in : (u : ℕ) → has before_outside u ≡ true → (has A u ≡ true) × (has P u ≡ true)
    before_in u e = let h : ((has A u && has P u) && not (has T u)) ≡ true = rw (has-before u) at e in let q : (has A u && has P u) ≡ true =
        and_l (has A u && has P u) (not (has T u)) h in
        (and_l (has A u) (has P u) q, and_r (has A u) (has P u) q)

    before_free : (u : ℕ) → has before_outside u ≡ true → has set_one u ≡ true
    before_free u e = let h : ((has A u && has P u) && not (has T u)) ≡ true = rw (has-before u) at e in
        one_before u (before_in u e).0 (not_e (has T u) (and_r (has A u && has P u) (not (has T u)) h)) (before_in u e).1

    step_two : (ls : List ℕ) → is_empty before_outside ≡ false → Makes g ls (Plan.Make (Move.WithSet set_move.Rule2See before_outside)) (prob (one v) set_one W)
        (prob (one v) set_two (union W before_outside))
    step_two ls ne = made_if g (is_part before_outside set_one) (Row.Ask Two (minus set_one before_outside) (one v) before_outside W
        (prob (one v) (minus set_one before_outside) (union W before_outside))) Sets (prob (one v) set_two (union W before_outside))
        (part before_outside set_one ne before_free) (
          asked_of_two g (has set_two) (has (one v)) (has before_outside) (has W)
              (earlier_exchanged g (has P) (has U) (has A) (has T) v k (has set_two) (has before_outside) (has W) (has (one v))
              (λ u. has set_two u || has W u) two_rest before_all before_in w_is w_in (λ u. refl) (one-is v)),
          refl,
        )

    unneeded_in : (u : ℕ) → has unneeded u ≡ true → (has A u ≡ true) × (has P u ≡ true)
    unneeded_in u e = let h : (has (common A P) u && not (has M u)) ≡ true = rw (has-minus (common A P) M u) at e in
        let q : (has A u && has P u) ≡ true = rw (has-and A P u) at (and_l (has (common A P) u) (not (has M u)) h) in
        (and_l (has A u) (has P u) q, and_r (has A u) (has P u) q)

    given_is : (u : ℕ) → has (union W before_outside) u ≡ (has A u && has P u)
    given_is u = has-or W before_outside u ∙ (ap (λ b. has W u || b) (has-before u)
        ∙ go (has W u) (has A u) (has P u) (has T u) (w_is u) (λ e. (w_in u e).0) (λ e. (w_in u e).1) (k.t_in u))
      where
        go : (W A P T : Bool) → (T ≡ true → P ≡ true → W ≡ true) → (W ≡ true → T ≡ true) → (W ≡ true → P ≡ true) → (T ≡ true → A ≡ true)
            → (W || ((A && P) && not T)) ≡ (A && P)
        go W A P T h1 h2 h3 h4 = grind (arith, h1, h2, h3, h4)

    pillow_is : minus (union W before_outside) unneeded ≡ M
    pillow_is = same_from_has (minus (union W before_outside) unneeded) M
        (λ u. has-minus (union W before_outside) unneeded u ∙ (ap (λ b. b && not (has unneeded u)) (given_is u) ∙
        (ap (λ b. (has A u && has P u) && not b) (has-minus (common A P) M u ∙ ap (λ b. b && not (has M u)) (has-and A P u))
        ∙ go (has A u) (has P u) (has M u) (λ e. (m_in u e).0) (λ e. (m_in u e).1))))
      where
        go : (A P M : Bool) → (M ≡ true → A ≡ true) → (M ≡ true → P ≡ true) → ((A && P) && not ((A && P) && not M)) ≡ M
        go A P M h1 h2 = grind (arith, h1, h2)

    step_three : (ls : List ℕ) → is_empty unneeded ≡ false → Makes g ls (Plan.Make (Move.WithSet set_move.Rule1Out unneeded)) (prob (one v) set_two (union W before_outside))
        (prob (one v) set_two M)
    step_three ls ne = made_if g (is_part unneeded (union W before_outside))
        (Row.Ask One set_two (one v) unneeded (minus (union W before_outside) unneeded) (prob (one v) set_two (minus (union W before_outside) unneeded))) Sets
        (prob (one v) set_two M)
        (part unneeded (union W before_outside) ne (λ u e. given_is u ∙ both_true (has A u) (has P u) (unneeded_in u e).0 (unneeded_in u e).1)) (
          asked_of_one g (has set_two) (has (one v)) (has unneeded) (has (minus (union W before_outside) unneeded))
              (rest_apart g (has P) (has U) (has A) (has T) v k (has set_two) (has M) (has unneeded) (has (one v))
              (λ u. has set_two u || has (minus (union W before_outside) unneeded) u) D
              two_rest d_in d_v d_closed m_in m_d m_parent unneeded_in (λ u. ap (λ z. has set_two u || has z u) pillow_is) (one-is v)),
          ap (λ z. prob (one v) set_two z) (sym pillow_is),
        )

    skip_one : is_empty later ≡ true → prob (one v) set_one W ≡ prob (one v) rest_set W
    skip_one e = ap (λ z. prob (one v) z W) (same_from_has set_one rest_set (λ u. has-minus rest_set later u ∙ rw (empty-has later u e) (go (has rest_set u))))
      where
        go : (b : Bool) → (b && not false) ≡ b
        go b = grind arith

    skip_two : is_empty before_outside ≡ true → prob (one v) set_two (union W before_outside) ≡ prob (one v) set_one W
    skip_two e = ap₂ (λ z w. prob (one v) z w) (same_from_has set_two set_one
        (λ u. has-minus set_one before_outside u ∙ rw (empty-has before_outside u e) (go (has set_one u))))
        (same_from_has (union W before_outside) W (λ u. has-or W before_outside u ∙ rw (empty-has before_outside u e) (go2 (has W u))))
      where
        go : (b : Bool) → (b && not false) ≡ b
        go b = grind arith

        go2 : (b : Bool) → (b || false) ≡ b
        go2 b = grind arith

    skip_three : is_empty unneeded ≡ true → prob (one v) set_two M ≡ prob (one v) set_two (union W before_outside)
    skip_three e = ap (λ z. prob (one v) set_two z) (sym pillow_is ∙ same_from_has (minus (union W before_outside) unneeded) (union W before_outside)
        (λ u. has-minus (union W before_outside) unneeded u ∙ rw (empty-has unneeded u e) (go (has (union W before_outside) u))))
      where
        go : (b : Bool) → (b && not false) ≡ b
        go b = grind arith

    pub place_made : (ls : List ℕ) (rest : Plans) (e : Tree) → MakesAll g ls rest (prob (one v) (minus (all g.vertices) U) M) e
        → MakesAll g ls (place_list P U A T M rest) (prob (one v) (minus (all g.vertices) T) W) e
    place_made ls rest e h =
        made_with g ls later (Plan.Make (Move.WithSet set_move.Rule3Out later)) (with_set before_outside (Plan.Make (Move.WithSet set_move.Rule2See before_outside))
        (with_set unneeded (Plan.Make (Move.WithSet set_move.Rule1Out unneeded)) rest)) (prob (one v) rest_set W) (prob (one v) set_one W) e skip_one (step_one ls)
        (made_with g ls before_outside (Plan.Make (Move.WithSet set_move.Rule2See before_outside)) (with_set unneeded (Plan.Make (Move.WithSet set_move.Rule1Out unneeded)) rest)
        (prob (one v) set_one W) (prob (one v) set_two (union W before_outside)) e skip_two (step_two ls)
        (made_with g ls unneeded (Plan.Make (Move.WithSet set_move.Rule1Out unneeded)) rest (prob (one v) set_two (union W before_outside)) (prob (one v) set_two M)
        e skip_three (step_three ls)
        (rw two_is h)))
