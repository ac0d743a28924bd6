-- The formula of the joint effect, divided by its sum over y.
use Rattle.std.proofs.Common.{ℕ, zero, suc, ◌≡◌, Bool, true, false, cond, not, refl, sym, subst, ◌∙◌, ◌||◌, ◌&&◌, inl, inr, List, [], arith, eqb-true}
use Rattle.conditional_id.proofs.TurningLaw.{targeted, given_term, pair_of, turned_made, turned_target}
use Rattle.conditional_id.specs.Conditionals.{AreTurned, IsConditionalTarget, divided, divided_derivation, divided_steps, steps_of, summed_steps}
use Rattle.do_derivation.specs.Accepts.{Accepts}
use Rattle.do_derivation.specs.declared.faults.StepFault.TheVariants.{Sets}
use Rattle.do_derivation.specs.Vocabulary.{Define, sets_of, PlainDerivation, Makes, MakesAll}
use Rattle.do_derivation.specs.Plans.{Move, Plan, Plans, plan}
use Rattle.do_derivation.specs.Table.{Row}
use Rattle.do_derivation.specs.declared.moves.BareMove.TheVariants as bare_move
use Rattle.identification_theory.proofs.Bodies.{widen_made}
use Rattle.identification_theory.proofs.Bools.{and_l, and_r, both_true, clash, not_i}
use Rattle.identification_theory.proofs.Nesting.{step_more, steps_more}
use Rattle.identification_theory.proofs.Orders.{order_of}
use Rattle.identification_theory.proofs.Places.{made_if}
use Rattle.identification_theory.proofs.Sets.{below, not_empty}
use Rattle.identification_theory.specs.Vocabulary.{are_plans_within, is_plan_within, single, IsIdentified, IsIdentifiedBy, IsTarget, is_tree_within, AreAll, FormulaNamesOnly}
use Rattle.identification_theory.proofs.Depth.{flat_more}
use Rattle.identification_theory.proofs.Formed.{IsFormedFormula, composed_formed}
use Rattle.identification_theory.proofs.Names.{composed_names}
use Rattle.mixed_graph.proofs.Masks.{has-or, has-zero, same_from_has}
use Rattle.mixed_graph.specs.Vocabulary.{has, IsMixedGraph, MixedGraph, is_empty, union}
use Rattle.prob_expr.specs.Vocabulary.{all_under, is_do_free, is_under, PlainFormula, PlainTarget}
use Rattle.prob_expr.specs.Tree.{Tree, prob, quotient, sum}

-- a set joined with the empty set is that set
pub join-zero : (a : ℕ) → union a 0 ≡ a
join-zero a = same_from_has (union a 0) a (λ u. has-or a 0 u ∙ rw (has-zero u) (bools (has a u)))
  where
    bools : (p : Bool) → (p || false) ≡ p
    bools p = grind arith

join-turn : (a b : ℕ) → union a b ≡ union b a
join-turn a b = same_from_has (union a b) (union b a) (λ u. has-or a b u ∙ (bools (has a u) (has b u) ∙ sym (has-or b a u)))
  where
    bools : (p q : Bool) → (p || q) ≡ (q || p)
    bools p q = grind arith

-- ---- the steps
steps_made : (g : MixedGraph) (ls : List ℕ) (p : Plan) (e e' : Tree) → Makes g ls p e e' → MakesAll g ls (steps_of p) e e'
steps_made g ls (Plan.Then ps) e e' h = h
steps_made g ls (Plan.At i p) e e' h = (e', h, refl)
steps_made g ls (Plan.Make m) e e' h = (e', h, refl)

steps_deep : (d : ℕ) (p : Plan) → is_plan_within d p ≡ true → are_plans_within d (steps_of p) ≡ true
steps_deep d p h = go d p h
  where
    go : (d : ℕ) (p : Plan) → is_plan_within d p ≡ true → are_plans_within d (steps_of p) ≡ true
    go zero p h = absurd (grind (arith, h))
    go (suc d) (Plan.Then ps) h = steps_more d ps h
    go (suc d) (Plan.At i p) h = both_true (is_plan_within d p) true h refl
    go (suc d) (Plan.Make m) h = refl

-- both parts of the quotient
abbrev parts_of : (y : ℕ) → Plan → Plans
parts_of y p = plan (Plan.Make (Move.Bare bare_move.Split)) (plan (Plan.At 0 p) (single (Plan.At 1 (Plan.Then (summed_steps y p)))))

abbrev quotient_of : (y : ℕ) → PlainFormula → PlainFormula
quotient_of y f = record { defs = f.defs; main = quotient f.main (sum y f.main) }

module _ (g : MixedGraph) (x y z : ℕ) (k : IsConditionalTarget g (targeted x y z)) where
  y_full : is_empty y ≡ false
  y_full = not_empty y k.some.0 k.some.1

  divided_made : (ls : List ℕ) (p : Plan) (f : PlainFormula) → Makes g ls p (prob (union y z) x 0) f.main
      → MakesAll g ls (divided_steps y z p) (prob y x z) (divided y z f).main
  divided_made ls p f h = go (is_empty z) refl
    where
      go : (b : Bool) → is_empty z ≡ b → MakesAll g ls (cond b (steps_of p) (parts_of y p)) (prob y x z) (cond b f (quotient_of y f)).main
      go true e =
          let same : z ≡ 0 = eqb-true z 0 e in
          steps_made g ls p (prob y x z) f.main (subst (λ c. Makes g ls p (prob y x c) f.main) (sym same)
          (subst (λ c. Makes g ls p (prob c x 0) f.main) (join-zero y) (subst (λ c. Makes g ls p (prob (union y c) x 0) f.main) same h)))
      go false e = (
        quotient (prob (union y z) x 0) (prob z x 0),
        made_if g (not (is_empty z)) (Row.Make (quotient (prob (union y z) x 0) (prob z x 0))) Sets (quotient (prob (union y z) x 0) (prob z x 0))
            (not_i (is_empty z) e) refl,
        (
          quotient f.main (prob z x 0),
          (f.main, h, refl),
          (
            quotient f.main (sum y f.main),
            (
              sum y f.main,
              (
                sum y (prob (union z y) x 0),
                widen_made g ls y z x y_full k.sets.y_within (λ v i j. clash (has z v) j (k.sets.y_w v i)) (λ v i j. clash (has y v) i (k.sets.x_y v j)),
                (sum y f.main, (f.main, subst (λ c. Makes g ls p (prob c x 0) f.main) (join-turn y z) h, refl), refl),
              ),
              refl,
            ),
            refl,
          ),
        ),
      )

  divided_free : (f : PlainFormula) → is_do_free f ≡ true → is_do_free (divided y z f) ≡ true
  divided_free f h = go (is_empty z)
    where
      d : all_under [] f.defs ≡ true
      d = and_l (all_under [] f.defs) (is_under [] f.main) h

      m : is_under [] f.main ≡ true
      m = and_r (all_under [] f.defs) (is_under [] f.main) h

      go : (b : Bool) → is_do_free (cond b f (quotient_of y f)) ≡ true
      go true = h
      go false = both_true (all_under [] f.defs) (is_under [] f.main && is_under [] f.main) d (both_true (is_under [] f.main) (is_under [] f.main) m m)

  pub divided_formed : (f : PlainFormula) → IsFormedFormula g.vertices f → IsFormedFormula g.vertices (divided y z f)
  divided_formed f h = go (is_empty z)
    where
      go : (b : Bool) → IsFormedFormula g.vertices (cond b f (quotient_of y f))
      go true = h
      go false = (h.0, (h.1, (below g.vertices y k.sets.y_within, y_full, h.1)))

  pub divided_names : (P : ℕ → Type 0) (f : PlainFormula) → AreAll P y → FormulaNamesOnly P f → FormulaNamesOnly P (divided y z f)
  divided_names P f y_in h = go (is_empty z)
    where
      go : (b : Bool) → FormulaNamesOnly P (cond b f (quotient_of y f))
      go true = h
      go false = (h.0, (h.1, (y_in, h.1)))

-- ---- what nests
pub divided_deep : (y z : ℕ) (p : Plan) → is_plan_within 14 p ≡ true → are_plans_within 17 (divided_steps y z p) ≡ true
divided_deep y z p h = go (is_empty z)
  where
    deep_15 : is_plan_within 15 p ≡ true
    deep_15 = step_more 14 p h

    deep_16 : is_plan_within 16 p ≡ true
    deep_16 = step_more 15 p deep_15

    go : (b : Bool) → are_plans_within 17 (cond b (steps_of p) (parts_of y p)) ≡ true
    go true = steps_deep 17 p (step_more 16 p deep_16)
    go false = both_true (is_plan_within 16 p) ((is_plan_within 14 p && true) && true) deep_16
        (both_true (is_plan_within 14 p && true) true (both_true (is_plan_within 14 p) true h refl) refl)

pub divided_flat : (y z : ℕ) (f : PlainFormula) → is_tree_within 7 f.main ≡ true → is_tree_within 9 (divided y z f).main ≡ true
divided_flat y z f h = go (is_empty z)
  where
    eight : is_tree_within 8 f.main ≡ true
    eight = flat_more 7 f.main h

    go : (b : Bool) → is_tree_within 9 (cond b f (quotient_of y f)).main ≡ true
    go true = flat_more 8 f.main eight
    go false = both_true (is_tree_within 8 f.main) (is_tree_within 7 f.main) eight h

-- the divided formula has the definitions of the joint one
pub divided_defs : (y z : ℕ) (f : PlainFormula) → (divided y z f).defs ≡ f.defs
divided_defs y z f = go (is_empty z)
  where
    go : (b : Bool) → (cond b f (quotient_of y f)).defs ≡ f.defs
    go true = refl
    go false = refl

-- ---- from an accepted derivation of the joint formula
pub divided_accepted : (g : MixedGraph) (t : PlainTarget) → IsConditionalTarget g t → (x' z' : ℕ) (vs : List ℕ) → AreTurned g t.y t.x t.given x' z' vs
    → (joint : PlainFormula) (d : PlainDerivation)
    → Accepts g [] (targeted x' (union t.y z') 0) joint d → Accepts g [] t (divided t.y z' joint) (divided_derivation vs t.y z' d)
divided_accepted g t k x' z' vs turned joint d a = record {
  sets = a.sets;
  define = subst (Define g [] d.lemmas) (sym (divided_defs t.y z' joint)) a.define;
  main = turned_made g t.y (sets_of d.lemmas) t.x t.given x' z' vs (divided_steps t.y z' d.main) (divided t.y z' joint).main turned
      (divided_made g x' t.y z' left (sets_of d.lemmas) d.main joint a.main);
  listed = divided_free g x' t.y z' left joint a.listed;
}
  where
    left : IsConditionalTarget g (targeted x' t.y z')
    left = turned_target g t.y t.x t.given x' z' vs turned k

-- ---- the joint formula itself
pub identified_formed : (g : MixedGraph) → IsMixedGraph g → (x y : ℕ) → IsConditionalTarget g (targeted x y 0) → (f : PlainFormula) → IsIdentified g x y f
    → IsFormedFormula g.vertices f
identified_formed g ok x y k f i = go i.answer
  where
    go : IsIdentifiedBy g i.order x y f → IsFormedFormula g.vertices f
    go (inr c) = composed_formed g ok i.order (order_of g i.order i.is_order) x y (pair_of g (targeted x y 0) k) f c.1
    go (inl c) = subst (IsFormedFormula g.vertices) (sym c.1) (tt, given_term g (targeted 0 y 0) (subst (λ a. IsConditionalTarget g (targeted a y 0)) c.0 k))

-- it names only members of a set that holds y and its members' parents
pub identified_names : (g : MixedGraph) → IsMixedGraph g → (x y : ℕ) → IsTarget g x y → (P : ℕ → Type 0) → AreAll P y
    → ((p u : ℕ) → g.arrow p u ≡ true → P u → P p) → (f : PlainFormula) → IsIdentified g x y f → FormulaNamesOnly P f
identified_names g ok x y tgt P y_in closed f i = go i.answer
  where
    go : IsIdentifiedBy g i.order x y f → FormulaNamesOnly P f
    go (inr c) = composed_names g ok i.order (order_of g i.order i.is_order) x y P tgt y_in closed f c.1
    go (inl c) = subst (FormulaNamesOnly P) (sym c.1) (
      tt,
      (
        y_in,
        (λ u e. absurd (clash (has 0 u) e (has-zero u))),
        (λ u e. absurd (clash (has 0 u) e (has-zero u))),
      ),
    )
