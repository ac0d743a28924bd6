-- The laws of effects under a condition.
use Rattle.std.proofs.Common.{ℕ, ◌≡◌, true, refl, sym, ap, ap₂, subst, ◌∙◌, ◌⊎◌, inl, inr, List, [], ◌∷◌, arith}
use Rattle.conditional_id.proofs.DividingLaw.{divided_accepted, divided_deep, divided_defs, divided_flat, divided_formed, divided_names}
use Rattle.conditional_id.proofs.DividingLaw.{identified_formed, identified_names, join-zero}
use Rattle.conditional_id.proofs.TurningLaw.{given_term, joint_target, left_in, none_moves, pair_of, targeted, turned_deep, turned_made, turned_one}
use Rattle.conditional_id.proofs.TurningLaw.{turned_sets, turned_target}
use Rattle.conditional_id.specs.Conditionals.{AreEqualEffects, AreTurned, IsConditional, IsConditionalBySteps, IsConditionalTarget, IsDivided}
use Rattle.conditional_id.specs.Conditionals.{IsDividedBySteps, IsTurned, divided, divided_derivation, divided_steps, turned_steps}
use Rattle.conditional_id.specs.TurnLaws.{ConditionalIsDerived, ConditionalIsRight, ConditionalIsShallow, DerivedIsConditional, DividedIsAccepted}
use Rattle.conditional_id.specs.TurnLaws.{IsRightGiven, IsShallowGiven, JointExcludesFormula, JointHasHedge, OneConditional, OneConditionalDerivation}
use Rattle.conditional_id.specs.TurnLaws.{OneTurned, TurnedIsSame, TurnedIsTarget}
use Rattle.do_derivation.proofs.Accepted.{accepted_is_effect, step_keeps_value}
use Rattle.do_derivation.specs.Accepts.{Accepts}
use Rattle.do_derivation.specs.Vocabulary.{sets_of, PlainDerivation, no_plans, Makes, MakesAll}
use Rattle.do_derivation.specs.Plans.{Plan}
use Rattle.fractions.specs.Vocabulary.{over}
use Rattle.identification_theory.proofs.Bools.{clash, or_e, or_l, or_r}
use Rattle.identification_theory.proofs.Formulas.{formula_is_accepted}
use Rattle.identification_theory.proofs.Nesting.{step_more}
use Rattle.identification_theory.specs.Vocabulary.{IsDerived, IsAcceptedFor, IsIdentified, IsTarget, IsUnidentified, are_defs_within, is_tree_within, FormulaNamesOnly}
use Rattle.identification_theory.proofs.Answered.{derivation_is_accepted, derived_is_identified, formula_is_shallow, never_both, one_derivation}
use Rattle.identification_theory.proofs.Answered.{one_formula, stop_is_hedge}
use Rattle.identification_theory.proofs.Depth.{flat_more}
use Rattle.identification_theory.proofs.Faults.{no_fault}
use Rattle.identification_theory.proofs.Formed.{IsFormedFormula}
use Rattle.mixed_graph.proofs.Masks.{has-or, has-zero}
use Rattle.mixed_graph.specs.Vocabulary.{has, IsAncestor, IsMixedGraph, MixedGraph, union}
use Rattle.prob_expr.specs.Tree.{prob}
use Rattle.prob_expr.specs.Vocabulary.{PlainFormula, PlainTarget}

-- ---- the formula and its derivation
divided_from : (g : MixedGraph) (t : PlainTarget) (f : PlainFormula) (d : PlainDerivation) → IsDividedBySteps g t f d → IsDivided g t f
divided_from g t f d i = record {
  doing = i.doing;
  left = i.left;
  moved = i.moved;
  turned = i.turned;
  joint = i.joint;
  identified = derived_is_identified g i.doing (union t.y i.left) i.joint i.steps i.derived;
  is = i.formula;
}

-- a formula that comes with a derivation under the condition is the formula that is stated for it
pub derived_is_conditional : DerivedIsConditional
derived_is_conditional g t f d (inl c) = inl (c.0, derived_is_identified g t.x t.y f d c.1)
derived_is_conditional g t f d (inr (inl c)) = inr (inl (c.0, c.1, c.2))
derived_is_conditional g t f d (inr (inr c)) = inr (inr (c.0, c.1, divided_from g t f d c.2))

module _ (g : MixedGraph) (ok : IsMixedGraph g) (t : PlainTarget) (k : IsConditionalTarget g t) where
  -- the joint effect of the turned sets, as a target of identification
  joint_pair : (x' z' : ℕ) (vs : List ℕ) → AreTurned g t.y t.x t.given x' z' vs → IsTarget g x' (union t.y z')
  joint_pair x' z' vs turned = pair_of g (targeted x' (union t.y z') 0) (joint_target g x' t.y z' (turned_target g t.y t.x t.given x' z' vs turned k))

  derivation_of : (f : PlainFormula) → IsDivided g t f → (d : PlainDerivation) × IsDividedBySteps g t f d
  derivation_of f i = let r = formula_is_accepted g ok i.doing (union t.y i.left) (joint_pair i.doing i.left i.moved i.turned) i.joint i.identified in (
    divided_derivation i.moved t.y i.left r.0,
    record {
      doing = i.doing;
      left = i.left;
      moved = i.moved;
      turned = i.turned;
      joint = i.joint;
      steps = r.0;
      derived = r.1;
      formula = i.is;
      derivation = refl;
    },
  )

  has_derivation : (f : PlainFormula) → IsConditional g t f → (d : PlainDerivation) × IsConditionalBySteps g t f d
  has_derivation f (inl c) = let r = formula_is_accepted g ok t.x t.y (pair_of g t k) f c.1 in (r.0, inl (c.0, r.1))
  has_derivation f (inr (inl c)) = (record { lemmas = []; main = Plan.Then no_plans }, inr (inl (c.0, c.1, c.2, refl)))
  has_derivation f (inr (inr c)) = let r = derivation_of f c.2 in (r.0, inr (inr (c.0, c.1, r.1)))

  -- ---- it is right
  abbrev IsAbove : ℕ → Type 0
  IsAbove = IsAncestor g (has (union t.y t.given))

  above : (p u : ℕ) → g.arrow p u ≡ true → IsAbove u → IsAbove p
  above p u a i = record { vertex = ok.tail_below p u a; path = u ∷ i.path; end = i.end; leads = (a, i.leads); inside = i.inside }

  y_above : (u : ℕ) → has t.y u ≡ true → IsAbove u
  y_above u e = record { vertex = k.sets.y_within u e; path = []; end = u; leads = refl; inside = has-or t.y t.given u ∙ or_l (has t.y u) (has t.given u) e }

  given_above : (u : ℕ) → has t.given u ≡ true → IsAbove u
  given_above u e = record {
    vertex = k.sets.w_within u e;
    path = [];
    end = u;
    leads = refl;
    inside = has-or t.y t.given u ∙ or_r (has t.y u) (has t.given u) e;
  }

  right_from : (f : PlainFormula) (d : PlainDerivation) → Accepts g [] t f d → IsFormedFormula g.vertices f → FormulaNamesOnly IsAbove f → IsRightGiven g t f d
  right_from f d a formed names = record {
    formed = no_fault g.vertices f formed;
    do_free = a.listed;
    names = names;
    accepted = a;
    effect = (accepted_is_effect g ok [] t f d (given_term g t k) a).1;
  }

  by_identification : (f : PlainFormula) (d : PlainDerivation) → t.given ≡ 0 → IsDerived g t.x t.y f d → IsRightGiven g t f d
  by_identification f d e i = right_from f d accepted (identified_formed g ok t.x t.y (subst (λ z. IsConditionalTarget g (targeted t.x t.y z)) e k) f is)
      (identified_names g ok t.x t.y (pair_of g t k) IsAbove y_above above f is)
    where
      is : IsIdentified g t.x t.y f
      is = derived_is_identified g t.x t.y f d i

      h : IsAcceptedFor g t.x t.y f d
      h = derivation_is_accepted g ok t.x t.y (pair_of g t k) f d i

      accepted : Accepts g [] t f d
      accepted = record {
        sets = h.accepted.sets;
        define = h.accepted.define;
        main = subst (λ z. Makes g (sets_of d.lemmas) d.main (prob t.y t.x z) f.main) (sym e) h.accepted.main;
        listed = h.accepted.listed;
      }

  by_observation : (f : PlainFormula) (d : PlainDerivation) → t.x ≡ 0 → f ≡ record { defs = []; main = prob t.y 0 t.given } → d
      ≡ record { lemmas = []; main = Plan.Then no_plans } → IsRightGiven g t f d
  by_observation f d e is steps = subst (λ h. IsRightGiven g t h d) (sym is)
      (subst (λ h. IsRightGiven g t (record { defs = []; main = prob t.y 0 t.given }) h) (sym steps)
      (right_from (record { defs = []; main = prob t.y 0 t.given }) (record { lemmas = []; main = Plan.Then no_plans })
      (record { sets = refl; define = tt; main = ap (λ z. prob t.y z t.given) (sym e); listed = refl })
      (tt, given_term g (targeted 0 t.y t.given) (subst (λ a. IsConditionalTarget g (targeted a t.y t.given)) e k))
      (tt, (y_above, (λ u i. absurd (clash (has 0 u) i (has-zero u))), given_above))))

  by_division : (f : PlainFormula) (d : PlainDerivation) → IsDividedBySteps g t f d → IsRightGiven g t f d
  by_division f d i = subst (λ h. IsRightGiven g t h d) (sym i.formula) (subst (λ h. IsRightGiven g t (divided t.y i.left i.joint) h) (sym i.derivation)
      (right_from (divided t.y i.left i.joint) (divided_derivation i.moved t.y i.left i.steps)
      (divided_accepted g t k i.doing i.left i.moved i.turned i.joint i.steps
      (derivation_is_accepted g ok i.doing (union t.y i.left) tgt i.joint i.steps i.derived).accepted)
      (divided_formed g i.doing t.y i.left left i.joint (identified_formed g ok i.doing (union t.y i.left) (joint_target g i.doing t.y i.left left) i.joint is))
      (divided_names g i.doing t.y i.left left IsAbove i.joint y_above
      (identified_names g ok i.doing (union t.y i.left) tgt IsAbove both_above above i.joint is))))
    where
      left : IsConditionalTarget g (targeted i.doing t.y i.left)
      left = turned_target g t.y t.x t.given i.doing i.left i.moved i.turned k

      tgt : IsTarget g i.doing (union t.y i.left)
      tgt = joint_pair i.doing i.left i.moved i.turned

      is : IsIdentified g i.doing (union t.y i.left) i.joint
      is = derived_is_identified g i.doing (union t.y i.left) i.joint i.steps i.derived

      pick : (u : ℕ) → (has t.y u ≡ true) ⊎ (has i.left u ≡ true) → IsAbove u
      pick u (inl e) = y_above u e
      pick u (inr e) = given_above u (left_in g t.y t.x t.given i.doing i.left i.moved i.turned u e)

      both_above : (u : ℕ) → has (union t.y i.left) u ≡ true → IsAbove u
      both_above u e = pick u (or_e (has t.y u) (has i.left u) (rw (has-or t.y i.left u) at e))

  right : (f : PlainFormula) (d : PlainDerivation) → IsConditionalBySteps g t f d → IsRightGiven g t f d
  right f d (inl c) = by_identification f d c.0 c.1
  right f d (inr (inl c)) = by_observation f d c.1 c.2 c.3
  right f d (inr (inr c)) = by_division f d c.2

  -- ---- it nests little
  shallow : (f : PlainFormula) (d : PlainDerivation) → IsConditionalBySteps g t f d → IsShallowGiven f d
  shallow f d (inl c) = record {
    main_steps = step_more 17 d.main (step_more 16 d.main (step_more 15 d.main (step_more 14 d.main h.main_deep)));
    lemma_steps = h.lemmas_deep;
    main = flat_more 8 f.main (flat_more 7 f.main flat.1);
    defs = flat.0;
  }
    where
      h : IsAcceptedFor g t.x t.y f d
      h = derivation_is_accepted g ok t.x t.y (pair_of g t k) f d c.1

      flat : (are_defs_within 5 f.defs ≡ true) × (is_tree_within 7 f.main ≡ true)
      flat = formula_is_shallow g t.x t.y f (derived_is_identified g t.x t.y f d c.1)
  shallow f d (inr (inl c)) = subst (λ h. IsShallowGiven h d) (sym c.2)
      (subst (λ h. IsShallowGiven (record { defs = []; main = prob t.y 0 t.given }) h) (sym c.3)
      (record { main_steps = refl; lemma_steps = refl; main = refl; defs = refl }))
  shallow f d (inr (inr c)) = subst (λ h. IsShallowGiven h d) (sym i.formula)
      (subst (λ h. IsShallowGiven (divided t.y i.left i.joint) h) (sym i.derivation) (record {
        main_steps = turned_deep g t.y 16 i.moved (divided_steps t.y i.left i.steps.main) (divided_deep t.y i.left i.steps.main h.main_deep);
        lemma_steps = h.lemmas_deep;
        main = divided_flat t.y i.left i.joint flat.1;
        defs = subst (λ ds. are_defs_within 5 ds ≡ true) (sym (divided_defs t.y i.left i.joint)) flat.0;
      }))
    where
      i : IsDividedBySteps g t f d
      i = c.2

      h : IsAcceptedFor g i.doing (union t.y i.left) i.joint i.steps
      h = derivation_is_accepted g ok i.doing (union t.y i.left) (joint_pair i.doing i.left i.moved i.turned) i.joint i.steps i.derived

      flat : (are_defs_within 5 i.joint.defs ≡ true) × (is_tree_within 7 i.joint.main ≡ true)
      flat = formula_is_shallow g i.doing (union t.y i.left) i.joint (derived_is_identified g i.doing (union t.y i.left) i.joint i.steps i.derived)

  -- ---- the joint effect
  turned_pair : (x' z' : ℕ) (vs : List ℕ) → IsTurned g t x' z' vs → IsTarget g x' (union t.y z')
  turned_pair x' z' vs c = pair_of g (targeted x' (union t.y z') 0) (joint_target g x' t.y z' (turned_sets g t k x' z' vs c))

  moved_effect : (x' z' : ℕ) (vs : List ℕ) → MakesAll g [] (turned_steps vs no_plans) (prob t.y t.x t.given) (prob t.y x' z')
      → AreEqualEffects g t (targeted x' t.y z')
  moved_effect x' z' vs made m fit positive s w = step_keeps_value g ok [] (Plan.Then (turned_steps vs no_plans)) (prob t.y t.x t.given) (prob t.y x' z')
      (given_term g t k) made m fit positive (λ j r. over 1 1)
      (record { cited = λ j r l v. absurd (omega (arith, l)); positive = λ j r v. record { top = omega arith; bottom = omega arith } }) s w

  same_effect : (x' z' : ℕ) (vs : List ℕ) → IsTurned g t x' z' vs → AreEqualEffects g t (targeted x' t.y z')
  same_effect x' z' vs (inl c) = moved_effect x' z' [] (ap₂ (λ a b. prob t.y a b) c.1 c.2)
  same_effect x' z' vs (inr c) = moved_effect x' z' vs (turned_made g t.y [] t.x t.given x' z' vs no_plans (prob t.y x' z') c.1 refl)

  excluded : (x' z' : ℕ) (vs : List ℕ) → IsTurned g t x' z' vs → (small big : ℕ) → IsUnidentified g x' (union t.y z') small big → (f : PlainFormula)
      → IsConditional g t f → ⊥
  excluded x' z' vs (inl c) small big j f i = never_both g ok x' (union t.y z') small big (turned_pair x' z' vs (inl c))
      (record { defs = []; main = prob (union t.y z') 0 0 })
      (record { order = j.order; is_order = j.is_order; answer = inl (c.1 ∙ c.0, refl) }) j
  excluded x' z' vs (inr c) small big j f (inl i) = never_both g ok x' (union t.y z') small big (turned_pair x' z' vs (inr c)) f
      (subst (λ a. IsIdentified g a (union t.y z') f) (sym none.0) (subst (λ a. IsIdentified g t.x a f) (sym (ap (union t.y) none.1 ∙ join-zero t.y)) i.1)) j
    where
      none : (x' ≡ t.x) × (z' ≡ 0) × (vs ≡ [])
      none = none_moves g t.y t.x t.given x' z' vs c.1 i.0
  excluded x' z' vs (inr c) small big j f (inr (inl i)) = c.0 i.1
  excluded x' z' vs (inr c) small big j f (inr (inr i)) =
      let d : IsDivided g t f = i.2 in
      let e = turned_one g t.y t.x t.given d.doing d.left x' z' d.moved vs d.turned c.1 in
      never_both g ok x' (union t.y z') small big (turned_pair x' z' vs (inr c)) d.joint
      (subst (λ a. IsIdentified g a (union t.y z') d.joint) e.0 (subst (λ a. IsIdentified g d.doing (union t.y a) d.joint) e.1 d.identified)) j

pub conditional_is_derived : ConditionalIsDerived
conditional_is_derived g ok t k f i = has_derivation g ok t k f i

-- the formula under a condition has no fault and no intervention, is derived, and equals the effect
pub conditional_is_right : ConditionalIsRight
conditional_is_right g ok t k f d i = right g ok t k f d i

-- the formula under a condition and its derivation nest little, for any number of vertices
pub conditional_is_shallow : ConditionalIsShallow
conditional_is_shallow g ok t k f d i = shallow g ok t k f d i

pub divided_is_accepted : DividedIsAccepted
divided_is_accepted g t k x' z' vs turned joint d a = divided_accepted g t k x' z' vs turned joint d a

-- the effect given observations is that of the turned sets, in each positive model that fits the graph
pub turned_is_same : TurnedIsSame
turned_is_same g ok t k x' z' vs c = same_effect g ok t k x' z' vs c

-- the turned sets, with the observations that are left joined to y, are a target without a condition
pub turned_is_target : TurnedIsTarget
turned_is_target g t k x' z' vs c = joint_target g x' t.y z' (turned_sets g t k x' z' vs c)

pub joint_has_hedge : JointHasHedge
joint_has_hedge g ok t k x' z' vs c small big roots u r = stop_is_hedge g ok x' (union t.y z') small big roots (turned_pair g ok t k x' z' vs c) u r

-- where identification of the joint effect stops, the effect under the condition has no formula
pub joint_excludes_formula : JointExcludesFormula
joint_excludes_formula g ok t k x' z' vs c small big u f i = excluded g ok t k x' z' vs c small big u f i

-- ---- what is fixed
pub one_turned : OneTurned
one_turned g t x' z' a b vs ws (inl c) (inl d) = (c.1 ∙ sym d.1, c.2 ∙ sym d.2, c.3 ∙ sym d.3)
one_turned g t x' z' a b vs ws (inl c) (inr d) = absurd (d.0 c.0)
one_turned g t x' z' a b vs ws (inr c) (inl d) = absurd (c.0 d.0)
one_turned g t x' z' a b vs ws (inr c) (inr d) = turned_one g t.y t.x t.given x' z' a b vs ws c.1 d.1

pub one_conditional : OneConditional
one_conditional g t f h (inl c) (inl d) = one_formula g t.x t.y f h c.1 d.1
one_conditional g t f h (inl c) (inr (inl d)) = absurd (d.0 c.0)
one_conditional g t f h (inl c) (inr (inr d)) = absurd (d.0 c.0)
one_conditional g t f h (inr (inl c)) (inl d) = absurd (c.0 d.0)
one_conditional g t f h (inr (inl c)) (inr (inl d)) = c.2 ∙ sym d.2
one_conditional g t f h (inr (inl c)) (inr (inr d)) = absurd (d.1 c.1)
one_conditional g t f h (inr (inr c)) (inl d) = absurd (c.0 d.0)
one_conditional g t f h (inr (inr c)) (inr (inl d)) = absurd (c.1 d.1)
one_conditional g t f h (inr (inr c)) (inr (inr d)) =
    let a : IsDivided g t f = c.2 in
    let b : IsDivided g t h = d.2 in
    let e = turned_one g t.y t.x t.given a.doing a.left b.doing b.left a.moved b.moved a.turned b.turned in
    let j : a.joint ≡ b.joint = one_formula g b.doing (union t.y b.left) a.joint b.joint
    (subst (λ p. IsIdentified g p (union t.y b.left) a.joint) e.0 (subst (λ p. IsIdentified g a.doing (union t.y p) a.joint) e.1 a.identified)) b.identified in
    a.is ∙ (ap₂ (λ p q. divided t.y p q) e.1 j ∙ sym b.is)

pub one_conditional_derivation : OneConditionalDerivation
one_conditional_derivation g t f h d e (inl p) (inl q) = one_derivation g t.x t.y f h d e p.1 q.1
one_conditional_derivation g t f h d e (inl p) (inr (inl q)) = absurd (q.0 p.0)
one_conditional_derivation g t f h d e (inl p) (inr (inr q)) = absurd (q.0 p.0)
one_conditional_derivation g t f h d e (inr (inl p)) (inl q) = absurd (p.0 q.0)
one_conditional_derivation g t f h d e (inr (inl p)) (inr (inl q)) = p.3 ∙ sym q.3
one_conditional_derivation g t f h d e (inr (inl p)) (inr (inr q)) = absurd (q.1 p.1)
one_conditional_derivation g t f h d e (inr (inr p)) (inl q) = absurd (p.0 q.0)
one_conditional_derivation g t f h d e (inr (inr p)) (inr (inl q)) = absurd (p.1 q.1)
one_conditional_derivation g t f h d e (inr (inr p)) (inr (inr q)) =
    let a : IsDividedBySteps g t f d = p.2 in
    let b : IsDividedBySteps g t h e = q.2 in
    let s = turned_one g t.y t.x t.given a.doing a.left b.doing b.left a.moved b.moved a.turned b.turned in
    let j : a.steps ≡ b.steps = one_derivation g b.doing (union t.y b.left) a.joint b.joint a.steps b.steps
    (subst (λ u. IsDerived g u (union t.y b.left) a.joint a.steps) s.0 (subst (λ u. IsDerived g a.doing (union t.y u) a.joint a.steps) s.1 a.derived))
    b.derived in
    a.derivation ∙ (ap (λ u. divided_derivation u t.y a.left a.steps) s.2 ∙ (ap₂ (λ u w. divided_derivation b.moved t.y u w) s.1 j ∙ sym b.derivation))
