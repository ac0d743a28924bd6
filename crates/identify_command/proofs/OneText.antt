-- One thing is told of the formula of an effect, but for a short one, and so it is of a hedge.
use Rattle.std.proofs.Common.{◌≡◌, ◌≤◌, ℕ, Bool, true, false, List, Ok, refl, sym, ap, ap₂, ◌∙◌, subst, arith}
use Rattle.mixed_graph.specs.Vocabulary.{MixedGraph, IsMixedGraph, union}
use Rattle.finite_models.proofs.Bools.{same_truth}
use Rattle.prob_expr.specs.Vocabulary.{PlainFormula, PlainTarget, effect_on, target_view, formula_view}
use Rattle.do_derivation.specs.Vocabulary.{PlainDerivation}
use Rattle.identification_theory.specs.Vocabulary.{IsDerived}
use Rattle.identification_theory.proofs.Answered.{one_formula, one_derivation, derived_is_identified}
use Rattle.conditional_id.specs.Vocabulary.{IsConditionalBySteps, IsJointEffect, IsSettled}
use Rattle.short_formulas.specs.Vocabulary.{IsOrShorter}
use Rattle.conditional_id.proofs.Answered.{one_conditional, one_conditional_derivation, derived_is_conditional, one_turned}
use Rattle.targets.specs.declared.query.EffectSets.{EffectSets}
use Rattle.targets.specs.Vocabulary.{EffectLists, AreEffectSets, Lists}
use Rattle.answer_json.specs.Vocabulary.{object_of, json_line}
use Rattle.replies.proofs.OneTarget.{one_set}
use Rattle.replies.specs.declared.outcome.Outcome.TheVariants.{Yes}
use Rattle.replies.specs.Vocabulary.{code_of, answer_of, text_in}
use Rattle.told.specs.declared.form.Writing.{Writing}
use Rattle.told.specs.Vocabulary.{is_certified, target_refusal, told_in}
use Rattle.effect_answers.specs.declared.formulas.EffectFormula.{EffectFormula}
use Rattle.effect_answers.specs.declared.hedges.EffectHedge.{EffectHedge}
use Rattle.effect_answers.specs.Vocabulary.{joint_text, joint_object, IsKept}
use Rattle.effect_answers.proofs.OneNo.{one_hedge_text, one_joint_text, one_hedge_object, one_joint_object}
use Rattle.effect_answers.proofs.Telling.{one_certificate, one_formula_text, one_formula_object}
use Rattle.identify_command.specs.declared.form.Form.{Form}
use Rattle.identify_command.specs.declared.answer.Answer.{Answer}
use Rattle.identify_command.specs.declared.answer.Answer.TheVariants.{Formula, Hedge, Joint}
use Rattle.identify_command.specs.Forms.{told_form}
use Rattle.identify_command.specs.Right.{IsJointHedge, Asked, an_effect, a_target, IsForEffect, IsForTarget, IsAnswerFor, IsEffectFormula, IsTargetFormula}
use Rattle.identify_command.specs.Telling.{identify_telling, identify_text, identify_object}
use Rattle.identify_command.proofs.Lists.{one_target}

-- where no short formula is asked for, the formula is that of the procedure
of_procedure : (short : Bool) → short ≡ false → (P : PlainFormula → PlainDerivation → Type 0) (f : PlainFormula) (d : PlainDerivation) → IsOrShorter short P f d
    → P f d
of_procedure short plain P f d h = subst (λ (s : Bool). IsOrShorter s P f d) plain h

-- the lists name two sets of an effect
pub one_sets : (l : EffectLists) (s t : EffectSets) → AreEffectSets l s.x.bits s.y.bits → AreEffectSets l t.x.bits t.y.bits → t ≡ s
one_sets l s t a b = λ i. record {
  x = record { bits = one_set l.observed l.x s.x.bits t.x.bits a.set_x b.set_x i };
  y = record { bits = one_set l.observed l.y s.y.bits t.y.bits a.set_y b.set_y i };
}

-- the sets of the joint effect into which a target turns
pub joint_sets : (q : MixedGraph) (t : PlainTarget) (h k : EffectHedge) → IsJointEffect q t h.sets.x.bits h.sets.y.bits
    → IsJointEffect q t k.sets.x.bits k.sets.y.bits → k.sets ≡ h.sets
joint_sets q t h k a b =
    let turned = one_turned q t h.sets.x.bits a.left k.sets.x.bits b.left a.moved b.moved a.turned b.turned in
    let ys : k.sets.y.bits ≡ h.sets.y.bits = b.joint ∙ ap (union t.y) (sym turned.1) ∙ sym a.joint in
    λ i. record { x = record { bits = sym turned.0 i }; y = record { bits = ys i } }

-- and whether it is settled that the models of its hedge differ on the target
pub one_settled : (q : MixedGraph) (t : PlainTarget) (settled other : Bool) (h k : EffectHedge) → IsJointHedge q t settled h → IsJointHedge q t other k
    → other ≡ settled
one_settled q t settled other h k a b =
    let turned = one_turned q t h.sets.x.bits a.joint.left k.sets.x.bits b.joint.left a.joint.moved b.joint.moved a.joint.turned b.joint.turned in
    let back = λ (s : IsSettled q k.sets.x.bits b.joint.left). subst (λ (n : ℕ). IsSettled q n a.joint.left) (sym turned.0)
    (subst (λ (n : ℕ). IsSettled q k.sets.x.bits n) (sym turned.1) s) in
    let over = λ (s : IsSettled q h.sets.x.bits a.joint.left). subst (λ (n : ℕ). IsSettled q n b.joint.left) turned.0
    (subst (λ (n : ℕ). IsSettled q h.sets.x.bits n) turned.1 s) in
    same_truth other settled (λ e. a.settled_is.1 (back (b.settled_is.0 e))) (λ e. b.settled_is.1 (over (a.settled_is.0 e)))

-- answers of which one thing is told
record AreOne (w : Writing) (names : List (List ℕ)) (a b : Answer) : Type 0 where
  text : identify_text w names b ≡ identify_text w names a
  object : identify_object w names b ≡ identify_object w names a

module _ (w : Writing) (names : List (List ℕ)) where
  -- formulas that are the same, with one derivation where the certificate is asked for
  formulas : (t : PlainTarget) (f g : EffectFormula) (d e : PlainDerivation) → target_view f.target ≡ t → target_view g.target ≡ t
      → formula_view g.formula ≡ formula_view f.formula → e ≡ d → IsKept (is_certified w) f.derivation d → IsKept (is_certified w) g.derivation e
      → AreOne w names (Formula f) (Formula g)
  formulas t f g d e at_t of_t fs ds kept other =
      let ts = of_t ∙ sym at_t in
      let certified = λ (c : is_certified w ≡ true). one_certificate f g d e ts fs ds
      (subst (λ (b : Bool). IsKept b f.derivation d) c kept) (subst (λ (b : Bool). IsKept b g.derivation e) c other) in
      record { text = one_formula_text names f g ts fs w certified; object = one_formula_object names f g ts fs w certified }

  -- effects and targets
  effects : (q : MixedGraph) → IsMixedGraph q → q.vertices ≤ 64 → (short : Bool) (l : EffectLists) (a b : Answer)
      → IsForEffect short (is_certified w) q l a → IsForEffect short (is_certified w) q l b
      → identify_telling.outcome a ≡ identify_telling.outcome b → (identify_telling.outcome a ≡ Yes → short ≡ false) → AreOne w names a b
  effects q valid few short l (Formula f) (Formula g) a b ends plain =
      let s = a.sets in
      let h = subst (λ (t : EffectSets). IsEffectFormula short (is_certified w) q t.x.bits t.y.bits g) (one_sets l a.sets b.sets a.named b.named) b.decided in
      let of_f = of_procedure short (plain refl) (IsDerived q s.x.bits s.y.bits) (formula_view f.formula) a.decided.derivation a.decided.derived in
      let of_g = of_procedure short (plain refl) (IsDerived q s.x.bits s.y.bits) (formula_view g.formula) h.derivation h.derived in
      formulas (effect_on s.x.bits s.y.bits) f g a.decided.derivation h.derivation a.decided.target h.target
      (one_formula q s.x.bits s.y.bits (formula_view g.formula) (formula_view f.formula)
      (derived_is_identified q s.x.bits s.y.bits (formula_view g.formula) h.derivation of_g)
      (derived_is_identified q s.x.bits s.y.bits (formula_view f.formula) a.decided.derivation of_f))
      (one_derivation q s.x.bits s.y.bits (formula_view g.formula) (formula_view f.formula) h.derivation a.decided.derivation of_g of_f)
      a.decided.kept h.kept
  effects q valid few short l (Hedge h) (Hedge k) a b ends plain =
      let same : k.sets ≡ h.sets = b.decided.0 ∙ one_sets l a.sets b.sets a.named b.named ∙ sym a.decided.0 in
      record {
        text = one_hedge_text q valid few names h k same a.decided.1 b.decided.1 w;
        object = one_hedge_object q valid few names h k same a.decided.1 b.decided.1 w;
      }
  effects q valid few short l (Formula f) (Hedge h) a b ends plain = let c : 0 ≡ 1 = ap code_of ends in absurd (omega (arith, c))
  effects q valid few short l (Hedge h) (Formula f) a b ends plain = let c : 1 ≡ 0 = ap code_of ends in absurd (omega (arith, c))
  effects q valid few short l (Joint t settled h) b x y ends plain = absurd x.decided
  effects q valid few short l a (Joint t settled h) x y ends plain = absurd y.decided

  targets : (q : MixedGraph) → IsMixedGraph q → q.vertices ≤ 64 → (short : Bool) (l : Lists) (a b : Answer)
      → IsForTarget short (is_certified w) q l a → IsForTarget short (is_certified w) q l b
      → identify_telling.outcome a ≡ identify_telling.outcome b → (identify_telling.outcome a ≡ Yes → short ≡ false) → AreOne w names a b
  targets q valid few short l (Formula f) (Formula g) a b ends plain =
      let t = a.target in
      let h = subst (λ (u : PlainTarget). IsTargetFormula short (is_certified w) q u g) (one_target l a.target b.target a.named b.named) b.decided in
      let of_f = of_procedure short (plain refl) (IsConditionalBySteps q t) (formula_view f.formula) a.decided.derivation a.decided.derived in
      let of_g = of_procedure short (plain refl) (IsConditionalBySteps q t) (formula_view g.formula) h.derivation h.derived in
      formulas t f g a.decided.derivation h.derivation a.decided.target h.target
      (one_conditional q t (formula_view g.formula) (formula_view f.formula) (derived_is_conditional q t (formula_view g.formula) h.derivation of_g)
      (derived_is_conditional q t (formula_view f.formula) a.decided.derivation of_f))
      (one_conditional_derivation q t (formula_view g.formula) (formula_view f.formula) h.derivation a.decided.derivation of_g of_f)
      a.decided.kept h.kept
  targets q valid few short l (Joint u settled h) (Joint v other k) a b ends plain =
      let t = a.target in
      let joint = subst (λ (s : PlainTarget). IsJointHedge q s other k) (one_target l a.target b.target a.named b.named) b.decided.1 in
      let vs : target_view v ≡ target_view u = b.decided.0 ∙ one_target l a.target b.target a.named b.named ∙ sym a.decided.0 in
      let same = joint_sets q t h k a.decided.1.joint joint.joint in
      record {
        text = ap (λ (s : PlainTarget). joint_text w names s k) vs
            ∙ one_joint_text q valid few names h k same a.decided.1.hedge joint.hedge w (target_view u);
        object = ap₂ (λ (s : PlainTarget) (is : Bool). joint_object w names s is k) vs (one_settled q t settled other h k a.decided.1 joint)
            ∙ one_joint_object q valid few names h k same a.decided.1.hedge joint.hedge w (target_view u) settled;
      }
  targets q valid few short l (Formula f) (Joint u settled h) a b ends plain = let c : 0 ≡ 1 = ap code_of ends in absurd (omega (arith, c))
  targets q valid few short l (Joint u settled h) (Formula f) a b ends plain = let c : 1 ≡ 0 = ap code_of ends in absurd (omega (arith, c))
  targets q valid few short l (Hedge h) b x y ends plain = absurd x.decided
  targets q valid few short l a (Hedge h) x y ends plain = absurd y.decided

  answers : (q : MixedGraph) → IsMixedGraph q → q.vertices ≤ 64 → (short : Bool) (l : Asked) (a b : Answer)
      → IsAnswerFor short (is_certified w) q l a → IsAnswerFor short (is_certified w) q l b
      → identify_telling.outcome a ≡ identify_telling.outcome b → (identify_telling.outcome a ≡ Yes → short ≡ false) → AreOne w names a b
  answers q valid few short (an_effect l) a b x y ends plain = effects q valid few short l a b x y ends plain
  answers q valid few short (a_target l) a b x y ends plain = targets q valid few short l a b x y ends plain

-- of two right answers that end alike, without a short formula, one thing is told
pub one_identification : (form : Form) (names : List (List ℕ)) (q : MixedGraph) → IsMixedGraph q → q.vertices ≤ 64 → (l : Asked) (a b : Answer)
    → IsAnswerFor form.short (is_certified form.writing) q l a → IsAnswerFor form.short (is_certified form.writing) q l b
    → identify_telling.outcome a ≡ identify_telling.outcome b → (identify_telling.outcome a ≡ Yes → form.short ≡ false)
    → told_in identify_telling target_refusal (told_form form) names (Ok b) ≡ told_in identify_telling target_refusal (told_form form) names (Ok a)
one_identification form names q valid few l a b x y ends plain =
    let one = answers form.writing names q valid few form.short l a b x y ends plain in
    λ i. answer_of (text_in form.format (one.text i) (json_line (object_of (one.object i))))
