-- An accepted formula stands with a derivation that makes it of its target.
use Rattle.std.proofs.Common.{◌≡◌, ℕ, true, List, length, Option, Some, None, option_map, Result, IfOk, refl, sym, subst}
use Rattle.std.proofs.lemmas.Option.{none-some, same_Some}
use Rattle.std.proofs.lemmas.Result.{IfOk-weaker}
use Rattle.std.specs.Global.{Vec}
use Rattle.mixed_graph.specs.Vocabulary.{MixedGraph}
use Rattle.prob_expr.specs.Vocabulary.{is_term, PlainFormula, PlainTarget, target_view, formula_view}
use Rattle.do_derivation.specs.Vocabulary.{derivation_view, PlainDerivation}
use Rattle.do_derivation.specs.declared.steps.Derivation.{Derivation}
use Rattle.derivation_steps.specs.Vocabulary.{Explains, IsDerived}
use Rattle.derivation_steps.specs.declared.parts.Part.{Part}
use Rattle.certificate.specs.Vocabulary.{PlainCertificate, formula}
use Rattle.effect_answers.specs.declared.formulas.EffectFormula.{EffectFormula}
use Rattle.check_command.specs.Vocabulary.{IsForText, of_formula, of_hedge}
use Rattle.check_command.specs.declared.answer.Answer.{Answer as CheckAnswer}
use Rattle.check_command.specs.declared.answer.Answer.TheVariants.{AcceptedFormula, RefusedDerivation, AcceptedHedge, RefusedHedge, MetHedge}
use Rattle.check_command.proofs.ReadFormulas.{read_sound}
use Rattle.steps_command.specs.Right.{IsDerivable, IsExplained, IsTold}
use Rattle.steps_command.specs.declared.answer.Answer.TheVariants.{Checked}

pub derivable : (q : MixedGraph) (names : List (List ℕ)) (zs bytes : List ℕ) (e : EffectFormula) → length names ≡ q.vertices
    → IsForText q names zs bytes (AcceptedFormula e) → IsDerivable q e
derivable q names zs bytes e sized (of_formula t f d holds is) = record {
  target = t;
  main = f;
  derivation = d;
  certificate = is.0;
  term = subst (λ (n : ℕ). is_term n t.y t.x t.given ≡ true) sized (read_sound names bytes (formula t f d) holds.reads).target;
  derived = record { sets = is.1.accepted.sets; define = is.1.accepted.define; main = is.1.accepted.main };
}
derivable q names zs bytes e sized (of_hedge t h entries holds is) = absurd is

-- ---- the derivation that is kept

abbrev certified : EffectFormula → Derivation → PlainCertificate
certified e d = formula (target_view e.target) (formula_view e.formula) (derivation_view d)

-- the derivation that is kept is that of the certificate
same_certificate : (e : EffectFormula) (kept : Option Derivation) (d : Derivation) (c : PlainCertificate) → option_map (certified e) kept ≡ Some c
    → kept ≡ Some d → c ≡ certified e d
same_certificate e (Some k) d c is found =
    let same : k ≡ d = same_Some k d found in
    subst (λ (x : Derivation). c ≡ certified e x) same (same_Some c (certified e k) (sym is))
same_certificate e None d c is found = absurd (none-some d found)

module _ (q : MixedGraph) (e : EffectFormula) (d : Derivation) (found : e.derivation ≡ Some d) (h : IsDerivable q e) where
  same : formula h.target h.main h.derivation ≡ certified e d
  same = same_certificate e e.derivation d (formula h.target h.main h.derivation) h.certificate found

  targets : h.target ≡ target_view e.target
  targets = let s = same in cc s

  formulas : h.main ≡ formula_view e.formula
  formulas = let s = same in cc s

  derivations : h.derivation ≡ derivation_view d
  derivations = let s = same in cc s

  pub is_asked_term : is_term q.vertices e.target.y.bits e.target.x.bits e.target.given.bits ≡ true
  is_asked_term = subst (λ (t : PlainTarget). is_term q.vertices t.y t.x t.given ≡ true) targets h.term

  pub is_derived : IsDerived q (target_view e.target) (derivation_view d) (formula_view e.formula)
  is_derived = subst (λ (t : PlainTarget). IsDerived q t (derivation_view d) (formula_view e.formula)) targets
      (subst (λ (f : PlainFormula). IsDerived q h.target (derivation_view d) f) formulas
      (subst (λ (p : PlainDerivation). IsDerived q h.target p h.main) derivations h.derived))

  pub is_explained : {E : Type 0} (r : Result (Vec Part) E)
      → IfOk r (λ (v : Vec Part). (f : PlainFormula) → IsDerived q (target_view e.target) (derivation_view d) f
      → Explains q (target_view e.target) (derivation_view d) f v.items)
      → IfOk r (λ (v : Vec Part). IsExplained q e v.items)
  is_explained r explains = IfOk-weaker r
      (λ (v : Vec Part). (f : PlainFormula) → IsDerived q (target_view e.target) (derivation_view d) f
      → Explains q (target_view e.target) (derivation_view d) f v.items)
      (λ (v : Vec Part). IsExplained q e v.items)
      (λ v g. record {
        target = target_view e.target;
        main = formula_view e.formula;
        derivation = derivation_view d;
        certificate = subst (λ (o : Option Derivation). option_map (certified e) o ≡ Some (certified e d)) (sym found) refl;
        explains = g (formula_view e.formula) is_derived;
      }) explains

-- any other answer than an accepted formula is told as it is
pub told_as_checked : (q : MixedGraph) (a : CheckAnswer) → ((e : EffectFormula) → a ≡ AcceptedFormula e → ⊥) → IsTold q (Checked a)
told_as_checked q (AcceptedFormula e) other = absurd (other e refl)
told_as_checked q (RefusedDerivation lemmas fault) other = tt
told_as_checked q (AcceptedHedge sets h over) other = tt
told_as_checked q (RefusedHedge fault) other = tt
told_as_checked q MetHedge other = tt
