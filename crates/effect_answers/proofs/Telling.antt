-- What is told of a formula whose derivation is kept; and one thing is told of formulas that are the same.
use Rattle.std.proofs.Common.{◌≡◌, ℕ, Bool, true, false, List, [], ◌++◌, Option, Some, None, option_map, refl, sym, ap, ap₂, ◌∙◌, true≢false}
use Rattle.std.specs.Prelude.{if◌then◌else◌}
use Rattle.json.specs.Json.{Json}
use Rattle.prob_expr.specs.Vocabulary.{PlainTarget, PlainFormula, target_view, formula_view}
use Rattle.do_derivation.specs.declared.steps.Derivation.{Derivation}
use Rattle.do_derivation.specs.Vocabulary.{PlainDerivation, derivation_view}
use Rattle.identify_text.specs.Vocabulary.{answer_in}
use Rattle.certificate.specs.Vocabulary.{PlainCertificate, formula}
use Rattle.told.specs.declared.form.Writing.{Writing}
use Rattle.told.specs.Vocabulary.{is_certified, notation_of}
use Rattle.effect_answers.specs.declared.formulas.EffectFormula.{EffectFormula}
use Rattle.effect_answers.specs.Certificates.{line_or, member_of}
use Rattle.effect_answers.specs.FormulaTelling.{formula_certificate, formula_line, formula_text, formula_answer, formula_object}
use Rattle.effect_answers.specs.Right.{IsKept}

-- where the certificate is asked for, there is this one
pub kept_certificate : (t : PlainTarget) (f : PlainFormula) (kept : Option Derivation) (d : PlainDerivation) → IsKept true kept d
    → option_map (λ e. formula t f (derivation_view e)) kept ≡ Some (formula t f d)
kept_certificate t f (Some e) d is = ap (λ (p : PlainDerivation). Some (formula t f p)) is
kept_certificate t f None d is = absurd (true≢false is)

-- where both certificates are asked for, formulas that are the same have one
pub one_certificate : (f g : EffectFormula) (d e : PlainDerivation) → target_view g.target ≡ target_view f.target
    → formula_view g.formula ≡ formula_view f.formula → e ≡ d → IsKept true f.derivation d → IsKept true g.derivation e
    → formula_certificate g ≡ formula_certificate f
one_certificate f g d e ts fs ds kept other =
    kept_certificate (target_view g.target) (formula_view g.formula) g.derivation e other
    ∙ (λ i. Some (formula (ts i) (fs i) (ds i)))
    ∙ sym (kept_certificate (target_view f.target) (formula_view f.formula) f.derivation d kept)

module _ (names : List (List ℕ)) (f g : EffectFormula) (ts : target_view g.target ≡ target_view f.target) (fs : formula_view g.formula ≡ formula_view f.formula) where
  line : (w : Writing) → formula_line w names g ≡ formula_line w names f
  line w = λ i. answer_in (notation_of w) names (ts i) (fs i)

  text_by : (w : Writing) (certified : Bool) → (certified ≡ true → formula_certificate g ≡ formula_certificate f)
      → (if certified then line_or names (formula_certificate g) (formula_line w names g) else formula_line w names g)
      ≡ (if certified then line_or names (formula_certificate f) (formula_line w names f) else formula_line w names f)
  text_by w true same = ap₂ (λ (c : Option PlainCertificate) (l : List ℕ). line_or names c l) (same refl) (line w)
  text_by w false same = line w

  -- one text is told of formulas that are the same, where the certificate is asked for of those that have one
  pub one_formula_text : (w : Writing) → (is_certified w ≡ true → formula_certificate g ≡ formula_certificate f)
      → formula_text w names g ≡ formula_text w names f
  one_formula_text w same = text_by w (is_certified w) same

  members : formula_answer names (target_view g.target) (formula_view g.formula) ≡ formula_answer names (target_view f.target) (formula_view f.formula)
  members = λ i. formula_answer names (ts i) (fs i)

  member_by : (certified : Bool) → (certified ≡ true → formula_certificate g ≡ formula_certificate f)
      → (if certified then member_of names (formula_certificate g) else []) ≡ (if certified then member_of names (formula_certificate f) else [])
  member_by true same = ap (member_of names) (same refl)
  member_by false same = refl

  -- and they have one object
  pub one_formula_object : (w : Writing) → (is_certified w ≡ true → formula_certificate g ≡ formula_certificate f)
      → formula_object w names g ≡ formula_object w names f
  one_formula_object w same = ap₂ (λ (l m : List (List ℕ × Json)). l ++ m) members (member_by (is_certified w) same)
