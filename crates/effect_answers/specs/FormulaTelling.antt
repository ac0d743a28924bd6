-- What is told of a formula for a target.
use Rattle.std.specs.Prelude.{ℕ, List, ◌∷◌, ◌++◌, Option, option_map, codes, if◌then◌else◌}
use Rattle.json.specs.Json.{Json, string}
use Rattle.prob_expr.specs.Vocabulary.{target_view, formula_view, PlainFormula, PlainTarget}
use Rattle.do_derivation.specs.Vocabulary.{derivation_view}
use Rattle.identify_text.specs.Vocabulary.{answer_in}
use Rattle.certificate.specs.Vocabulary.{PlainCertificate}
use Rattle.certificate.specs.Plain as plain
use Rattle.told.specs.declared.form.Writing.{Writing}
use Rattle.told.specs.Vocabulary.{is_certified, notation_of}
use Rattle.effect_answers.specs.declared.formulas.EffectFormula.{EffectFormula}
use Rattle.effect_answers.specs.Certificates.{line_or, member_in}
use Rattle.effect_answers.specs.Objects.{target_members, formula_members}

-- its certificate, where it has its derivation
abbrev pub formula_certificate : EffectFormula → Option PlainCertificate
formula_certificate a = option_map (λ d. plain.formula (target_view a.target) (formula_view a.formula) (derivation_view d)) a.derivation

-- the target, an equals sign and the formula
abbrev pub formula_line : Writing → List (List ℕ) → EffectFormula → List ℕ
formula_line w names a = answer_in (notation_of w) names (target_view a.target) (formula_view a.formula)

-- its text: that line, or the certificate, where that is asked for
abbrev pub formula_text : Writing → List (List ℕ) → EffectFormula → List ℕ
formula_text w names a = if is_certified w then line_or names (formula_certificate a) (formula_line w names a) else formula_line w names a

-- the members of its object up to the certificate
abbrev pub formula_answer : List (List ℕ) → PlainTarget → PlainFormula → List (List ℕ × Json)
formula_answer names t f = (codes "answer", string (codes "formula")) ∷ (target_members names t ++ formula_members names t f)

-- the members of its object
abbrev pub formula_object : Writing → List (List ℕ) → EffectFormula → List (List ℕ × Json)
formula_object w names a = formula_answer names (target_view a.target) (formula_view a.formula) ++ member_in w names (formula_certificate a)
