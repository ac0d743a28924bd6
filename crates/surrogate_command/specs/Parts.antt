-- The parts of what is told of an answer.
use Rattle.std.specs.Prelude.{ℕ, List, ◌++◌, Some, codes, if◌then◌else◌}
use Rattle.json.specs.Json.{Json}
use Rattle.prob_expr.specs.Vocabulary.{PlainTarget, target_view, formula_view}
use Rattle.hedge.specs.declared.hedge.Hedge.{Hedge}
use Rattle.certificate_json.specs.Vocabulary.{certificate_line}
use Rattle.told.specs.declared.form.Writing.{Writing}
use Rattle.told.specs.Vocabulary.{is_certified}
use Rattle.effect_answers.specs.declared.formulas.EffectFormula.{EffectFormula}
use Rattle.effect_answers.specs.declared.hedges.EffectHedge.{EffectHedge}
use Rattle.effect_answers.specs.Vocabulary.{member_in, formula_certificate, hedge_certificate}
use Rattle.surrogate_command.specs.Lines.{common_answer}
use Rattle.surrogate_command.specs.Objects.{formula_answer, stop_members, common_members}

-- a common hedge with its two models, or its certificate
abbrev pub blocked_text : Writing → List (List ℕ) → (x y district : ℕ) → EffectHedge → List ℕ
blocked_text w names x y district h =
    if is_certified w then certificate_line names (hedge_certificate h) else common_answer names x y district h.hedge h.pair

-- the members of a formula over experiments on zs
abbrev pub found_object : Writing → List (List ℕ) → List ℕ → EffectFormula → List (List ℕ × Json)
found_object w names zs f = formula_answer names zs (target_view f.target) (formula_view f.formula) ++ member_in w names (formula_certificate f)

-- those of a stop
abbrev pub unfound_object : List (List ℕ) → List ℕ → PlainTarget → (district : ℕ) → Hedge → List (List ℕ × Json)
unfound_object names zs t district h = stop_members (codes "not found") names zs t district h

-- those of a common hedge
abbrev pub blocked_object : Writing → List (List ℕ) → List ℕ → PlainTarget → (district : ℕ) → EffectHedge → List (List ℕ × Json)
blocked_object w names zs t district h = common_members names zs t district h.hedge h.pair ++ member_in w names (Some (hedge_certificate h))
