-- What is told of a hedge with its two models.
use Rattle.std.specs.Prelude.{ℕ, Bool, List, ◌∷◌, ◌++◌, Some, codes, if◌then◌else◌}
use Rattle.json.specs.Json.{Json, boolean}
use Rattle.prob_expr.specs.Vocabulary.{PlainTarget, effect_on}
use Rattle.identify_text.specs.Vocabulary.{hedge_answer, joint_answer}
use Rattle.certificate.specs.Vocabulary.{PlainCertificate, hedge_view}
use Rattle.certificate.specs.Plain as plain
use Rattle.certificate_json.specs.Vocabulary.{certificate_line}
use Rattle.told.specs.declared.form.Writing.{Writing}
use Rattle.told.specs.Vocabulary.{is_certified}
use Rattle.effect_answers.specs.declared.hedges.EffectHedge.{EffectHedge}
use Rattle.effect_answers.specs.Certificates.{member_in}
use Rattle.effect_answers.specs.Objects.{joint_members, hedge_members}

-- the effect of x on y for which it is a hedge
abbrev pub effect_of : EffectHedge → PlainTarget
effect_of a = effect_on a.sets.x.bits a.sets.y.bits

-- its certificate
abbrev pub hedge_certificate : EffectHedge → PlainCertificate
hedge_certificate a = plain.hedge (effect_of a) (hedge_view a.hedge)

-- its text, or its certificate, where that is asked for
abbrev pub hedge_text : Writing → List (List ℕ) → EffectHedge → List ℕ
hedge_text w names a =
    if is_certified w then certificate_line names (hedge_certificate a) else hedge_answer names a.sets.x.bits a.sets.y.bits a.hedge a.pair

-- the same where the target turns into the effect of x on y
abbrev pub joint_text : Writing → List (List ℕ) → PlainTarget → EffectHedge → List ℕ
joint_text w names t a =
    if is_certified w then certificate_line names (hedge_certificate a) else joint_answer names t a.sets.x.bits a.sets.y.bits a.hedge a.pair

-- what stands in its object behind the effect of x on y: the hedge with its two models, and the certificate, where that is asked for
abbrev pub pair_object : Writing → List (List ℕ) → EffectHedge → List (List ℕ × Json)
pair_object w names a = hedge_members names a.hedge a.pair ++ member_in w names (Some (hedge_certificate a))

-- the members of its object, for that effect itself
abbrev pub hedge_object : Writing → List (List ℕ) → EffectHedge → List (List ℕ × Json)
hedge_object w names a = joint_members names (effect_of a) a.sets.x.bits a.sets.y.bits ++ pair_object w names a

-- and for a target that turns into that effect, with whether it is settled that the two models differ on the target too
abbrev pub joint_object : Writing → List (List ℕ) → PlainTarget → (settled : Bool) → EffectHedge → List (List ℕ × Json)
joint_object w names t settled a = joint_members names t a.sets.x.bits a.sets.y.bits ++ (codes "settled", boolean settled) ∷ pair_object w names a
