-- What other crates cite of this one, from one place.
pub use Rattle.effect_answers.specs.Certificates.{IsReadBack, member_in}
pub use Rattle.effect_answers.specs.FormulaTelling.{formula_certificate, formula_object, formula_text}
pub use Rattle.effect_answers.specs.HedgeTelling.{effect_of, hedge_certificate, hedge_object, hedge_text, joint_object, joint_text}
pub use Rattle.effect_answers.specs.Hedges.{HasArrays, IsFoundHedge}
pub use Rattle.effect_answers.specs.Objects.{effect_json, formula_members, joint_json, target_members}
pub use Rattle.effect_answers.specs.Right.{IsEffectHedge, IsKept}
