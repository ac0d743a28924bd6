use Rattle.std.proofs.Common.{false, Ok, refl, subst}
use Rattle.natural_command.specs.Vocabulary.{IsNaturalAnswer}
use Rattle.natural_command.specs.declared.answer.Answer.{Answer}
use Rattle.evaluate_natural.proofs.Found.{identifies}
use Rattle.evaluate_natural.proofs.first.with_factors.Goals as goal

pub returns-in-Ok : goal.returns-in-Ok
returns-in-Ok c = λ q is.
    identifies c.args.diagram.now q c.in-Formula.asked c.in-Formula.formula (record { asked = c.in-Formula.asked; factors = c.in-Ok.factors }) refl c.in-Ok.ensures
    (subst (λ (a : Answer). IsNaturalAnswer false c.args.diagram.now q.x q.y q.through q.given (Ok a)) c.in-Formula.is is)

pub returns-in-Certified : goal.returns-in-Certified
returns-in-Certified c = λ q is.
    absurd (subst (λ (a : Answer). IsNaturalAnswer false c.args.diagram.now q.x q.y q.through q.given (Ok a)) c.in-Certified.is is).is.decided
