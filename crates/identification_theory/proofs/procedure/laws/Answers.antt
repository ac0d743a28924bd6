use Rattle.identification_theory.proofs.Formulas.{formula_is_accepted}
use Rattle.identification_theory.proofs.procedure.laws.Goals as goal

pub returns : goal.returns
returns c = record { accepted = formula_is_accepted }
