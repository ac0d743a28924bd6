use Rattle.treated_command.proofs.Lawful.{forms_agree}
use Rattle.treated_command.proofs.theory.laws.Goals as goal

pub returns : goal.returns
returns c = forms_agree
