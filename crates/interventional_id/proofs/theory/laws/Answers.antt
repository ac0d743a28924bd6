use Rattle.interventional_id.proofs.Products.{formulas_give_interventional}
use Rattle.interventional_id.proofs.Drawing.{interventional_is_drawn}
use Rattle.interventional_id.proofs.theory.laws.Goals as goal

pub returns : goal.returns
returns c = record { formulas = formulas_give_interventional; drawn = interventional_is_drawn }
