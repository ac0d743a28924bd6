use Rattle.identification_theory.proofs.Answered.{formula_names_ancestors, formula_is_formed, formula_is_shallow, one_formula, derived_is_identified}
use Rattle.identification_theory.proofs.Answered.{one_derivation, derivation_is_accepted, one_stop, never_both, stop_is_hedge}
use Rattle.identification_theory.proofs.answers.laws.Goals as goal

pub returns : goal.returns
returns c = record {
  names = formula_names_ancestors;
  formed = formula_is_formed;
  shallow = formula_is_shallow;
  one_formula = one_formula;
  derived = derived_is_identified;
  one_derivation = one_derivation;
  accepted = derivation_is_accepted;
  one_stop = one_stop;
  never_both = never_both;
  hedge =
      stop_is_hedge;
}
