use Rattle.std.proofs.Common.{◌≡◌, ◌≤◌, None, length, subst}
use Rattle.prob_expr.specs.Vocabulary.{fault_in}
use Rattle.identify.specs.Vocabulary.{AreShallowSteps, IfFormula, IsShallowFormula}
use Rattle.part_checks.proofs.Lists.{set_within}
use Rattle.part_checks.proofs.making.derive_part.Goals as goal

pub returns-clause-written : goal.returns-clause-written
returns-clause-written c = record {
  district = set_within c.args.g.now.n c.args.c.bits c.requires.within c.requires.some;
  formed = subst (λ a. IfFormula a (λ f d. fault_in c.args.g.now.n f ≡ None)) c.in-Formula.is c.in_ok-formula.ensures.formed;
  few = subst (λ a. IfFormula a (λ f d. length f.defs ≤ 4096)) c.in-Formula.is c.in_ok-formula.ensures.few;
  nodes = subst (λ a. IfFormula a (λ f d. IsShallowFormula f)) c.in-Formula.is c.in_ok-formula.ensures.shallow_formula;
  steps = subst (λ a. IfFormula a (λ f d. AreShallowSteps d)) c.in-Formula.is c.in_ok-formula.ensures.shallow_steps;
}
