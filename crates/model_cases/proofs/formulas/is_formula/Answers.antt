use Rattle.std.proofs.Common.{sym, ◌∙◌, ap}
use Rattle.prob_expr.specs.Vocabulary.{formula_view, fault_of}
use Rattle.model_cases.proofs.formulas.is_formula.Goals as goal

pub returns-in-Ok-clause-factors : goal.returns-in-Ok-clause-factors
returns-in-Ok-clause-factors c = (c.laws.ensures.accepted c.args.n (formula_view c.args.f.now) (sym c.check.ensures ∙ ap fault_of c.in-Ok.is)).main.factors

pub returns-in-Ok-clause-terms : goal.returns-in-Ok-clause-terms
returns-in-Ok-clause-terms c = (c.laws.ensures.accepted c.args.n (formula_view c.args.f.now) (sym c.check.ensures ∙ ap fault_of c.in-Ok.is)).main.terms
