use Rattle.std.proofs.Common.{◌≡◌, false, subst}
use Rattle.std.specs.Prelude.{IfOk, IfErr}
use Rattle.count_eval.specs.Answers.{CoversCounts, CoversWithZeros, CoversMatches, DeniesMatches}
use Rattle.count_eval.specs.Programs.{cell_of}
use Rattle.count_eval.specs.Preparations.{Preparation}
use Rattle.count_eval.proofs.tables.prepared.Prepared.value.Goals as goal

pub returns-clause-counts : goal.returns-clause-counts
returns-clause-counts g c =
    subst (λ (p : Preparation). p.zero ≡ false → IfOk c.value_by.result (λ q. CoversCounts g.Q.Quantity.covers p.vertices p.counts p.formula
    (cell_of c.args.at.now) (g.Q.Quantity.numbers q)))
    c.self.view_is c.value_by.ensures.counts

pub returns-clause-zeros : goal.returns-clause-zeros
returns-clause-zeros g c =
    subst (λ (p : Preparation). IfOk c.value_by.result (λ q. CoversWithZeros g.Q.Quantity.covers p.vertices p.counts p.formula (cell_of c.args.at.now)
    (g.Q.Quantity.numbers q)))
    c.self.view_is c.value_by.ensures.zeros

pub returns-clause-matches : goal.returns-clause-matches
returns-clause-matches g c =
    subst (λ (p : Preparation). IfOk c.value_by.result (λ q. CoversMatches g.Q.Quantity.covers p.vertices p.counts p.formula (cell_of c.args.at.now)
    (g.Q.Quantity.numbers q)))
    c.self.view_is c.value_by.ensures.matches

pub returns-clause-support : goal.returns-clause-support
returns-clause-support g c =
    subst (λ (p : Preparation). IfErr c.value_by.result (DeniesMatches p.vertices p.counts (cell_of c.args.at.now))) c.self.view_is c.value_by.ensures.support
