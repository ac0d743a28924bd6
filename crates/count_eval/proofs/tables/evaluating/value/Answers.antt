use Rattle.std.proofs.Common.{ℕ, ◌∙◌, length, subst}
use Rattle.std.specs.Prelude.{IfOk, IfErr}
use Rattle.prob_expr.specs.Vocabulary.{PlainFormula}
use Rattle.count_rows.specs.Vocabulary.{Table}
use Rattle.count_eval.specs.Answers.{CoversCounts, CoversWithZeros, CoversMatches, DeniesMatches}
use Rattle.count_eval.specs.Programs.{cell_of}
use Rattle.count_eval.proofs.tables.evaluating.value.Goals as goal

pub returns-in-Ok-clause-counts : goal.returns-in-Ok-clause-counts
returns-in-Ok-clause-counts g c = λ first.
    let covers = g.Q.Quantity.covers in let numbers = g.Q.Quantity.numbers in let s = cell_of c.args.at.now in let p = c.in-Ok.prepared in
    subst (λ (f : PlainFormula). IfOk c.value.result (λ q. CoversCounts covers (length c.args.at.now) c.args.c.now f s (numbers q))) c.in-Ok.ensures.formula
    (subst (λ (t : Table). IfOk c.value.result (λ q. CoversCounts covers (length c.args.at.now) t p.formula s (numbers q))) c.in-Ok.ensures.counts
    (subst (λ (n : ℕ). IfOk c.value.result (λ q. CoversCounts covers n p.counts p.formula s (numbers q))) c.in-Ok.ensures.vertices
    (c.value.ensures.counts (c.in-Ok.ensures.zero ∙ first))))

pub returns-in-Ok-clause-zeros : goal.returns-in-Ok-clause-zeros
returns-in-Ok-clause-zeros g c =
    let covers = g.Q.Quantity.covers in let numbers = g.Q.Quantity.numbers in let s = cell_of c.args.at.now in let p = c.in-Ok.prepared in
    subst (λ (f : PlainFormula). IfOk c.value.result (λ q. CoversWithZeros covers (length c.args.at.now) c.args.c.now f s (numbers q))) c.in-Ok.ensures.formula
    (subst (λ (t : Table). IfOk c.value.result (λ q. CoversWithZeros covers (length c.args.at.now) t p.formula s (numbers q))) c.in-Ok.ensures.counts
    (subst (λ (n : ℕ). IfOk c.value.result (λ q. CoversWithZeros covers n p.counts p.formula s (numbers q))) c.in-Ok.ensures.vertices c.value.ensures.zeros))

pub returns-in-Ok-clause-matches : goal.returns-in-Ok-clause-matches
returns-in-Ok-clause-matches g c =
    let covers = g.Q.Quantity.covers in let numbers = g.Q.Quantity.numbers in let s = cell_of c.args.at.now in let p = c.in-Ok.prepared in
    subst (λ (f : PlainFormula). IfOk c.value.result (λ q. CoversMatches covers (length c.args.at.now) c.args.c.now f s (numbers q))) c.in-Ok.ensures.formula
    (subst (λ (t : Table). IfOk c.value.result (λ q. CoversMatches covers (length c.args.at.now) t p.formula s (numbers q))) c.in-Ok.ensures.counts
    (subst (λ (n : ℕ). IfOk c.value.result (λ q. CoversMatches covers n p.counts p.formula s (numbers q))) c.in-Ok.ensures.vertices c.value.ensures.matches))

pub returns-in-Ok-clause-support : goal.returns-in-Ok-clause-support
returns-in-Ok-clause-support g c =
    let s = cell_of c.args.at.now in let p = c.in-Ok.prepared in
    subst (λ (t : Table). IfErr c.value.result (DeniesMatches (length c.args.at.now) t s)) c.in-Ok.ensures.counts
    (subst (λ (n : ℕ). IfErr c.value.result (DeniesMatches n p.counts s)) c.in-Ok.ensures.vertices c.value.ensures.support)
