use Rattle.std.proofs.Common.{◌∙◌, sym, ap}
use Rattle.std.specs.Prelude.{not}
use Rattle.count_eval.specs.Vocabulary.{weights_in, cell_of}
use Rattle.bound_values.specs.Questions.{asked_of}
use Rattle.bound_values.proofs.Parts.{crossed_is, denied}
use Rattle.bound_values.proofs.crossings.crossing_at.Goals as goal

pub returns-else-is_at_most-clause-crossed : goal.returns-else-is_at_most-clause-crossed
returns-else-is_at_most-clause-crossed c =
    crossed_is c.args.scope.now.question.method (weights_in c.args.scope.now.n c.args.scope.now.counts.now) (asked_of c.args.scope.now.question)
    (cell_of c.args.cell) c.bound_by-lower.result c.bound_by-upper.result c.bound_by-lower.ensures c.bound_by-upper.ensures
    ∙ ap not (sym c.is_at_most.ensures ∙ c.if-is_at_most.false)

pub returns-else-is_at_most-clause-model : goal.returns-else-is_at_most-clause-model
returns-else-is_at_most-clause-model c =
    denied c.laws.ensures.crossed c.laws-2.ensures.paired_crossed c.args.scope.now.question.method c.args.scope.now.n c.args.scope.now.counts.now
    (asked_of c.args.scope.now.question) c.args.cell c.requires.scope.pairs c.requires.instruments c.requires.levels
    (crossed_is c.args.scope.now.question.method (weights_in c.args.scope.now.n c.args.scope.now.counts.now) (asked_of c.args.scope.now.question)
    (cell_of c.args.cell) c.bound_by-lower.result c.bound_by-upper.result c.bound_by-lower.ensures c.bound_by-upper.ensures
    ∙ ap not (sym c.is_at_most.ensures ∙ c.if-is_at_most.false))

pub returns-then-is_at_most-clause-none : goal.returns-then-is_at_most-clause-none
returns-then-is_at_most-clause-none c =
    crossed_is c.args.scope.now.question.method (weights_in c.args.scope.now.n c.args.scope.now.counts.now) (asked_of c.args.scope.now.question)
    (cell_of c.args.cell) c.bound_by-lower.result c.bound_by-upper.result c.bound_by-lower.ensures c.bound_by-upper.ensures
    ∙ ap not (sym c.is_at_most.ensures ∙ c.if-is_at_most.true)
