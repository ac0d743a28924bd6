use Rattle.std.proofs.Common.{ℕ, ◌*◌, ◌≡◌, ◌≤◌, sym, ap₂, subst, ◌∙◌}
use Rattle.count_eval.specs.Vocabulary.{weights_in, cell_of}
use Rattle.natural_bounds.specs.Vocabulary.{level}
use Rattle.bound_values.specs.Questions.{asked_of, level_set}
use Rattle.bound_values.proofs.Pairing.{levels_none, least_said, most_said, records_most}
use Rattle.bound_values.proofs.Sums.{sum_is}
use Rattle.bound_values.proofs.pairs.levels_bound.Goals as goal
use Rattle.bound_values.proofs.pairs.levels_bound.Goals.{After-sum-2}

records_first : (c : After-sum-2) → c.sum.result ≡ level (weights_in c.args.scope.now.n c.args.scope.now.counts.now) (asked_of c.args.scope.now.question) (cell_of c.args.first.now)
records_first c = sum_is c.args.scope.now.counts.now c.args.scope.now.sums.now c.level-level.result.bits (level_set (asked_of c.args.scope.now.question))
    c.args.first.now c.sum.result c.requires.scope.same c.level-level.ensures.members c.sum.ensures

records_second : (c : After-sum-2) → c.sum-2.result ≡ level (weights_in c.args.scope.now.n c.args.scope.now.counts.now) (asked_of c.args.scope.now.question) (cell_of c.args.second.now)
records_second c = sum_is c.args.scope.now.counts.now c.args.scope.now.sums.now c.level-level.result.bits (level_set (asked_of c.args.scope.now.question))
    c.args.second.now c.sum-2.result c.requires.scope.same c.level-level.ensures.members c.sum-2.ensures

pub returns-then-bottom-eq0 : goal.returns-then-bottom-eq0
returns-then-bottom-eq0 c =
    let sums = (goal.at.returns-then-bottom-eq0 c).After-sum-2 in
    c.trivial.ensures ∙ levels_none c.args.end (weights_in c.args.scope.now.n c.args.scope.now.counts.now) (asked_of c.args.scope.now.question)
    (cell_of c.args.first.now) (cell_of c.args.second.now)
    (sym (ap₂ (λ (a b : ℕ). a * b) (records_first sums) (records_second sums)) ∙ c.if-bottom-eq0.true)

pub shown-shown-requires-clause-first : goal.shown-shown-requires-clause-first
shown-shown-requires-clause-first c = records_first (goal.at.shown-shown-requires-clause-first c).After-sum-2

pub shown-shown-requires-clause-second : goal.shown-shown-requires-clause-second
shown-shown-requires-clause-second c = records_second (goal.at.shown-shown-requires-clause-second c).After-sum-2

-- the product of the records
product_few : (c : After-sum-2) → c.sum.result * c.sum-2.result ≤ 1000000000000000000000000000000
product_few c =
    subst (λ k. k ≤ 1000000000000000000000000000000) (sym (ap₂ (λ (a b : ℕ). a * b) (records_first c) (records_second c)))
    (records_most c.args.end c.args.scope.now.n c.args.scope.now.counts.now (asked_of c.args.scope.now.question) c.requires.scope.table
    (cell_of c.args.first.now) (cell_of c.args.second.now))

pub new-requires-clause-small : goal.new-requires-clause-small
new-requires-clause-small c = product_few (goal.at.new-requires-clause-small c).After-sum-2

pub new-requires-in-AtMost-clause-small : goal.new-requires-in-AtMost-clause-small
new-requires-in-AtMost-clause-small c = product_few (goal.at.new-requires-in-AtMost-clause-small c).After-sum-2

pub returns-in-AtLeast : goal.returns-in-AtLeast
returns-in-AtLeast c =
    let sums = (goal.at.returns-in-AtLeast c).After-sum-2 in
    c.new.ensures ∙ least_said c.args.end (weights_in c.args.scope.now.n c.args.scope.now.counts.now) (asked_of c.args.scope.now.question)
    (cell_of c.args.first.now) (cell_of c.args.second.now) c.shown-shown.result c.sum.result c.sum-2.result c.saturating_sub.result c.in-AtLeast.is
    c.shown-shown.ensures.value (records_first sums) (records_second sums) c.if-bottom-eq0.false c.saturating_sub.ensures

pub returns-in-AtMost : goal.returns-in-AtMost
returns-in-AtMost c =
    let sums = (goal.at.returns-in-AtMost c).After-sum-2 in
    c.new-in-AtMost.ensures ∙ most_said c.args.end (weights_in c.args.scope.now.n c.args.scope.now.counts.now) (asked_of c.args.scope.now.question)
    (cell_of c.args.first.now) (cell_of c.args.second.now) c.shown-shown.result c.sum.result c.sum-2.result c.in-AtMost.is
    c.shown-shown.ensures.value (records_first sums) (records_second sums) c.if-bottom-eq0.false
