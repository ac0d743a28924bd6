use Rattle.std.proofs.Common.{◌∙◌, ap, ap₂, refl, arith}
use Rattle.mixed_graph.specs.Vocabulary.{has}
use Rattle.count_eval.specs.Vocabulary.{cell_of}
use Rattle.natural_bounds.specs.Vocabulary.{fixed}
use Rattle.bound_values.specs.Questions.{asked_of}
use Rattle.bound_values.specs.Values.{in_kind}
use Rattle.bound_values.proofs.Sums.{sum_is, stratum_less, small}
use Rattle.bound_values.proofs.strata.term.Goals as goal

pub from_ratio-share-requires-clause-at_most_one : goal.from_ratio-share-requires-clause-at_most_one
from_ratio-share-requires-clause-at_most_one g c =
    let n = c.args.scope.now.n in let t = c.args.scope.now.counts.now in let sums = c.args.scope.now.sums.now in
    let q = c.args.scope.now.question in let cell = c.args.cell in
    let one = sum_is t sums c.fixed.result.bits (fixed (asked_of q)) cell c.sum-stratum.result c.requires.scope.same c.fixed.ensures.members
    c.sum-stratum.ensures in
    let two = sum_is t sums q.given.bits (has q.given.bits) cell c.sum-condition.result c.requires.scope.same (λ v. refl) c.sum-condition.ensures in
    let less = stratum_less n t (asked_of q) (cell_of cell) in
    omega (arith, one, two, less)

pub from_ratio-share-requires-clause-small : goal.from_ratio-share-requires-clause-small
from_ratio-share-requires-clause-small g c =
    let t = c.args.scope.now.counts.now in let q = c.args.scope.now.question in let cell = c.args.cell in
    let two = sum_is t c.args.scope.now.sums.now q.given.bits (has q.given.bits) cell c.sum-condition.result c.requires.scope.same (λ v. refl)
    c.sum-condition.ensures in
    let most = small t c.requires.scope.table (has q.given.bits) (cell_of cell) in
    omega (arith, two, most)

pub returns : goal.returns
returns g c =
    let kind = g.Q.Quantity.kind in
    let t = c.args.scope.now.counts.now in let sums = c.args.scope.now.sums.now in
    let q = c.args.scope.now.question in let cell = c.args.cell in
    let one = sum_is t sums c.fixed.result.bits (fixed (asked_of q)) cell c.sum-stratum.result c.requires.scope.same c.fixed.ensures.members
    c.sum-stratum.ensures in
    let two = sum_is t sums q.given.bits (has q.given.bits) cell c.sum-condition.result c.requires.scope.same (λ v. refl) c.sum-condition.ensures in
    c.mul.ensures
    ∙ ap₂ kind.mul (c.from_ratio-share.ensures ∙ ap₂ kind.from_ratio one two) (c.of_ratio.ensures ∙ ap (in_kind kind) c.bound_by-bound.ensures)
