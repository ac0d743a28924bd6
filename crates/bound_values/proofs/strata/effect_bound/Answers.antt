use Rattle.std.proofs.Common.{◌∙◌, ap}
use Rattle.mixed_graph.specs.Vocabulary.{has}
use Rattle.count_eval.specs.Vocabulary.{weights_in, cell_of}
use Rattle.bound_values.specs.Questions.{asked_of}
use Rattle.bound_values.specs.Values.{total_over, term_value}
use Rattle.bound_values.proofs.Covered.{bounds_in_models}
use Rattle.bound_values.proofs.strata.effect_bound.Goals as goal

pub returns-clause-effect : goal.returns-clause-effect
returns-clause-effect g c =
    let kind = g.Q.Quantity.kind in let n = c.args.scope.now.n in let t = c.args.scope.now.counts.now in let q = c.args.scope.now.question in
    let w = weights_in n t in
    bounds_in_models g.Q.Quantity.numbers kind g.Q.Quantity.covers g.met.Q.Quantity.lawful.keeps c.laws.ensures.effect c.laws-2.ensures.paired c.laws-3.ensures.effect q.method c.args.end n t
    (asked_of q) (cell_of c.args.cell) c.requires.scope.pairs c.requires.apart c.requires.some c.strata_below.result
    (c.strata_below.ensures ∙ ap (λ v. total_over kind (has q.strata.bits) w.size v (term_value kind q.method c.args.end w (asked_of q)) (cell_of c.args.cell))
    c.vertex_count.ensures)
