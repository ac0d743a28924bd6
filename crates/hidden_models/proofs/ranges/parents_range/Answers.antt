use Rattle.std.proofs.Common.{◌∙◌, get_or, arith}
use Rattle.std.proofs.lemmas.List.{get_or_read}
use Rattle.mixed_graph.specs.Vocabulary.{graph_of}
use Rattle.finite_models.proofs.Capped.{range_more_one}
use Rattle.hidden_models.proofs.ranges.parents_range.Goals as goal

pub loop-k-preserved : goal.loop-k-preserved
loop-k-preserved c = range_more_one c.loop-k.k (λ k. (graph_of c.args.p.now).arrow k c.args.v) (λ k. get_or c.args.m.now.sizes.items k 0)
    c.loop-k.range c.index.result.now c.widened-range.result 1048577 c.has.result c.loop-k.invariant
    (c.has.ensures ∙ c.parents-parents.ensures.members c.loop-k.k)
    (get_or_read c.args.m.now.sizes.items c.loop-k.k _ (let k = c.args.m.now.sizes.ok in omega arith) c.index.ensures 0) c.widened-range.ensures
