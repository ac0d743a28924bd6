use Rattle.std.proofs.Common.{◌∙◌, get_or, arith}
use Rattle.mixed_graph.specs.Vocabulary.{graph_of}
use Rattle.std.proofs.lemmas.List.{get_or_read}
use Rattle.finite_models.proofs.Capped.{range_more_one}
use Rattle.finite_models.proofs.tables.parents_range.Goals as goal

pub loop-p-preserved : goal.loop-p-preserved
loop-p-preserved c = range_more_one c.loop-p.p (λ p. (graph_of c.args.g.now).arrow p c.args.v) (λ p. get_or c.args.m.now.sizes.items p 0)
    c.loop-p.range c.from.result c.widened-range.result c.args.cap c.has.result c.loop-p.invariant (c.has.ensures ∙ c.parents-row.ensures.members c.loop-p.p)
    (c.from.ensures ∙ get_or_read c.args.m.now.sizes.items c.loop-p.p _ (let k = c.args.m.now.sizes.ok in omega arith) c.index.ensures 0)
    c.widened-range.ensures
