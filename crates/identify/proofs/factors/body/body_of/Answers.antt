use Rattle.std.proofs.Common.{sym, ◌∙◌}
use Rattle.mixed_graph.specs.Vocabulary.{graph_of}
use Rattle.identify.specs.Parts.{source_of}
use Rattle.identify.proofs.Placing.{count_lists_of, one_list_each}
use Rattle.identify.proofs.factors.body.body_of.Goals as goal

pub wanted_steps-requires-clause-counted : goal.wanted_steps-requires-clause-counted
wanted_steps-requires-clause-counted c = λ w.
    sym (count_lists_of c.in_ok-factors.field-0.lists.items)
    ∙ one_list_each (graph_of c.args.g.now) (source_of c.args.from) c.args.a.bits c.args.t.bits 0 c.args.order.now _ (c.in_ok-factors.ensures.lists w)
