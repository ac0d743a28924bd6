use Rattle.dag_reader.proofs.WholeAnswers.{marked_named, held_tells}
use Rattle.dag_reader.proofs.reading.graph_from.Goals as goal

pub named_graph-requires : goal.named_graph-requires
named_graph-requires c = marked_named c.args.said.names c.args.said.marks.items c.in-Ok.marked (rw c.as_slice.ensures.value at c.in-Ok.ensures)
    c.args.said.inside

pub returns-in-Ok : goal.returns-in-Ok
returns-in-Ok c =
    let is = rw c.as_slice.ensures.value at c.in-Ok.ensures in
    (is.no_loop, is.no_clash, held_tells c.args.said.names c.args.said.marks.items c.in-Ok.marked _ is c.named_graph.ensures)
