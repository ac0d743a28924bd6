use Rattle.dag_reader.proofs.MarkLists.{inside-add}
use Rattle.dag_reader.proofs.said.Statements.add_vertex.Goals as goal

pub invariant_of-self : goal.invariant_of-self
invariant_of-self c = record {
  inside = inside-add c.add_keyed.result c.args.self.now.names c.add_keyed.new.self c.args.name.bytes.now c.args.self.now.marks.items c.add_keyed.ensures.added
      c.add_keyed.ensures.err c.args.self.now.inside;
}
