use Rattle.std.proofs.Common.{length, sym, ap, ◌∙◌}
use Rattle.mixed_graph.proofs.NameBlocks.{length-cut}
use Rattle.mixed_graph.proofs.names.Names.count.Goals as goal

pub returns-clause-count : goal.returns-clause-count
returns-clause-count c = sym (length-cut c.self.inside.bytes.items c.self.inside.ends c.self.inside.count) ∙ ap length c.self.view_is
