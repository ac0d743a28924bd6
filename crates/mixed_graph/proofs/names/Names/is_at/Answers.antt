use Rattle.std.proofs.Common.{◌∙◌}
use Rattle.mixed_graph.proofs.NameKeys.{bytes_tell}
use Rattle.mixed_graph.proofs.names.Names.is_at.Goals as goal

pub returns-then-key-eq0 : goal.returns-then-key-eq0
returns-then-key-eq0 c = c.eq.ensures ∙ bytes_tell c.args.self.now c.args.name.now c.get.result.now c.args.v c.get.ensures.name
