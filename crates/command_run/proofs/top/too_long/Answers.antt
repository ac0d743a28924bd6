use Rattle.command_run.proofs.Definitions.{refused_size}
use Rattle.command_run.proofs.top.too_long.Goals as goal

pub returns : goal.returns
returns c = refused_size c.refuse_size.result c.or_memory.result c.refuse_size.ensures.outcome c.refuse_size.ensures.told c.or_memory.ensures
