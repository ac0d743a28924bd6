use Rattle.command_run.proofs.Definitions.{refused_fault}
use Rattle.command_run.proofs.replying.read_diagram.Goals as goal

pub returns-in-Err-clause-refused : goal.returns-in-Err-clause-refused
returns-in-Err-clause-refused c = refused_fault c.args.bytes.now c.in-Err.fault c.refuse_graph.result c.or_memory.result c.requires c.in-Err.ensures
    c.refuse_graph.ensures.outcome c.refuse_graph.ensures.told c.refuse_graph.ensures.fault c.or_memory.ensures
