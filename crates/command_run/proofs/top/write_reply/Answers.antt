use Rattle.std.proofs.Common.{refl}
use Rattle.command_run.specs.Ends.{written, unwritten}
use Rattle.command_run.proofs.top.write_reply.Goals as goal

pub returns-in-Ok : goal.returns-in-Ok
returns-in-Ok g c = written refl c.requires (rw c.shown.ensures at c.in-Ok.ensures.ok)

pub returns-in-Err : goal.returns-in-Err
returns-in-Err g c =
    let front = rw c.shown.ensures at c.in-Err.ensures.prefix in
    unwritten c.bare.ensures c.requires front.0 front.1 front.2 c.in-Err.ensures.failed
