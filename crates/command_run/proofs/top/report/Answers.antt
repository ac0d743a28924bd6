use Rattle.std.proofs.Common.{subst}
use Rattle.command_run.specs.Run.{Received}
use Rattle.command_run.proofs.Deliveries.{received}
use Rattle.command_run.proofs.top.report.Goals as goal

pub returns-in_default : goal.returns-in_default
returns-in_default g c =
    subst (Received _ c.args.last.now.outcome) c.line_of.ensures
    (received _ c.args.last.now.outcome c.line_of.result.now c.write_all.result c.in_default.not-Yes c.in_default.not-No c.write_all.ensures.ok
    c.write_all.ensures.prefix c.write_all.ensures.failed)
