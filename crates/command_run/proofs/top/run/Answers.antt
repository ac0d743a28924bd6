use Rattle.std.proofs.Common.{None}
use Rattle.command_run.specs.Ends.{told_as}
use Rattle.command_run.proofs.CompleteRuns.{complete}
use Rattle.command_run.proofs.Deliveries.{delivered}
use Rattle.command_run.proofs.top.run.Goals as goal

pub returns-clause-ended : goal.returns-clause-ended
returns-clause-ended g c = record {
  outcome = c.deliver-last.result.outcome;
  told = told_as g.R.Request.commands c.deliver-last.result;
  status = c.code.ensures;
  ends = delivered g.R.Request.commands _ c.reply_to-reply.result.format c.reply_to-reply.result.reply c.deliver-last.result c.reply_to-reply.ensures.format
      (c.reply_to-reply.ensures.replies None tt _) c.deliver-last.ensures;
  received = c.report.ensures;
}

pub returns-clause-complete : goal.returns-clause-complete
returns-clause-complete g c =
    complete g.R.Request.commands c.requires _ _ c.deliver-last.result.outcome (told_as g.R.Request.commands c.deliver-last.result)
    c.code.ensures
    (delivered g.R.Request.commands _ c.reply_to-reply.result.format c.reply_to-reply.result.reply c.deliver-last.result c.reply_to-reply.ensures.format
    (c.reply_to-reply.ensures.replies None tt _) c.deliver-last.ensures)

pub returns-clause-reads : goal.returns-clause-reads
returns-clause-reads g c = c.reply_to-reply.ensures.reads None tt _

pub returns-clause-holds : goal.returns-clause-holds
returns-clause-holds g c = c.reply_to-reply.ensures.stays.holds

pub returns-clause-lack : goal.returns-clause-lack
returns-clause-lack g c = c.reply_to-reply.ensures.stays.lack
