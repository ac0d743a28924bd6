use Rattle.std.proofs.Common.{◌≤◌, subst, length}
use Rattle.std.specs.Prelude.{IfOk}
use Rattle.command_run.specs.Ends.{ReadsSecond}
use Rattle.command_run.proofs.Deliveries.{within, given_second}
use Rattle.command_run.proofs.top.proceed.Goals as goal

pub reply_on_second-requires-clause-limit : goal.reply_on_second-requires-clause-limit
reply_on_second-requires-clause-limit g c =
    subst (λ k. IfOk c.read_second-read.result (λ other. length other.items ≤ k)) (c.limit.ensures.limit c.args.diagram.now)
    (within _ _ c.read_second-read.result c.read_second-read.ensures.answer.answer)

pub returns-clause-proceeds : goal.returns-clause-proceeds
returns-clause-proceeds g c = given_second _ _ _ _ (g.I.SecondInput.left c.args.diagram.now c.args.input.now)
    c.requires.answered c.second.result.now c.limit.result c.read_second-read.result c.reply_on_second.result c.or_memory.result
    (c.second.ensures c.args.diagram.now) (c.limit.ensures.limit c.args.diagram.now) c.read_second-read.ensures.answer c.reply_on_second.ensures
    c.or_memory.ensures

pub returns-clause-reads : goal.returns-clause-reads
returns-clause-reads g c = subst (ReadsSecond _ _ c.args.file.now _) (c.second.ensures c.args.diagram.now) c.read_second-read.ensures.reads

pub returns-clause-stays : goal.returns-clause-stays
returns-clause-stays g c = c.read_second-read.ensures.stays
