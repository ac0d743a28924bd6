use Rattle.std.proofs.Common.{refl}
use Rattle.command_run.specs.Run.{run_with}
use Rattle.command_run.proofs.Answered.{accepted_on, answered_with}
use Rattle.command_run.proofs.Deliveries.{replied_file, proceeded, no_room}
use Rattle.command_run.proofs.ReadCounts.{beside_second, beside_nothing}
use Rattle.command_run.proofs.top.answer_on.Goals as goal

pub returns-in-Err-clause-replies : goal.returns-in-Err-clause-replies
returns-in-Err-clause-replies g c = λ kept stands words asks before grown out. no_room g.R.Request.commands c.requires.lawful _ c.bare.result c.bare.ensures

pub returns-in-Err-clause-reads : goal.returns-in-Err-clause-reads
returns-in-Err-clause-reads g c = beside_nothing g.R.Request.commands (g.R.Request.request c.args.request) c.args.diagram.now _ _ c.args.file.now _ refl refl

pub returns-in-Err-clause-stays : goal.returns-in-Err-clause-stays
returns-in-Err-clause-stays g c = record { holds = refl; lack = refl }

pub returns-in-Ok-Replied-clause-replies : goal.returns-in-Ok-Replied-clause-replies
returns-in-Ok-Replied-clause-replies g c = λ kept stands words asks before grown out.
    let gives = rw c.in-Ok-Replied.field-0-is at c.in-Ok-Replied.ensures in
    let faults = g.S.Shelf.faults c.args.shelf.now in
    let r = run_with kept words (g.S.Shelf.held c.args.shelf.now) (g.S.Shelf.lacks c.args.shelf.now) before faults out in
    replied_file g.R.Request.commands c.requires.lawful r (g.R.Request.request c.args.request) c.args.file.now c.args.diagram.now c.in-Ok-Replied.reply asks
    c.requires.names stands gives

pub returns-in-Ok-Replied-clause-reads : goal.returns-in-Ok-Replied-clause-reads
returns-in-Ok-Replied-clause-reads g c =
    beside_nothing g.R.Request.commands (g.R.Request.request c.args.request) c.args.diagram.now _ _ c.args.file.now _ refl refl

pub returns-in-Ok-Replied-clause-stays : goal.returns-in-Ok-Replied-clause-stays
returns-in-Ok-Replied-clause-stays g c = record { holds = refl; lack = refl }

pub returns-in-Ok-Continues-clause-replies : goal.returns-in-Ok-Continues-clause-replies
returns-in-Ok-Continues-clause-replies g c = λ kept stands words asks before grown out.
    let left = rw c.in-Ok-Continues.field-0-is at c.in-Ok-Continues.ensures in
    let held = g.S.Shelf.held c.args.shelf.now in
    let lacks = g.S.Shelf.lacks c.args.shelf.now in
    let r = run_with kept words held lacks before (g.S.Shelf.faults c.proceed.new.shelf) out in
    proceeded g.R.Request.commands c.requires.lawful r (g.R.Request.request c.args.request) c.args.file.now c.args.diagram.now c.proceed.result asks
    c.requires.names stands (g.R.Second.SecondInput.left c.args.diagram.now c.in-Ok-Continues.input) held lacks
    (g.S.Shelf.faults c.args.shelf.now) left refl refl grown c.proceed.ensures.proceeds

pub returns-in-Ok-Continues-clause-reads : goal.returns-in-Ok-Continues-clause-reads
returns-in-Ok-Continues-clause-reads g c =
    let left = rw c.in-Ok-Continues.field-0-is at c.in-Ok-Continues.ensures in
    beside_second g.R.Request.commands (g.R.Request.request c.args.request) c.args.diagram.now
    (g.R.Second.SecondInput.left c.args.diagram.now c.in-Ok-Continues.input) _ _ c.args.file.now _ left c.proceed.ensures.reads

pub returns-in-Ok-Continues-clause-stays : goal.returns-in-Ok-Continues-clause-stays
returns-in-Ok-Continues-clause-stays g c = c.proceed.ensures.stays

pub proceed-requires-clause-accepted : goal.proceed-requires-clause-accepted
proceed-requires-clause-accepted g c =
    let left = rw c.in-Ok-Continues.field-0-is at c.in-Ok-Continues.ensures in
    accepted_on g.R.Request.commands (g.R.Request.request c.args.request) c.args.diagram.now
    (g.R.Second.SecondInput.left c.args.diagram.now c.in-Ok-Continues.input) left

pub proceed-requires-clause-answered : goal.proceed-requires-clause-answered
proceed-requires-clause-answered g c =
    let left = rw c.in-Ok-Continues.field-0-is at c.in-Ok-Continues.ensures in
    answered_with g.R.Request.commands c.requires.lawful (g.R.Request.request c.args.request) c.args.diagram.now
    (g.R.Second.SecondInput.left c.args.diagram.now c.in-Ok-Continues.input) left
