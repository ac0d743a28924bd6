use Rattle.std.proofs.Common.{None, refl, subst, rules, ◌∙◌}
use Rattle.command_run.specs.Ends.{RepliesWith}
use Rattle.command_run.specs.Run.{run_on}
use Rattle.command_run.proofs.Deliveries.{unread_file, refused_file, not_true, were_read, of_read}
use Rattle.command_run.proofs.ReadCounts.{file_read, both_read}
use Rattle.command_run.proofs.top.answer_on_file.Goals as goal

pub returns-in-Err-clause-replies : goal.returns-in-Err-clause-replies
returns-in-Err-clause-replies g c = λ words asks out.
    unread_file g.R.Request.commands c.requires.lawful _ (g.R.Request.request c.args.request)
    c.args.file.now c.in-Err.fault c.unread_graph.result asks c.requires.names refl
    (record { answer = c.in-Err.ensures.answer; lacked = c.in-Err.ensures.lacked; failed = c.in-Err.ensures.failed }) c.unread_graph.ensures

pub returns-in-Err-clause-reads : goal.returns-in-Err-clause-reads
returns-in-Err-clause-reads g c = λ words asks out.
    file_read g.R.Request.commands _ _ (g.R.Request.request c.args.request)
    c.args.file.now refl c.requires.names asks c.in-Err.ensures.once c.in-Err.ensures.other_reads c.in-Err.ensures.other_given

pub returns-in-Err-clause-stays : goal.returns-in-Err-clause-stays
returns-in-Err-clause-stays g c = record { holds = c.in-Err.ensures.holds; lack = c.in-Err.ensures.lack }

pub returns-in-Err-read_diagram-clause-replies : goal.returns-in-Err-read_diagram-clause-replies
returns-in-Err-read_diagram-clause-replies g c = λ words asks out.
    refused_file g.R.Request.commands c.requires.lawful _ (g.R.Request.request c.args.request) c.args.file.now asks c.requires.names refl
    (not_true (g.S.Shelf.lacks c.args.shelf.now c.args.file.now) (λ t. cc (c.in-Ok.ensures.lacked t)))
    c.in-Ok.bytes.items c.in-Err-read_diagram.reply c.in-Ok.ensures.answer.1 (rw c.deref.ensures.value at c.in-Err-read_diagram.ensures.refused)

pub returns-in-Err-read_diagram-clause-reads : goal.returns-in-Err-read_diagram-clause-reads
returns-in-Err-read_diagram-clause-reads g c = λ words asks out.
    file_read g.R.Request.commands _ _ (g.R.Request.request c.args.request)
    c.args.file.now refl c.requires.names asks c.in-Ok.ensures.once c.in-Ok.ensures.other_reads c.in-Ok.ensures.other_given

pub returns-in-Err-read_diagram-clause-stays : goal.returns-in-Err-read_diagram-clause-stays
returns-in-Err-read_diagram-clause-stays g c = record { holds = c.in-Ok.ensures.holds; lack = c.in-Ok.ensures.lack }

pub answer_on-requires : goal.answer_on-requires
answer_on-requires g c κs =
    let read = were_read (g.S.Shelf.held c.args.shelf.now) (g.S.Shelf.held c.read_all.new.shelf) (g.S.Shelf.lacks c.args.shelf.now)
    (g.S.Shelf.lacks c.read_all.new.shelf) c.args.file.now c.in-Ok.bytes.items c.as_slice.result.now c.in-Ok.ensures.holds c.in-Ok.ensures.lack
    (λ t. cc (c.in-Ok.ensures.lacked t)) c.in-Ok.ensures.answer.1 c.in-Ok.ensures.answer.0 c.as_slice.ensures.value in
    search (rules, read)

pub returns-in-Ok-read_diagram-clause-replies : goal.returns-in-Ok-read_diagram-clause-replies
returns-in-Ok-read_diagram-clause-replies g c = λ words asks out.
    let lacks = g.S.Shelf.lacks c.read_all.new.shelf in
    let held = g.S.Shelf.held c.read_all.new.shelf in
    let faults = g.S.Shelf.faults c.args.shelf.now in
    let after = g.S.Shelf.faults c.answer_on.new.shelf in
    let read = were_read (g.S.Shelf.held c.args.shelf.now) held (g.S.Shelf.lacks c.args.shelf.now) lacks c.args.file.now c.in-Ok.bytes.items
    c.in-Ok.bytes.items c.in-Ok.ensures.holds c.in-Ok.ensures.lack (λ t. cc (c.in-Ok.ensures.lacked t))
    c.in-Ok.ensures.answer.1 c.in-Ok.ensures.answer.0 refl in
    let stands = of_read held lacks c.args.file.now c.in-Ok.bytes.items c.in-Ok-read_diagram.diagram read
    (rw c.deref.ensures.value at c.in-Ok-read_diagram.ensures.holds) in
    subst (λ l. RepliesWith g.R.Request.commands (run_on words (g.S.Shelf.held c.args.shelf.now) l faults after out) c.answer_on.result) c.in-Ok.ensures.lack
    (subst (λ h. RepliesWith g.R.Request.commands (run_on words h lacks faults after out) c.answer_on.result) c.in-Ok.ensures.holds
    (c.answer_on.ensures.replies None stands words asks faults c.in-Ok.ensures.never_falls out))

pub returns-in-Ok-read_diagram-clause-reads : goal.returns-in-Ok-read_diagram-clause-reads
returns-in-Ok-read_diagram-clause-reads g c = λ words asks out.
    let held = g.S.Shelf.held c.args.shelf.now in
    let lacks = g.S.Shelf.lacks c.args.shelf.now in
    let read = were_read held held lacks lacks c.args.file.now c.in-Ok.bytes.items c.in-Ok.bytes.items refl refl
    (λ t. cc (c.in-Ok.ensures.lacked t)) c.in-Ok.ensures.answer.1 c.in-Ok.ensures.answer.0 refl in
    let stands = of_read held lacks c.args.file.now c.in-Ok.bytes.items c.in-Ok-read_diagram.diagram read
    (rw c.deref.ensures.value at c.in-Ok-read_diagram.ensures.holds) in
    both_read (g.S.Shelf.reads c.args.shelf.now) (g.S.Shelf.reads c.read_all.new.shelf) (g.S.Shelf.reads c.answer_on.new.shelf)
    (g.S.Shelf.given c.args.shelf.now) (g.S.Shelf.given c.read_all.new.shelf) (g.S.Shelf.given c.answer_on.new.shelf)
    g.R.Request.commands _ (g.R.Request.request c.args.request) c.args.file.now c.in-Ok-read_diagram.diagram
    (g.S.Shelf.held c.read_all.new.shelf) refl c.requires.names asks stands c.in-Ok.ensures.holds
    c.in-Ok.ensures.once c.in-Ok.ensures.other_reads c.in-Ok.ensures.other_given c.answer_on.ensures.reads

pub returns-in-Ok-read_diagram-clause-stays : goal.returns-in-Ok-read_diagram-clause-stays
returns-in-Ok-read_diagram-clause-stays g c = record {
  holds = c.answer_on.ensures.stays.holds ∙ c.in-Ok.ensures.holds;
  lack = c.answer_on.ensures.stays.lack ∙ c.in-Ok.ensures.lack;
}
