use Rattle.std.proofs.Common.{Option, option_map, refl, ap, sym, subst, arith, Err}
use Rattle.std.specs.Borrow.{Bor}
use Rattle.command_words.specs.Vocabulary.{texts_of}
use Rattle.diagram.specs.declared.diagram.Diagram.{Diagram}
use Rattle.replies.specs.Vocabulary.{IsAnswered}
use Rattle.command_run.specs.Ends.{RepliesWith}
use Rattle.command_run.specs.Run.{run_with, reads_of, ReadsAsAsked}
use Rattle.command_run.proofs.OneRequest.{asked_format}
use Rattle.command_run.proofs.Deliveries.{not_understood, no_room, replied_words, of_given, none_kept}
use Rattle.command_run.proofs.ReadCounts.{nothing_read, beside_read}
use Rattle.command_run.proofs.top.reply_to.Goals as goal

-- the value that is lent
abbrev lent : Option (Bor Diagram) → Option Diagram
lent given = option_map (λ d. d.now) given

-- ---- the words ask for nothing, or there is no memory

pub returns-in-Err-NotUnderstood-clause-replies : goal.returns-in-Err-NotUnderstood-clause-replies
returns-in-Err-NotUnderstood-clause-replies g c = λ kept is out.
    not_understood g.R.Request.commands c.requires _ c.bare.result.reply c.bare.ensures
    (c.in-Err-NotUnderstood.ensures.none (ap (λ f. Err f) c.in-Err-NotUnderstood.field-0-is))

pub returns-in-Err-NotUnderstood-clause-reads : goal.returns-in-Err-NotUnderstood-clause-reads
returns-in-Err-NotUnderstood-clause-reads g c = λ kept is out. nothing_read g.R.Request.commands _ _ refl refl

pub returns-in-Err-NotUnderstood-clause-stays : goal.returns-in-Err-NotUnderstood-clause-stays
returns-in-Err-NotUnderstood-clause-stays g c = record { holds = refl; lack = refl }

pub returns-in-Err-NotUnderstood-clause-format : goal.returns-in-Err-NotUnderstood-clause-format
returns-in-Err-NotUnderstood-clause-format g c = λ only. absurd (subst IsAnswered c.bare.ensures only)

pub returns-in-Err-NoMemory-clause-replies : goal.returns-in-Err-NoMemory-clause-replies
returns-in-Err-NoMemory-clause-replies g c = λ kept is out.
    no_room g.R.Request.commands c.requires _ c.bare-in-Err-NoMemory.result.reply c.bare-in-Err-NoMemory.ensures

pub returns-in-Err-NoMemory-clause-reads : goal.returns-in-Err-NoMemory-clause-reads
returns-in-Err-NoMemory-clause-reads g c = λ kept is out. nothing_read g.R.Request.commands _ _ refl refl

pub returns-in-Err-NoMemory-clause-stays : goal.returns-in-Err-NoMemory-clause-stays
returns-in-Err-NoMemory-clause-stays g c = record { holds = refl; lack = refl }

pub returns-in-Err-NoMemory-clause-format : goal.returns-in-Err-NoMemory-clause-format
returns-in-Err-NoMemory-clause-format g c = λ only. absurd (subst IsAnswered c.bare-in-Err-NoMemory.ensures only)

-- ---- the words alone give the answer

pub returns-in-Ok-Replied-clause-replies : goal.returns-in-Ok-Replied-clause-replies
returns-in-Ok-Replied-clause-replies g c = λ kept is out.
    let gives = rw c.in-Ok-Replied.field-0-is at c.in-Ok-Replied.ensures in
    replied_words g.R.Request.commands c.requires _ (g.R.Request.request c.in-Ok.request) c.in-Ok-Replied.reply c.in-Ok.ensures.asks gives

pub returns-in-Ok-Replied-clause-format : goal.returns-in-Ok-Replied-clause-format
returns-in-Ok-Replied-clause-format g c = λ only.
    asked_format g.R.Request.commands c.requires (texts_of c.args.words.now) (g.R.Request.request c.in-Ok.request) c.format-format.result c.in-Ok.ensures.asks
    c.format-format.ensures

-- ---- the file's diagram is given

pub returns-in-Some-clause-replies : goal.returns-in-Some-clause-replies
returns-in-Some-clause-replies g c = λ kept is out.
    c.answer_on-reply.ensures.replies kept (of_given kept (g.S.Shelf.held c.args.shelf.now) (g.S.Shelf.lacks c.args.shelf.now) c.in-Ok-Reads.file.now
    (lent c.args.given) c.in-Some.diagram.now (ap lent c.in-Some.is) is) (texts_of c.args.words.now) c.in-Ok.ensures.asks
    (g.S.Shelf.faults c.args.shelf.now) (λ name. omega arith) out

pub returns-in-Some-clause-reads : goal.returns-in-Some-clause-reads
returns-in-Some-clause-reads g c = λ kept is out.
    beside_read g.R.Request.commands _ _ (g.R.Request.request c.in-Ok.request) c.in-Ok-Reads.file.now c.in-Some.diagram.now _
    (rw c.in-Ok-Reads.field-0-is at c.in-Ok-Reads.ensures) c.in-Ok.ensures.asks
    (of_given kept (g.S.Shelf.held c.args.shelf.now) (g.S.Shelf.lacks c.args.shelf.now) c.in-Ok-Reads.file.now
    (lent c.args.given) c.in-Some.diagram.now (ap lent c.in-Some.is) is) c.answer_on-reply.ensures.reads

pub returns-in-Some-clause-stays : goal.returns-in-Some-clause-stays
returns-in-Some-clause-stays g c = c.answer_on-reply.ensures.stays

pub returns-in-Some-clause-format : goal.returns-in-Some-clause-format
returns-in-Some-clause-format g c = λ only.
    asked_format g.R.Request.commands c.requires (texts_of c.args.words.now) (g.R.Request.request c.in-Ok.request) c.format-format.result c.in-Ok.ensures.asks
    c.format-format.ensures

-- ---- the file is read

pub returns-in-None-clause-replies : goal.returns-in-None-clause-replies
returns-in-None-clause-replies g c = λ kept is out.
    subst (λ k. RepliesWith g.R.Request.commands (run_with k (texts_of c.args.words.now) (g.S.Shelf.held c.args.shelf.now)
    (g.S.Shelf.lacks c.args.shelf.now) (g.S.Shelf.faults c.args.shelf.now) (g.S.Shelf.faults c.answer_on_file-reply.new.shelf) out) c.answer_on_file-reply.result)
    (sym (none_kept kept (lent c.args.given) (ap lent c.in-None.is) is))
    (c.answer_on_file-reply.ensures.replies (texts_of c.args.words.now) c.in-Ok.ensures.asks out)

pub returns-in-None-clause-reads : goal.returns-in-None-clause-reads
returns-in-None-clause-reads g c = λ kept is out.
    subst (λ k. ReadsAsAsked g.R.Request.commands (run_with k (texts_of c.args.words.now) (g.S.Shelf.held c.args.shelf.now)
    (g.S.Shelf.lacks c.args.shelf.now) (g.S.Shelf.faults c.args.shelf.now) (g.S.Shelf.faults c.answer_on_file-reply.new.shelf) out)
    (reads_of (g.S.Shelf.reads c.args.shelf.now) (g.S.Shelf.reads c.answer_on_file-reply.new.shelf) (g.S.Shelf.given c.args.shelf.now)
    (g.S.Shelf.given c.answer_on_file-reply.new.shelf)))
    (sym (none_kept kept (lent c.args.given) (ap lent c.in-None.is) is))
    (c.answer_on_file-reply.ensures.reads (texts_of c.args.words.now) c.in-Ok.ensures.asks out)

pub returns-in-None-clause-stays : goal.returns-in-None-clause-stays
returns-in-None-clause-stays g c = c.answer_on_file-reply.ensures.stays

pub returns-in-None-clause-format : goal.returns-in-None-clause-format
returns-in-None-clause-format g c = λ only.
    asked_format g.R.Request.commands c.requires (texts_of c.args.words.now) (g.R.Request.request c.in-Ok.request) c.format-format.result c.in-Ok.ensures.asks
    c.format-format.ensures
