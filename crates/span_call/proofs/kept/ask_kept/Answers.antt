use Rattle.std.proofs.Common.{◌≡◌, Some, Err, is_none, ap, map, refl, ◌∙◌, subst, arith}
use Rattle.std.specs.Prelude.{string_bytes}
use Rattle.caller_memory.specs.Vocabulary.{place_named, content_named, texts}
use Rattle.replies.specs.Vocabulary.{code_of, IsAnswered}
use Rattle.caller_memory.proofs.OneGraph.{kept_holds}
use Rattle.command_run.proofs.Deliveries.{no_room}
use Rattle.causal_cli.specs.Commands.{commands}
use Rattle.causal_cli.proofs.Lawful.{lawful}
use Rattle.span_call.proofs.CallEnds.{ended, silent}
use Rattle.span_call.proofs.Calling.{called}
use Rattle.span_call.proofs.Endings.{lacks_input, never_cut_short}
use Rattle.span_call.proofs.kept.ask_kept.Goals as goal

-- ---- a word is no text, or there is no memory for the words

pub returns-in-Err-clause-end : goal.returns-in-Err-clause-end
returns-in-Err-clause-end c = c.in-Err.ensures.end c.args.out.now c.args.err.now

pub returns-in-Err-clause-called : goal.returns-in-Err-clause-called
returns-in-Err-clause-called c = λ small text kept. absurd (omega (arith, small, c.in-Err.ensures.least))

pub returns-in-Err-clause-lacked : goal.returns-in-Err-clause-lacked
returns-in-Err-clause-lacked c = λ six text kept. absurd (omega (arith, six, c.in-Err.ensures.least))

pub returns-in-Err-clause-never_cut_short : goal.returns-in-Err-clause-never_cut_short
returns-in-Err-clause-never_cut_short c = λ seven text kept. absurd (omega (arith, seven, c.in-Err.ensures.least))

pub returns-in-Err-clause-kept : goal.returns-in-Err-clause-kept
returns-in-Err-clause-kept c = λ small. absurd (omega (arith, small, c.in-Err.ensures.least))

pub returns-in-Err-clause-not_kept : goal.returns-in-Err-clause-not_kept
returns-in-Err-clause-not_kept c = λ eleven g keeps. absurd (omega (arith, eleven, c.in-Err.ensures.most))

-- ---- no graph with such names is kept

pub returns-in-Err-NotNames-clause-end : goal.returns-in-Err-NotNames-clause-end
returns-in-Err-NotNames-clause-end c = silent _ _ _ _ _ _ (omega (arith, c.silent.ensures.status)) c.silent.ensures.sizes

pub returns-in-Err-NotNames-clause-called : goal.returns-in-Err-NotNames-clause-called
returns-in-Err-NotNames-clause-called c = λ small text kept. absurd (omega (arith, small, c.silent.ensures.status))

pub returns-in-Err-NotNames-clause-lacked : goal.returns-in-Err-NotNames-clause-lacked
returns-in-Err-NotNames-clause-lacked c = λ six text kept. absurd (omega (arith, six, c.silent.ensures.status))

pub returns-in-Err-NotNames-clause-never_cut_short : goal.returns-in-Err-NotNames-clause-never_cut_short
returns-in-Err-NotNames-clause-never_cut_short c = λ seven text kept. absurd (omega (arith, seven, c.silent.ensures.status))

pub returns-in-Err-NotNames-clause-kept : goal.returns-in-Err-NotNames-clause-kept
returns-in-Err-NotNames-clause-kept c = λ small. absurd (omega (arith, small, c.silent.ensures.status))

pub returns-in-Err-NotNames-clause-not_kept : goal.returns-in-Err-NotNames-clause-not_kept
returns-in-Err-NotNames-clause-not_kept c = λ eleven. c.in-Err-NotNames.ensures.refused (ap (λ f. Err f) c.in-Err-NotNames.field-0-is)

-- ---- memory was refused for the diagram

pub returns-clause-end : goal.returns-clause-end
returns-clause-end c = ended _ _ _ _ _ _ _ _ c.in-Ok.ensures.are_texts c.show_reply.ensures.known

pub returns-clause-called : goal.returns-clause-called
returns-clause-called c = λ small text kept.
    let bytes = c.args.arguments.now.bytes.now in
    let inputs = c.args.arguments.now.inputs.now in
    called (Some text) bytes c.args.arguments.now.words.now inputs _ _ _ _ _ _ c.bare.result.format c.bare.result.reply
    (texts bytes c.args.arguments.now.words.now)
    (λ name. content_named bytes inputs name) (λ name. is_none (place_named bytes inputs name)) (λ name. 0) (λ name. 0)
    (record {
      words_are = refl;
      kept_is = refl;
      held_is = λ name. refl;
      lacks_is = λ name. refl;
      none_failed = λ name. refl;
      fails_lacked = λ name there. refl;
    })
    (no_room commands lawful _ c.bare.result.reply c.bare.ensures) (λ answered. absurd (subst IsAnswered c.bare.ensures answered))
    c.show_reply.ensures.status c.show_reply.ensures.out c.show_reply.ensures.err

pub returns-clause-lacked : goal.returns-clause-lacked
returns-clause-lacked c = λ six text kept. lacks_input _ _ _ _ _ _ _ _ _ _
    (returns-clause-called c (omega (arith, six)) text kept) six

pub returns-clause-never_cut_short : goal.returns-clause-never_cut_short
returns-clause-never_cut_short c = λ seven text kept. never_cut_short _ _ _ _ _ _ _ _ _ _
    (returns-clause-called c (omega (arith, seven)) text kept) seven

pub returns-clause-kept : goal.returns-clause-kept
returns-clause-kept c = λ small.
    let eight : code_of c.bare.result.reply.outcome ≡ 8 = ap code_of c.bare.ensures in
    absurd (omega (arith, small, eight, c.show_reply.ensures.status))

-- ---- the words are answered

pub returns-in-Ok-diagram-clause-end : goal.returns-in-Ok-diagram-clause-end
returns-in-Ok-diagram-clause-end c = ended _ _ _ _ _ _ _ _ c.in-Ok.ensures.are_texts c.answer_words.ensures.known

pub returns-in-Ok-diagram-clause-called : goal.returns-in-Ok-diagram-clause-called
returns-in-Ok-diagram-clause-called c = λ small text kept.
    c.answer_words.ensures.called (Some text)
    (kept_holds text c.args.kept.now c.args.lines.now c.in-Ok-diagram.diagram.read kept c.in-Ok-diagram.ensures.keeps)
    (ap (map string_bytes) c.deref.ensures.value ∙ c.in-Ok.ensures.words)

pub returns-in-Ok-diagram-clause-lacked : goal.returns-in-Ok-diagram-clause-lacked
returns-in-Ok-diagram-clause-lacked c = λ six text kept. lacks_input _ _ _ _ _ _ _ _ _ _
    (returns-in-Ok-diagram-clause-called c (omega (arith, six)) text kept) six

pub returns-in-Ok-diagram-clause-never_cut_short : goal.returns-in-Ok-diagram-clause-never_cut_short
returns-in-Ok-diagram-clause-never_cut_short c = λ seven text kept. never_cut_short _ _ _ _ _ _ _ _ _ _
    (returns-in-Ok-diagram-clause-called c (omega (arith, seven)) text kept) seven

pub returns-in-Ok-diagram-clause-kept : goal.returns-in-Ok-diagram-clause-kept
returns-in-Ok-diagram-clause-kept c = λ small. (c.in-Ok-diagram.diagram.read, c.in-Ok-diagram.ensures.keeps)
