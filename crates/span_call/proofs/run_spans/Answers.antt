use Rattle.std.proofs.Common.{None, ap, map, ◌∙◌, arith}
use Rattle.std.specs.Prelude.{string_bytes}
use Rattle.span_call.proofs.CallEnds.{ended}
use Rattle.span_call.proofs.Endings.{lacks_input, never_cut_short}
use Rattle.span_call.proofs.run_spans.Goals as goal

pub returns-in-Err-clause-end : goal.returns-in-Err-clause-end
returns-in-Err-clause-end c = c.in-Err.ensures.end c.args.out.now c.args.err.now

pub returns-in-Err-clause-called : goal.returns-in-Err-clause-called
returns-in-Err-clause-called c = λ small. absurd (omega (arith, small, c.in-Err.ensures.least))

pub returns-in-Err-clause-lacked : goal.returns-in-Err-clause-lacked
returns-in-Err-clause-lacked c = λ six. absurd (omega (arith, six, c.in-Err.ensures.least))

pub returns-in-Err-clause-never_cut_short : goal.returns-in-Err-clause-never_cut_short
returns-in-Err-clause-never_cut_short c = λ seven. absurd (omega (arith, seven, c.in-Err.ensures.least))

pub returns-in-Ok-clause-end : goal.returns-in-Ok-clause-end
returns-in-Ok-clause-end c = ended _ _ _ _ _ _ _ _ c.in-Ok.ensures.are_texts c.answer_words.ensures.known

pub returns-in-Ok-clause-called : goal.returns-in-Ok-clause-called
returns-in-Ok-clause-called c = λ small. c.answer_words.ensures.called None tt (ap (map string_bytes) c.deref.ensures.value ∙ c.in-Ok.ensures.words)

pub returns-in-Ok-clause-lacked : goal.returns-in-Ok-clause-lacked
returns-in-Ok-clause-lacked c = lacks_input _ _ _ _ _ _ _ _ _ _
    (c.answer_words.ensures.called None tt (ap (map string_bytes) c.deref.ensures.value ∙ c.in-Ok.ensures.words))

pub returns-in-Ok-clause-never_cut_short : goal.returns-in-Ok-clause-never_cut_short
returns-in-Ok-clause-never_cut_short c = never_cut_short _ _ _ _ _ _ _ _ _ _
    (c.answer_words.ensures.called None tt (ap (map string_bytes) c.deref.ensures.value ∙ c.in-Ok.ensures.words))
