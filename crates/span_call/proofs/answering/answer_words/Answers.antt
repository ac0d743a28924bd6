use Rattle.std.proofs.Common.{ap, ap₂, is_none, refl, ◌∙◌}
use Rattle.caller_memory.specs.Vocabulary.{place_named, content_named, lacks_in}
use Rattle.span_call.proofs.Calling.{called}
use Rattle.span_call.proofs.Counts.{zero_or, unless}
use Rattle.span_call.proofs.answering.answer_words.Goals as goal

pub returns-clause-called : goal.returns-clause-called
returns-clause-called c = λ kept is words.
    called kept _ _ _ _ _ _ _ _ _ c.reply_to-ready.result.format c.reply_to-ready.result.reply _ _ _ _ _
    (record {
      words_are = words;
      kept_is = refl;
      held_is = λ name. ap₂ (λ b i. content_named b i name) c.of-shelf.ensures.bytes c.of-shelf.ensures.inputs;
      lacks_is = λ name. ap₂ (λ b i. is_none (place_named b i name)) c.of-shelf.ensures.bytes c.of-shelf.ensures.inputs;
      none_failed = λ name. zero_or (lacks_in c.of-shelf.result name) c.of-shelf.result.lacked c.of-shelf.ensures.faults;
      fails_lacked = λ name there. unless (lacks_in c.reply_to-ready.new.shelf name) c.reply_to-ready.new.shelf.lacked
          (ap (λ f. f name) c.reply_to-ready.ensures.stays.lack ∙ there);
    })
    (c.reply_to-ready.ensures.replies kept is _) c.reply_to-ready.ensures.format c.show_reply.ensures.status c.show_reply.ensures.out c.show_reply.ensures.err
