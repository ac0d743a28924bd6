use Rattle.std.proofs.Common.{subst, arith}
use Rattle.std.specs.Str.{IsUtf8}
use Rattle.std.proofs.lemmas.List.{take_all}
use Rattle.std.proofs.lemmas.List.Elements.{All-more}
use Rattle.std.proofs.lemmas.Grind.{common_steps}
use Rattle.caller_memory.specs.Parts.{part}
use Rattle.caller_memory.specs.Words.{AreTexts}
use Rattle.caller_memory.proofs.spans.words.words_in.Goals as goal

pub loop-span-preserved : goal.loop-span-preserved
loop-span-preserved c = (
  grind (arith, common_steps),
  All-more (λ s. IsUtf8 (part c.args.bytes.now s))
      c.args.spans.now c.loop-span.span-index _ c.loop-span-test.true c.loop-span.invariant.1 c.in-Ok.ensures.is_text,
)

pub returns-clause-are_texts : goal.returns-clause-are_texts
returns-clause-are_texts c =
    subst (AreTexts c.args.bytes.now) (take_all c.loop-span.span-index c.args.spans.now c.loop-span-test.false) c.loop-span.invariant.1
