use Rattle.std.proofs.Common.{◌≡◌, map, take}
use Rattle.std.specs.Prelude.{string_bytes}
use Rattle.caller_memory.specs.Words.{texts, AreTexts}
use Rattle.caller_memory.proofs.spans.words.words_in.Given as goal

abbrev pub invariant-loop-span : goal.invariant-loop-span
invariant-loop-span l = (map string_bytes l.words.items ≡ texts l.bytes (take l.span-index l.spans)) × AreTexts l.bytes (take l.span-index l.spans)
