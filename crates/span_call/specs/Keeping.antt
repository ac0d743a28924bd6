-- What a call that keeps a diagram gives.
use Rattle.std.specs.Prelude.{ℕ, List}
use Rattle.caller_memory.specs.declared.kept.kept.KeptDiagram.{KeptDiagram}
use Rattle.caller_memory.specs.Vocabulary.{KeepsText}
use Rattle.span_call.specs.Rooms.{ShowsText}

-- the text's diagram is kept with its names, of which the room shows the front, or all
pub record HasKept (text : List ℕ) (kept : KeptDiagram) (before room : List ℕ) (size : ℕ) : Type 0 where
  pub names : List ℕ
  pub is_kept : KeepsText text kept names
  pub shows : ShowsText names before room size
