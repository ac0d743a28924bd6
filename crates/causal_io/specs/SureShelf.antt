-- What a shelf that never fails holds.
use Rattle.std.specs.Prelude.{ℕ, List, [], Option, Some, unwrap_or}
use Rattle.causal_io.specs.MemoryShelf.{held_in}
use Rattle.causal_io.specs.declared.sure.SureShelf.{SureShelf}

-- What the shelf in memory holds, and the empty text under every other name.
abbrev pub held_surely : SureShelf → List ℕ → Option (List ℕ)
held_surely s name = Some (unwrap_or (held_in s.shelf name) [])
