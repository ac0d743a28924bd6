-- What a shelf over spans holds and lacks.
use Rattle.std.specs.Prelude.{ℕ, Bool, List, Option, is_none, if◌then◌else◌}
use Rattle.caller_memory.specs.Parts.{place_named, content_named}
use Rattle.caller_memory.specs.declared.spans.shelf.SpanShelf.{SpanShelf}

-- what a shelf holds under a name
abbrev pub held_in : SpanShelf → List ℕ → Option (List ℕ)
held_in s name = content_named s.bytes.now s.inputs.now name

-- whether a shelf lacks a name
abbrev pub lacks_in : SpanShelf → List ℕ → Bool
lacks_in s name = is_none (place_named s.bytes.now s.inputs.now name)

-- how often a read of a name has failed: of one that is held never
abbrev pub faults_in : SpanShelf → List ℕ → ℕ
faults_in s name = if lacks_in s name then s.lacked else 0
