-- Words and inputs that stand in one run of bytes.
use Rattle.std.specs.Prelude.{ℕ, ◌-◌, List, Option, take, drop, position, slice_get}
use Rattle.std.specs.Option.{option_map, option_and_then}
use Rattle.std.specs.Str.{bytes_eq}
use Rattle.caller_memory.specs.declared.spans.Span.{Span}
use Rattle.caller_memory.specs.declared.spans.Input.{Input}

-- the bytes from one place up to another; none where the second is not behind the first
abbrev pub part : List ℕ → Span → List ℕ
part bytes s = take (s.end - s.start) (drop s.start bytes)

-- the place of the first input of a name
abbrev pub place_named : List ℕ → List Input → List ℕ → Option ℕ
place_named bytes inputs name = position (λ i. bytes_eq (part bytes i.name) name) inputs

-- what the input at a place holds
abbrev pub content_at : List ℕ → List Input → Option ℕ → Option (List ℕ)
content_at bytes inputs place = option_map (λ i. part bytes i.content) (option_and_then (slice_get inputs) place)

-- what stands under a name
abbrev pub content_named : List ℕ → List Input → List ℕ → Option (List ℕ)
content_named bytes inputs name = content_at bytes inputs (place_named bytes inputs name)
