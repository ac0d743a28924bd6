-- The place of a name among words, and a count at that place.
use Rattle.std.specs.Prelude.{ℕ, List, Option, position, slice_get, string_bytes, String}
use Rattle.std.specs.declared.alloc.Global.{Global}
use Rattle.std.specs.Option.{option_map_or, option_and_then}
use Rattle.std.specs.Str.{bytes_eq}
use Rattle.causal_io.specs.declared.faults.FaultCount.{FaultCount}

-- The place of a name among words.
abbrev pub word_place : List (String Global) → List ℕ → Option ℕ
word_place words name = position (λ w. bytes_eq (string_bytes w) name) words

-- The number of a count, and 0 for none.
abbrev pub times_of : Option FaultCount → ℕ
times_of count = option_map_or (λ c. c.times) count 0

-- The count at a place, and 0 at none.
abbrev pub count_at : List FaultCount → Option ℕ → ℕ
count_at counts place = times_of (option_and_then (slice_get counts) place)

-- The count of a name among words, each of which has a count.
abbrev pub faults_at : List (String Global) → List FaultCount → List ℕ → ℕ
faults_at words counts name = count_at counts (word_place words name)
