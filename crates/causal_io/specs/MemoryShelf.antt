-- What a shelf in memory holds, and which reads of it fail.
use Rattle.std.specs.Prelude.{◌≡◌, ℕ, Bool, List, Option, is_none, string_bytes, ◌&&◌, ◌==◌}
use Rattle.std.specs.List.{list_any}
use Rattle.std.specs.Option.{option_map, option_map_or}
use Rattle.std.specs.Str.{bytes_eq}
use Rattle.std.specs.BTreeMap.{get_by_text}
use Rattle.causal_io.specs.declared.faults.FaultCount.{FaultCount}
use Rattle.causal_io.specs.declared.memory.Text.{Text}
use Rattle.causal_io.specs.declared.memory.MemoryShelf.{MemoryShelf}

-- The text under a name.
abbrev pub text_of : MemoryShelf → List ℕ → Option Text
text_of shelf name = get_by_text shelf.texts name

-- The bytes under a name.
abbrev pub held_in : MemoryShelf → List ℕ → Option (List ℕ)
held_in shelf name = option_map (λ t. t.content.items) (text_of shelf name)

-- Whether nothing is held under a name.
abbrev pub lacks_in : MemoryShelf → List ℕ → Bool
lacks_in shelf name = is_none (text_of shelf name)

-- The count of failures of a text, and another count where there is none.
abbrev pub faults_or : FaultCount → Option Text → ℕ
faults_or lacked text = option_map_or (λ t. t.faults.times) text lacked.times

-- How often a read of a name has failed. The names that are lacked share one count.
abbrev pub faults_in : MemoryShelf → List ℕ → ℕ
faults_in shelf name = faults_or shelf.lacked (text_of shelf name)

-- How many reads there were of a name since it was put.
abbrev pub reads_in : MemoryShelf → List ℕ → ℕ
reads_in shelf name = option_map_or (λ t. t.reads) (text_of shelf name) 0

-- How many bytes of a name were given since it was put.
abbrev pub given_in : MemoryShelf → List ℕ → ℕ
given_in shelf name = option_map_or (λ t. t.given) (text_of shelf name) 0

-- Whether the read of a name with a number is to fail.
abbrev pub is_to_fail : MemoryShelf → List ℕ → ℕ → Bool
is_to_fail shelf name call = list_any (λ f. bytes_eq (string_bytes f.name) name && (f.call == call)) shelf.failing.items

-- Two shelves hold the same, with the same counts, and the same reads are to fail.
pub record IsUnchanged (old new : MemoryShelf) : Type 0 where
  pub held : (name : List ℕ) → held_in new name ≡ held_in old name
  pub faults : (name : List ℕ) → faults_in new name ≡ faults_in old name
  pub reads : (name : List ℕ) → reads_in new name ≡ reads_in old name
  pub failing : (name : List ℕ) (call : ℕ) → is_to_fail new name call ≡ is_to_fail old name call
