-- The laws of counts, at each kind of shelf: lacked names share one, and each is a number of 64 bits.
use Rattle.std.specs.Prelude.{◌≡◌, ◌≤◌, ◌-◌, ◌^◌, ℕ, List, Option, Some, None, true, is_none, refl, slice_get, String}
use Rattle.std.specs.Option.{option_and_then}
use Rattle.std.specs.declared.alloc.Global.{Global}
use Rattle.std.proofs.Common.{lit≤}
use Rattle.std.proofs.lemmas.Bool.{false≢true}
use Rattle.causal_io.specs.declared.faults.FaultCount.{FaultCount}
use Rattle.causal_io.specs.declared.memory.Text.{Text}
use Rattle.causal_io.specs.declared.memory.MemoryShelf.{MemoryShelf}
use Rattle.causal_io.specs.MemoryShelf.{text_of, lacks_in, faults_or, faults_in}
use Rattle.causal_io.specs.Words.{word_place, times_of, faults_at}

-- Where there is no text, the other count is meant.
same_or : (lacked : FaultCount) (p q : Option Text) → is_none p ≡ true → is_none q ≡ true → faults_or lacked p ≡ faults_or lacked q
same_or lacked None None p q = refl
same_or lacked None (Some t) p q = absurd (false≢true q)
same_or lacked (Some t) r p q = absurd (false≢true p)

-- The names that a shelf in memory lacks share one count.
pub faults_shared : (s : MemoryShelf) (a b : List ℕ) → lacks_in s a ≡ true → lacks_in s b ≡ true → faults_in s a ≡ faults_in s b
faults_shared s a b p q = same_or s.lacked (text_of s a) (text_of s b) p q

-- The count of a text, or the other one, is a number of 64 bits.
capped_or : (lacked : FaultCount) (p : Option Text) → faults_or lacked p ≤ 2 ^ 64 - 1
capped_or lacked None = lacked.capped
capped_or lacked (Some t) = t.faults.capped

-- Each count of a shelf in memory is a number of 64 bits.
pub faults_capped : (s : MemoryShelf) (name : List ℕ) → faults_in s name ≤ 2 ^ 64 - 1
faults_capped s name = capped_or s.lacked (text_of s name)

-- A count, or 0 for none, is a number of 64 bits.
times_capped : (count : Option FaultCount) → times_of count ≤ 2 ^ 64 - 1
times_capped None = lit≤ tt
times_capped (Some c) = c.capped

-- Each count of words is a number of 64 bits.
pub faults_at_capped : (words : List (String Global)) (counts : List FaultCount) (name : List ℕ) → faults_at words counts name ≤ 2 ^ 64 - 1
faults_at_capped words counts name = times_capped (option_and_then (slice_get counts) (word_place words name))

-- A count that stays 0 is a number of 64 bits.
pub zero_capped : 0 ≤ 2 ^ 64 - 1
zero_capped = lit≤ tt
