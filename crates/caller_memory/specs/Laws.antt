-- The laws of the counts of a shelf over spans.
use Rattle.std.specs.Prelude.{◌≡◌, ◌≤◌, ◌-◌, ◌^◌, ℕ, Bool, List, true, false, refl, if◌then◌else◌}
use Rattle.std.proofs.Common.{lit≤}
use Rattle.std.proofs.lemmas.Bool.{false≢true}
use Rattle.caller_memory.specs.declared.spans.shelf.SpanShelf.{SpanShelf}
use Rattle.caller_memory.specs.Held.{lacks_in, faults_in}

shared_or : (count : ℕ) (p q : Bool) → p ≡ true → q ≡ true → (if p then count else 0) ≡ (if q then count else 0)
shared_or count true true p q = refl
shared_or count true false p q = absurd (false≢true q)
shared_or count false q p r = absurd (false≢true p)

-- The names that a shelf lacks share one count.
pub faults_shared : (s : SpanShelf) (a b : List ℕ) → lacks_in s a ≡ true → lacks_in s b ≡ true → faults_in s a ≡ faults_in s b
faults_shared s a b p q = shared_or s.lacked (lacks_in s a) (lacks_in s b) p q

capped_or : (count : ℕ) (p : Bool) → count ≤ 2 ^ 64 - 1 → (if p then count else 0) ≤ 2 ^ 64 - 1
capped_or count true c = c
capped_or count false c = lit≤ tt

-- Each count is a number of 64 bits.
pub faults_capped : (s : SpanShelf) (name : List ℕ) → faults_in s name ≤ 2 ^ 64 - 1
faults_capped s name = capped_or s.lacked (lacks_in s name) s.capped
