-- The counts of failed reads of a shelf over spans.
use Rattle.std.proofs.Common.{◌≡◌, ℕ, Bool, true, false, refl, ap}
use Rattle.std.specs.Prelude.{if◌then◌else◌}

pub zero_or : (b : Bool) (count : ℕ) → count ≡ 0 → (if b then count else 0) ≡ 0
zero_or true count p = p
zero_or false count p = refl

pub unless : (b : Bool) (count : ℕ) → b ≡ false → (if b then count else 0) ≡ 0
unless b count p = ap (λ x. if x then count else 0) p
