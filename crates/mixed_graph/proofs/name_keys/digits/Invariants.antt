use Rattle.std.proofs.Common.{ℕ, ◌≡◌, ◌<◌, ◌^◌, drop, get_or}
use Rattle.mixed_graph.specs.NameKeys.{digits_on}
use Rattle.mixed_graph.proofs.name_keys.digits.Given as goal

-- the number with the bytes to come is that of all, and what came are bytes
abbrev pub invariant-loop-byte : goal.invariant-loop-byte
invariant-loop-byte l = (digits_on l.number (drop l.byte-index l.name) ≡ digits_on 0 l.name) × (l.number < 256 ^ l.byte-index) × ((i : ℕ) → i < l.byte-index
    → get_or l.name i 0 < 256)
