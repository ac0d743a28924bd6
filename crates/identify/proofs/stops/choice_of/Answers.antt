use Rattle.std.proofs.Common.{◌≡◌, ℕ, List, ◌≤◌, get_or, replicate, inl, inr, refl, arith}
use Rattle.std.proofs.lemmas.Bool.{cases_lt}
use Rattle.std.proofs.lemmas.List.{length-replicate, get_or-replicate, get_or_past}
use Rattle.identify.proofs.stops.choice_of.Goals as goal

none_yet : (k : ℕ) → get_or (replicate 64 64) k 0 ≤ 64
none_yet k = let none : List ℕ = replicate 64 64 in elim (cases_lt k 64) [
  | inl l ↦ let e : get_or none k 0 ≡ 64 = get_or-replicate {A = ℕ} 64 k 64 0 l in omega (arith, e)
  | inr ge ↦ let e : get_or none k 0 ≡ 0 = get_or_past none k 0 (simp length-replicate ge) in omega (arith, e)
]

pub loop-v-init : goal.loop-v-init
loop-v-init c = record { sized = refl; low = none_yet; made = λ k lt. absurd (omega (arith, lt)) }
