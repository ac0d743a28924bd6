-- The digits of a number in mixed radix.
use Rattle.std.specs.Prelude.{ℕ, zero, suc, ◌/◌, ◌%◌, Bool, if◌then◌else◌}
use Rattle.finite_models.specs.Vocabulary.{set_at}

-- the digits of the number i at the k below n with p k, digit k having the base b k and the first varying slowest; 0 at each other place
abbrev pub digits : ℕ → (ℕ → Bool) → (ℕ → ℕ) → ℕ → ℕ → ℕ
digits zero p b i = λ k. 0
digits (suc n) p b i = if p n then (set_at (digits n p b (i / b n)) n (i % b n)) else digits n p b i
