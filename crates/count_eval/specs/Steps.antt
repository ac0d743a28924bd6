-- Running through levels, with what there is so far.
use Rattle.std.specs.Prelude.{ℕ, zero, suc, Bool, if◌then◌else◌, Option, Some, None, Result, Ok}
use Rattle.finite_models.specs.Vocabulary.{set_at}
use Rattle.quantity.specs.declared.fault.QuantityFault.{QuantityFault}
use Rattle.quantity.specs.Kinds.{Pair}
use Rattle.count_eval.specs.Stops.{Stop, after, placed}

-- what there is so far, joined with one more
abbrev pub joined : (Pair → Pair → Result Pair QuantityFault) → Option ℕ → ℕ → (ℕ → ℕ) → Option Pair → Pair → Result (Option Pair) Stop
joined op d i s None c = Ok (Some c)
joined op d i s (Some a) c = after (placed d i s (op a c)) (λ r. Ok (Some r))

-- what there is so far, joined with an outcome
abbrev pub one_more : (Pair → Pair → Result Pair QuantityFault) → Option ℕ → ℕ → (ℕ → ℕ) → Result Pair Stop → Option Pair → Result (Option Pair) Stop
one_more op d i s r so_far = after r (joined op d i s so_far)

-- f at the levels 0 .. n - 1, in order
abbrev pub each_level : ℕ → (ℕ → Option Pair → Result (Option Pair) Stop) → Option Pair → Result (Option Pair) Stop
each_level zero f so_far = Ok so_far
each_level (suc n) f so_far = after (each_level n f so_far) (f n)

-- f at all cells that differ from s at most in the k vertices from v on that are in U, the lowest vertex slowest
abbrev pub each_cell : (ℕ → Bool) → (ℕ → ℕ) → ℕ → ℕ → ((ℕ → ℕ) → Option Pair → Result (Option Pair) Stop) → (ℕ → ℕ) → Option Pair → Result (Option Pair) Stop
each_cell U size zero v f s so_far = f s so_far
each_cell U size (suc k) v f s so_far =
    if U v then (each_level (size v) (λ x. each_cell U size k (suc v) f (set_at s v x)) so_far) else each_cell U size k (suc v) f s so_far

-- an empty sum or product has that value
abbrev pub whole : Pair → Option Pair → Result Pair Stop
whole empty None = Ok empty
whole empty (Some c) = Ok c
