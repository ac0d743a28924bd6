-- What `parse` gives on digits.
use Rattle.std.proofs.Common.{◌≡◌, ◌<◌, ◌≤◌, ◌^◌, ℕ, true, List, length, Result, Ok, Err, arith}
use Rattle.std.specs.Str.{all_ascii_digits}
use Rattle.std.specs.Str.Parse.{digits_value, ParsesUnsigned}
use Rattle.std.specs.Result.{OkIff}
use Rattle.std.proofs.lemmas.Str.Parse.{IsNumeralModel, numerals_by_value, tells_all_ascii_digits, parse_digits}

own : IsNumeralModel (λ ds. all_ascii_digits ds ≡ true) (digits_value 10)
own = numerals_by_value (λ ds. all_ascii_digits ds ≡ true) tells_all_ascii_digits

pub parsed : {E : Type 0} (text : List ℕ) (r : Result ℕ E) → ParsesUnsigned 64 10 text r → all_ascii_digits text ≡ true
    → OkIff r ((0 < length text) × (digits_value 10 text < 2 ^ 64)) (digits_value 10 text)
parsed text r h d = parse_digits own 64 text r h d

at_least : (d : ℕ) → (d < 2 ^ 64 → ⊥) → 2 ^ 64 ≤ d
at_least d h = omega (arith, h)

pub too_wide : {E : Type 0} (text : List ℕ) (r : Result ℕ E) (x : E) → r ≡ Err x → ParsesUnsigned 64 10 text r → all_ascii_digits text ≡ true
    → 0 < length text → 2 ^ 64 ≤ digits_value 10 text
too_wide text (Ok n) x e h d some = cc e
too_wide text (Err y) x e h d some = let k = parsed text (Err y) h d in at_least (digits_value 10 text) (λ lt. k (some, lt))
