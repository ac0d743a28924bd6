-- The digits of the fraction part.
use Rattle.std.proofs.Common.{ℕ, ◌≡◌, ◌+◌, ◌-◌, ◌^◌, ◌<◌, ◌/◌, ◌%◌, [], ◌∷◌, ◌++◌, length, replicate, false, ap, ◌∙◌, sym, append_assoc, arith, append-nil}
use Rattle.std.specs.Fmt.{padded_integral, format_spec, decimal, char_count}
use Rattle.std.proofs.lemmas.Fmt.{length-decimal-le_wide}
use Rattle.std.proofs.lemmas.List.{length-append, length-replicate}
use Rattle.quantity.specs.Texts.{eighteen_digits, units_text}

-- what a hole `{:018}` writes
pub zeros_before : (n : ℕ) → padded_integral (format_spec 32 0 4 18 (2 ^ 64 - 1)) false [] (decimal n) ≡ eighteen_digits n
unfolding padded_integral char_count
zeros_before n =
    ap (λ k. replicate k 48 ++ (decimal n ++ [])) (let r : 18 - length (decimal n) - 0 - 0 ≡ 18 - length (decimal n) = omega arith in r)
    ∙ ap (λ xs. replicate (18 - length (decimal n)) 48 ++ xs) (append-nil (decimal n))

-- the whole part and the fraction part, as the code writes them
pub units_written : (n : ℕ) → decimal (n / 10 ^ 18) ++ 46 ∷ padded_integral (format_spec 32 0 4 18 (2 ^ 64 - 1)) false [] (decimal (n % 10 ^ 18)) ≡ units_text n
units_written n = ap (λ xs. decimal (n / 10 ^ 18) ++ 46 ∷ xs) (zeros_before (n % 10 ^ 18))
    ∙ sym (append_assoc (decimal (n / 10 ^ 18)) (46 ∷ []) (eighteen_digits (n % 10 ^ 18)))

pub length-eighteen_digits : (n : ℕ) → n < 10 ^ 18 → length (eighteen_digits n) ≡ 18
length-eighteen_digits n lt =
    let short = length-decimal-le_wide 18 n (omega arith) lt (omega arith) in
    length-append (replicate (18 - length (decimal n)) 48) (decimal n) ∙ ap (λ k. k + length (decimal n)) (length-replicate (18 - length (decimal n)) 48)
    ∙ omega arith
