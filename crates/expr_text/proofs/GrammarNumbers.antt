-- Numbers of the grammar, and how they are read.
use Rattle.std.proofs.Common.{◌≡◌, ℕ, ◌+◌, ◌-◌, ◌*◌, ◌/◌, ◌%◌, ◌^◌, ◌<◌, ◌≤◌, Bool, true, false, cond, not, eqb, ltb, leb, ◌&&◌, List, [], ◌∷◌, ◌++◌}
use Rattle.std.proofs.Common.{length, take, drop, Ok, decimal, refl, sym, ap, subst, ◌∙◌, arith}
use Rattle.std.specs.List.{prefix_len, list_all}
use Rattle.std.proofs.lemmas.Bool.{ltb-true, lt-ltb, leb-true, eqb-false}
use Rattle.std.proofs.lemmas.Fmt.{decimal_by_steps}
use Rattle.std.proofs.lemmas.List.{length-append, take-append-drop}
use Rattle.expr_text.specs.Bytes.{is_digit}
use Rattle.expr_text.specs.Read.{bad, trim, number_of, is_number, number_in, number_at}
use Rattle.expr_text.specs.Grammar.{EndsRun, Number}
use Rattle.expr_text.proofs.Within.{and_true}
use Rattle.expr_text.proofs.Fronts.{not_true}
use Rattle.expr_text.proofs.NumbersBack.{number_of-append, number_is_read}
use Rattle.expr_text.proofs.GrammarTokens.{run_passes, run_ends, token_at, trim_token, Both, ok_parts}

-- no digit, or a zero at the front of others
abbrev is_misled : List ℕ → Bool
is_misled [] = true
is_misled (d ∷ ds) = eqb d 48 && ltb 0 (length ds)

last_of : (d : ℕ) (ds : List ℕ) → (front : List ℕ) × (l : ℕ) × (d ∷ ds ≡ front ++ l ∷ [])
last_of d [] = ([], d, refl)
last_of d (e ∷ ds) = let s = last_of e ds in (d ∷ s.0, s.1, ap (λ t. d ∷ t) s.2)

all_parts : (p : ℕ → Bool) (xs : List ℕ) (l : ℕ) → list_all p (xs ++ l ∷ []) ≡ true → (list_all p xs ≡ true) × (p l ≡ true)
all_parts p [] l h = (refl, (and_true (p l) true h).0)
all_parts p (x ∷ xs) l h =
    let both = and_true (p x) (list_all p (xs ++ l ∷ [])) h in
    let rest = all_parts p xs l both.1 in
    (rw (both.0, rest.0) refl, rest.1)

at_least : (n : ℕ) (ds : List ℕ) → n ≤ number_of n ds
at_least n [] = omega arith
at_least n (d ∷ ds) = omega (arith, at_least (10 * n + (d - 48)) ds)

digit_bounds : (d : ℕ) → is_digit d ≡ true → (48 ≤ d) × (d ≤ 57)
digit_bounds d h = let p = and_true (leb 48 d) (leb d 57) h in (leb-true 48 d p.0, leb-true d 57 p.1)

not_zero : (b c : Bool) → (b && c) ≡ false → c ≡ true → b ≡ false
not_zero true c h k = absurd (let e = k in let f = h in cc)
not_zero false c h k = refl

-- the digits of n
abbrev AreDigits : ℕ → List ℕ → Type 0
AreDigits n ds = (xs : List ℕ) → list_all is_digit xs ≡ true → is_misled xs ≡ false → number_of 0 xs ≡ n → xs ≡ ds

abbrev EndedDigits : ℕ → List ℕ → Type 0
EndedDigits n ds = (front : List ℕ) (l : ℕ) → list_all is_digit (front ++ l ∷ []) ≡ true → is_misled (front ++ l ∷ []) ≡ false → number_of 0 (front ++ l ∷ [])
    ≡ n → front ++ l ∷ [] ≡ ds

from_ended : (n : ℕ) (ds : List ℕ) → EndedDigits n ds → AreDigits n ds
from_ended n ds ended [] all lead value = absurd cc
from_ended n ds ended (x ∷ xs) all lead value =
    let s = last_of x xs in
    s.2 ∙ ended s.0 s.1 (subst (λ t. list_all is_digit t ≡ true) s.2 all) (subst (λ t. is_misled t ≡ false) s.2 lead) (ap (number_of 0) (sym s.2) ∙ value)

-- where digits stand before the last, the first is no zero
lead_is : (f : ℕ) (fs : List ℕ) (l : ℕ) → is_misled (f ∷ (fs ++ l ∷ [])) ≡ false → eqb f 48 ≡ false
lead_is f fs l h =
    let some : ltb 0 (length (fs ++ l ∷ [])) ≡ true = lt-ltb 0 (length (fs ++ l ∷ [])) (omega (arith, length-append fs (l ∷ []))) in
    not_zero (eqb f 48) (ltb 0 (length (fs ++ l ∷ []))) h some

led : (f : ℕ) (fs : List ℕ) → eqb f 48 ≡ false → is_misled (f ∷ fs) ≡ false
led f fs h = rw h refl

some_value : (f : ℕ) (fs : List ℕ) → is_digit f ≡ true → eqb f 48 ≡ false → 1 ≤ number_of 0 (f ∷ fs)
some_value f fs digit h =
    let b = digit_bounds f digit in
    let ne = eqb-false f 48 h in
    omega (arith, at_least (10 * 0 + (f - 48)) fs, b.0, ne)

one_ended : (n : ℕ) → n < 10 → EndedDigits n ((48 + n) ∷ [])
one_ended n lt [] l all lead value =
    let b = digit_bounds l (and_true (is_digit l) true all).0 in
    let e : l ≡ 48 + n = omega (arith, b.0, value) in
    ap (λ d. d ∷ []) e
one_ended n lt (f ∷ fs) l all lead value =
    let parts = all_parts is_digit (f ∷ fs) l all in
    let h = lead_is f fs l lead in
    let v = some_value f fs (and_true (is_digit f) (list_all is_digit fs) parts.0).0 h in
    absurd (omega (arith, v, value, number_of-append 0 (f ∷ fs) l))

more_ended : (n : ℕ) (ds : List ℕ) → 10 ≤ n → AreDigits (n / 10) ds → EndedDigits n (ds ++ (48 + n % 10) ∷ [])
more_ended n ds le are [] l all lead value =
    let b = digit_bounds l (and_true (is_digit l) true all).0 in
    absurd (omega (arith, b.1, value, le))
more_ended n ds le are (f ∷ fs) l all lead value =
    let parts = all_parts is_digit (f ∷ fs) l all in
    let h = lead_is f fs l lead in
    let b = digit_bounds l parts.1 in
    let sum : 10 * number_of 0 (f ∷ fs) + (l - 48) ≡ n = sym (number_of-append 0 (f ∷ fs) l) ∙ value in
    let front : number_of 0 (f ∷ fs) ≡ n / 10 = omega (arith, sum, b.0, b.1) in
    let last : l ≡ 48 + n % 10 = omega (arith, sum, b.0, b.1) in
    ap (λ t. t ++ l ∷ []) (are (f ∷ fs) parts.0 (led f fs h) front) ∙ ap (λ d. ds ++ d ∷ []) last

are_digits : (n : ℕ) → n < 2 ^ 64 → AreDigits n (decimal n)
are_digits = decimal_by_steps AreDigits (λ n lt. from_ended n ((48 + n) ∷ []) (one_ended n lt))
    (λ n ds le are. from_ended n (ds ++ (48 + n % 10) ∷ []) (more_ended n ds le are))

number_parts : (ds : List ℕ) → is_number ds ≡ true → (is_misled ds ≡ false) × (number_of 0 ds < 2 ^ 32)
number_parts [] h = absurd cc
number_parts (d ∷ ds) h =
    let p = and_true (ltb (length ds) 10 && not (eqb d 48 && ltb 0 (length ds))) (ltb (number_of 0 (d ∷ ds)) (2 ^ 32)) h in
    let q = and_true (ltb (length ds) 10) (not (eqb d 48 && ltb 0 (length ds))) p.0 in
    (not_true (eqb d 48 && ltb 0 (length ds)) q.1, ltb-true (number_of 0 (d ∷ ds)) (2 ^ 32) p.1)

number_in_is : (bytes ds behind : List ℕ) (k : ℕ) (rest : List ℕ) → number_in bytes ds behind ≡ Ok (k, rest) → (is_number ds ≡ true) × (number_of 0 ds ≡ k)
    × (behind ≡ rest)
number_in_is bytes ds behind k rest h = go (is_number ds) refl h
  where
    go : (b : Bool) → is_number ds ≡ b → cond b (Both (number_of 0 ds) behind) (bad bytes) ≡ Both k rest → (is_number ds ≡ true) × (number_of 0 ds ≡ k)
        × (behind ≡ rest)
    go true e h = let p = ok_parts (number_of 0 ds) k behind rest h in (e, p.0, p.1)
    go false e h = absurd cc

pub number_front : (bytes : List ℕ) (k : ℕ) (rest : List ℕ) → number_at bytes ≡ Ok (k, rest) → Number k bytes rest
unfolding number_at
number_front bytes k rest h =
    let t = trim bytes in
    let n = prefix_len is_digit t in
    let p = number_in_is bytes (take n t) (drop n t) k rest h in
    let q = number_parts (take n t) p.0 in
    let fits : k < 2 ^ 32 = subst (λ v. v < 2 ^ 32) p.1 q.1 in
    let same : take n t ≡ decimal k = are_digits k (omega arith) (take n t) (run_passes is_digit t) q.0 p.1 in
    record {
      fits = fits;
      ends = subst (EndsRun is_digit) p.2 (run_ends is_digit t);
      digits = token_at (decimal k) bytes rest (sym (take-append-drop n t) ∙ ap (λ d. d ++ drop n t) same ∙ ap (λ r. decimal k ++ r) p.2);
    }

same_front : (bytes front : List ℕ) → trim bytes ≡ trim front → number_at bytes ≡ number_at front
unfolding number_at
same_front bytes front e = rw e refl

pub number_read : (bytes : List ℕ) (k : ℕ) (rest : List ℕ) → Number k bytes rest → number_at bytes ≡ Ok (k, rest)
number_read bytes k rest num = same_front bytes (decimal k ++ rest) (trim_token (decimal k) bytes rest num.digits) ∙ number_is_read k rest num.fits num.ends
