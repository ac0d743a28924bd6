-- A number, read back.
use Rattle.std.proofs.Common.{◌≡◌, ℕ, zero, suc, ◌+◌, ◌-◌, ◌*◌, ◌/◌, ◌%◌, ◌^◌, ◌<◌, ◌≤◌, Bool, true, false, cond, eqb, ltb, leb, ◌&&◌, List, [], ◌∷◌}
use Rattle.std.proofs.Common.{◌++◌, length, get_or, take, drop, Ok, decimal, refl, sym, ap, subst, ◌∙◌, arith, ne_eqb, lit<}
use Rattle.std.specs.List.{prefix_len}
use Rattle.std.proofs.lemmas.Bool.{le-leb, lt-ltb}
use Rattle.std.proofs.lemmas.Fmt.{decimal_by_steps, first_decimal, length-decimal-le, decimal_digit}
use Rattle.std.proofs.lemmas.List.{take_at, drop_at, length-append}
use Rattle.answer_text.specs.Vocabulary.{is_white}
use Rattle.expr_text.specs.Bytes.{is_digit}
use Rattle.expr_text.specs.Read.{bad, number_of, is_number, number_in, number_at}
use Rattle.expr_text.proofs.Fronts.{Stops, all_pass, prefix_len-stops, other_byte, trim_here}

pub digit_is_not_white : (b : ℕ) → is_digit b ≡ true → is_white b ≡ false
digit_is_not_white b h =
    let e1 = other_byte is_digit b 32 h refl in
    let e2 = other_byte is_digit b 9 h refl in
    let e3 = other_byte is_digit b 13 h refl in
    let e4 = other_byte is_digit b 10 h refl in
    rw (e1, e2, e3, e4) refl

one_digit : (d : ℕ) → d < 10 → is_digit (48 + d) ≡ true
one_digit d h =
    let low : leb 48 (48 + d) ≡ true = le-leb 48 (48 + d) (omega arith) in
    let high : leb (48 + d) 57 ≡ true = le-leb (48 + d) 57 (omega arith) in
    rw (low, high) refl

all_and_one : (ds : List ℕ) (d : ℕ) → prefix_len is_digit ds ≡ length ds → is_digit d ≡ true → prefix_len is_digit (ds ++ d ∷ []) ≡ length (ds ++ d ∷ [])
all_and_one [] d h k = rw k refl
all_and_one (c ∷ ds) d h k =
    let both = all_pass is_digit c ds h in
    rw both.0 (omega (arith, all_and_one ds d both.1 k))

pub number_of-append : (n : ℕ) (ds : List ℕ) (d : ℕ) → number_of n (ds ++ d ∷ []) ≡ 10 * number_of n ds + (d - 48)
number_of-append n [] d = refl
number_of-append n (c ∷ ds) d = number_of-append (10 * n + (c - 48)) ds d

record IsDecimal (n : ℕ) (ds : List ℕ) : Type 0 where
  pub digits : prefix_len is_digit ds ≡ length ds
  pub value : number_of 0 ds ≡ n
  pub some : 0 < length ds

one_is : (n : ℕ) → n < 10 → IsDecimal n ((48 + n) ∷ [])
one_is n h = record { digits = all_and_one [] (48 + n) refl (one_digit n h); value = omega arith; some = omega arith }

more_is : (n : ℕ) (ds : List ℕ) → 10 ≤ n → IsDecimal (n / 10) ds → IsDecimal n (ds ++ (48 + n % 10) ∷ [])
more_is n ds h is = record {
  digits = all_and_one ds (48 + n % 10) is.digits (one_digit (n % 10) (omega arith));
  value = number_of-append 0 ds (48 + n % 10) ∙ ap (λ q. 10 * q + (48 + n % 10 - 48)) is.value ∙ omega arith;
  some = omega (arith, length-append ds ((48 + n % 10) ∷ []));
}

decimal_is : (n : ℕ) → n < 2 ^ 64 → IsDecimal n (decimal n)
decimal_is = decimal_by_steps IsDecimal one_is more_is

tail_is : (a b : ℕ) (xs ys : List ℕ) → a ∷ xs ≡ b ∷ ys → xs ≡ ys
tail_is a b xs ys e = cc

no_zero : (b c : Bool) → b ≡ false → (b && c) ≡ false
no_zero b c h = rw h refl

no_more : (b c : Bool) → c ≡ false → (b && c) ≡ false
no_more true c h = h
no_more false c h = refl

-- no zero stands before other digits
no_zero_first : (n d : ℕ) (ds : List ℕ) → n < 2 ^ 64 → decimal n ≡ d ∷ ds → (eqb d 48 && ltb 0 (length ds)) ≡ false
no_zero_first zero d ds h e =
    no_more (eqb d 48) (ltb 0 (length ds)) (ap (λ xs. ltb 0 (length xs)) (sym (tail_is (48 + 0) d [] ds (sym (decimal_digit 0 (omega arith)) ∙ e))))
no_zero_first (suc n) d ds h e =
    let first : 48 < d = let f = first_decimal (suc n) (omega arith) h in omega (arith, ap (λ xs. get_or xs 0 0) e, f) in
    no_zero (eqb d 48) (ltb 0 (length ds)) (ne_eqb d 48 (λ q. omega arith))

is_number_here : (n d : ℕ) (ds : List ℕ) → n < 2 ^ 32 → decimal n ≡ d ∷ ds → number_of 0 (d ∷ ds) ≡ n → is_number (d ∷ ds) ≡ true
is_number_here n d ds h e v =
    let small : n < 10 ^ 10 = omega arith in
    let wide : n < 2 ^ 64 = omega arith in
    let len : length (d ∷ ds) ≤ 10 = subst (λ xs. length xs ≤ 10) e (length-decimal-le 10 n (lit< tt) small wide) in
    let short : ltb (length ds) 10 ≡ true = lt-ltb (length ds) 10 (omega arith) in
    let zero_free = no_zero_first n d ds wide e in
    let fits : ltb (number_of 0 (d ∷ ds)) (2 ^ 32) ≡ true = lt-ltb (number_of 0 (d ∷ ds)) (2 ^ 32) (omega arith) in
    rw (short, zero_free, fits) refl

read_with : (n d : ℕ) (ds rest : List ℕ) → n < 2 ^ 32 → decimal n ≡ d ∷ ds → IsDecimal n (d ∷ ds) → Stops is_digit rest → number_at ((d ∷ ds) ++ rest)
    ≡ Ok (n, rest)
unfolding number_at
read_with n d ds rest h e is stops =
    let digit = (all_pass is_digit d ds is.digits).0 in
    let text = (d ∷ ds) ++ rest in
    let len = prefix_len-stops is_digit (d ∷ ds) rest is.digits stops in
    ap (λ t. number_in text (take (prefix_len is_digit t) t) (drop (prefix_len is_digit t) t)) (trim_here d (ds ++ rest) (digit_is_not_white d digit))
    ∙ ap (λ n. number_in text (take n text) (drop n text)) len
    ∙ ap (λ t. number_in text t (drop (length (d ∷ ds)) text)) (take_at (d ∷ ds) rest (length (d ∷ ds)) refl)
    ∙ ap (λ t. number_in text (d ∷ ds) t) (drop_at (d ∷ ds) rest (length (d ∷ ds)) refl)
    ∙ ap (λ b. cond b (Ok (number_of 0 (d ∷ ds), rest)) (bad text)) (is_number_here n d ds h e is.value)
    ∙ ap (λ v. Ok (v, rest)) is.value

by_cases : (n : ℕ) (ds rest : List ℕ) → n < 2 ^ 32 → decimal n ≡ ds → IsDecimal n ds → Stops is_digit rest → number_at (ds ++ rest) ≡ Ok (n, rest)
by_cases n [] rest h e is stops = absurd (omega (arith, is.some))
by_cases n (d ∷ ds) rest h e is stops = read_with n d ds rest h e is stops

pub number_is_read : (n : ℕ) (rest : List ℕ) → n < 2 ^ 32 → Stops is_digit rest → number_at (decimal n ++ rest) ≡ Ok (n, rest)
number_is_read n rest h stops = by_cases n (decimal n) rest h refl (decimal_is n (omega arith)) stops
