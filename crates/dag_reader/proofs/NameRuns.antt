-- A run of name bytes, byte by byte, with its digits.
use Rattle.std.proofs.Common.{◌≡◌, ◌<◌, ◌≤◌, ◌+◌, ◌*◌, ◌^◌, ℕ, zero, suc, Bool, true, false, List, [], ◌∷◌, length, drop, take, get_or, refl, sym, ap, subst}
use Rattle.std.proofs.Common.{◌∙◌, inl, inr, arith}
use Rattle.std.specs.List.{prefix_len}
use Rattle.std.proofs.lemmas.Bool.{cases_lt}
use Rattle.std.proofs.lemmas.List.{get_or-take, length-take-le}
use Rattle.std.proofs.lemmas.List.Elements.{All-from_get_or}
use Rattle.std.proofs.lemmas.List.Sums.{prefix_len-le-length}
use Rattle.std.proofs.Math.Nat.{pow-suc, pow-le-pow_right}
use Rattle.mixed_graph.specs.Vocabulary.{AreBytes, digits_on}

goes : (p : ℕ → Bool) (bytes : List ℕ) (i : ℕ) → i < length bytes → p (get_or bytes i 0) ≡ true → prefix_len p (drop i bytes)
    ≡ 1 + prefix_len p (drop (suc i) bytes)
goes p [] i below here = absurd (omega arith)
goes p (b ∷ bs) zero below here = rw here refl
goes p (b ∷ bs) (suc i) below here = goes p bs i (omega (arith, below)) here

stays : (p : ℕ → Bool) (bytes : List ℕ) (i : ℕ) → i < length bytes → p (get_or bytes i 0) ≡ false → prefix_len p (drop i bytes) ≡ 0
stays p [] i below out = absurd (omega arith)
stays p (b ∷ bs) zero below out = rw out refl
stays p (b ∷ bs) (suc i) below out = stays p bs i (omega (arith, below)) out

digits_more : (n : ℕ) (bytes : List ℕ) (i : ℕ) → i < length bytes → digits_on n (take (suc i) bytes) ≡ digits_on n (take i bytes) * 256 + get_or bytes i 0
digits_more n [] i below = absurd (omega arith)
digits_more n (b ∷ bs) zero below = refl
digits_more n (b ∷ bs) (suc i) below = digits_more (n * 256 + b) bs i (omega (arith, below))

-- i bytes at the front are of the class, and these are their digits
pub record IsRun (p : ℕ → Bool) (bytes : List ℕ) (digits i : ℕ) : Type 0 where
  pub run : prefix_len p bytes ≡ i + prefix_len p (drop i bytes)
  pub same : i ≤ 7 → digits ≡ digits_on 0 (take i bytes)
  pub low : i ≤ 7 → digits < 256 ^ i
  pub small : (k : ℕ) → k < i → get_or bytes k 0 < 256

pub run_begins : (p : ℕ → Bool) (bytes : List ℕ) → IsRun p bytes 0 0
run_begins p bytes = record { run = omega arith; same = λ h. refl; low = λ h. omega arith; small = λ k h. absurd (omega (arith, h)) }

below_seven : (i n : ℕ) → i + 1 ≤ 7 → n < 256 ^ i → n < 72057594037927936
below_seven i n few low = let p = pow-le-pow_right {n = 256} (omega arith) {i = i} {j = 7} (omega (arith, few)) in omega (arith, p, low)

-- and one more
pub run_more : (p : ℕ → Bool) (bytes : List ℕ) (digits more i : ℕ) → IsRun p bytes digits i → i < length bytes → p (get_or bytes i 0) ≡ true
    → get_or bytes i 0 < 256
    → (digits < 72057594037927936 → more ≡ digits * 256 + get_or bytes i 0) → IsRun p bytes more (suc i)
run_more p bytes digits more i r below here byte with = record {
  run = let e = goes p bytes i below here in let b = r.run in omega (arith, e, b);
  same = λ few.
      let low = r.low (omega (arith, few)) in
      with (below_seven i digits (omega (arith, few)) low)
      ∙ ap (λ n. n * 256 + get_or bytes i 0) (r.same (omega (arith, few)))
      ∙ sym (digits_more 0 bytes i below);
  low = λ few.
      let low = r.low (omega (arith, few)) in
      let is = with (below_seven i digits (omega (arith, few)) low) in
      let e = pow-suc 256 i in
      omega (arith, e, is, low, byte);
  small = λ k lt. elim (cases_lt k i) [
    | inl less ↦ r.small k less
    | inr top ↦
        let same : i ≡ k = omega (arith, lt, top) in
        subst (λ j. get_or bytes j 0 < 256) same byte
  ];
}

-- the bytes of the run
pub run_bytes : (p : ℕ → Bool) (bytes : List ℕ) (digits i : ℕ) → IsRun p bytes digits i → i ≤ length bytes → AreBytes (take i bytes)
run_bytes p bytes digits i r within = All-from_get_or (λ b. b < 256) (take i bytes) 0 (λ k lt.
    let long = length-take-le i bytes within in
    let inside : k < i = omega (arith, lt, long) in
    subst (λ b. b < 256) (sym (get_or-take i bytes k 0 inside)) (r.small k inside))

-- where it ends before another byte, and at the end of all
pub run_ends : (p : ℕ → Bool) (bytes : List ℕ) (digits i : ℕ) → IsRun p bytes digits i → i < length bytes → p (get_or bytes i 0) ≡ false → i ≡ prefix_len p bytes
run_ends p bytes digits i r below out = let e = stays p bytes i below out in let b = r.run in omega (arith, e, b)

none_left : (p : ℕ → Bool) (bytes : List ℕ) (i : ℕ) → length bytes ≤ i → prefix_len p (drop i bytes) ≡ 0
none_left p [] zero over = refl
none_left p [] (suc i) over = refl
none_left p (b ∷ bs) zero over = absurd (omega arith)
none_left p (b ∷ bs) (suc i) over = none_left p bs i (omega (arith, over))

-- where all bytes are of the class
pub run_whole : (p : ℕ → Bool) (bytes : List ℕ) (digits i : ℕ) → IsRun p bytes digits i → length bytes ≤ i → i ≡ length bytes
run_whole p bytes digits i r over =
    let e = none_left p bytes i over in let b = r.run in let most = prefix_len-le-length p bytes in omega (arith, e, b, most, over)

pub whole_run : (p : ℕ → Bool) (bytes : List ℕ) (digits i : ℕ) → IsRun p bytes digits i → length bytes ≤ i → length bytes ≡ prefix_len p bytes
whole_run p bytes digits i r over =
    let e = none_left p bytes i over in let b = r.run in let w = run_whole p bytes digits i r over in omega (arith, e, b, w)

pub whole_same : (p : ℕ → Bool) (bytes : List ℕ) (digits i : ℕ) → IsRun p bytes digits i → length bytes ≤ i → length bytes ≤ 7
    → digits ≡ digits_on 0 (take (length bytes) bytes)
whole_same p bytes digits i r over few =
    let w = run_whole p bytes digits i r over in
    r.same (omega (arith, w, few)) ∙ ap (λ k. digits_on 0 (take k bytes)) w

pub whole_bytes : (p : ℕ → Bool) (bytes : List ℕ) (digits i : ℕ) → IsRun p bytes digits i → length bytes ≤ i → AreBytes (take (length bytes) bytes)
whole_bytes p bytes digits i r over =
    let w = run_whole p bytes digits i r over in
    subst (λ k. AreBytes (take k bytes)) w (run_bytes p bytes digits i r (omega (arith, w)))
