-- Cuts of a text at runs of a class are texts, and runs of name bytes are names.
use Rattle.std.proofs.Common.{◌≡◌, ◌<◌, ◌≤◌, ◌+◌, ◌-◌, ℕ, zero, suc, Bool, true, false, List, [], ◌∷◌, length, drop, take, get_or, refl, sym, ap}
use Rattle.std.proofs.Common.{subst, ◌∙◌, arith, one-add}
use Rattle.std.specs.Prelude.{cond, ◌==◌, ◌||◌, ◌&&◌, not}
use Rattle.std.specs.List.{prefix_len, list_all}
use Rattle.std.specs.Str.{is_utf8, IsCharBoundary}
use Rattle.std.proofs.lemmas.Str.{IsUtf8-nil, IsUtf8-drop, IsUtf8-take, IsUtf8-from_is_utf8, is_utf8-from_IsUtf8, IsCharBoundary-after_ascii}
use Rattle.std.proofs.lemmas.Bool.Decides.{nat_tests}
use Rattle.std.proofs.lemmas.List.{take_rest}
use Rattle.std.proofs.lemmas.List.Sums.{prefix_len_passes, prefix_len_stops, prefix_len-le-length}
use Rattle.mixed_graph.specs.Vocabulary.{IsName, is_line_byte}
use Rattle.dag_reader.specs.declared.tokens.Class.{Class}
use Rattle.dag_reader.specs.declared.tokens.Class.TheVariants as classes
use Rattle.answer_text.specs.Vocabulary.{is_white, is_edge_byte, is_sign, is_name_byte}
use Rattle.dag_reader.specs.Bytes.{in_class, is_run_byte}
use Rattle.dag_reader.specs.Tokens.{past_white}

taken_step : (p : ℕ → Bool) (x : ℕ) (k : ℕ) (xs : List ℕ) (b : Bool) → p x ≡ b → list_all p (take k xs) ≡ true → list_all p (take (cond b (1 + k) 0) (x ∷ xs))
    ≡ true
taken_step p x k xs true h rest = rw (one-add, h) rest
taken_step p x k xs false h rest = refl

-- each byte of a run is in the class
pub taken_pass : (p : ℕ → Bool) (xs : List ℕ) → list_all p (take (prefix_len p xs) xs) ≡ true
taken_pass p [] = refl
taken_pass p (x ∷ xs) = taken_step p x (prefix_len p xs) xs (p x) refl (taken_pass p xs)

abbrev TwoTexts : List ℕ → ℕ → Type 0
TwoTexts bs n = (is_utf8 (take n bs) ≡ true) × (is_utf8 (drop n bs) ≡ true)

cut_at : (bs : List ℕ) (n : ℕ) → is_utf8 bs ≡ true → IsCharBoundary bs n → TwoTexts bs n
cut_at bs n utf8 cut =
    let text = IsUtf8-from_is_utf8 bs utf8 in
    (is_utf8-from_IsUtf8 (take n bs) (IsUtf8-take bs n text cut), is_utf8-from_IsUtf8 (drop n bs) (IsUtf8-drop bs n text cut))

-- at the end of a run to which every byte from 128 on belongs
cut_high : (p : ℕ → Bool) (bs : List ℕ) → ((b : ℕ) → 128 ≤ b → p b ≡ true) → is_utf8 bs ≡ true → TwoTexts bs (prefix_len p bs)
cut_high p bs high utf8 =
    cut_at bs (prefix_len p bs) utf8 (prefix_len-le-length p bs, λ below above. cc (high (get_or bs (prefix_len p bs) 0) above, prefix_len_stops p bs 0 below))

-- and of a run of bytes below 128
cut_low : (p : ℕ → Bool) (bs : List ℕ) (n : ℕ) → ((b : ℕ) → p b ≡ true → b < 128) → is_utf8 bs ≡ true → n ≡ prefix_len p bs → TwoTexts bs n
cut_low p bs zero low utf8 is = (is_utf8-from_IsUtf8 [] IsUtf8-nil, utf8)
cut_low p bs (suc n) low utf8 is =
    let within = prefix_len-le-length p bs in
    let e : n + 1 ≡ suc n = omega arith in
    subst (TwoTexts bs) e
    (cut_at bs (n + 1) utf8 (IsCharBoundary-after_ascii bs n (IsUtf8-from_is_utf8 bs utf8) (omega arith)
    (low (get_or bs n 0) (prefix_len_passes p bs n 0 (omega arith)))))

pub white_low : (b : ℕ) → is_white b ≡ true → b < 128
white_low b h = grind (arith, nat_tests)

edge_low : (b : ℕ) → is_edge_byte b ≡ true → b < 128
edge_low b h = grind (arith, nat_tests)

name_high : (b : ℕ) → 128 ≤ b → is_name_byte b ≡ true
name_high b h = grind (arith, nat_tests)

line_high : (b : ℕ) → 128 ≤ b → is_line_byte b ≡ true
line_high b h = grind (arith, nat_tests)

run_high : (b : ℕ) → 128 ≤ b → is_run_byte b ≡ true
run_high b h = grind (arith, nat_tests)

-- A text is cut into two at the end of the run at its front.
pub run_cut : (c : Class) (bs : List ℕ) → is_utf8 bs ≡ true → TwoTexts bs (prefix_len (in_class c) bs)
run_cut classes.Edge bs utf8 = cut_low is_edge_byte bs (prefix_len is_edge_byte bs) edge_low utf8 refl
run_cut classes.Name bs utf8 = cut_high is_name_byte bs name_high utf8
run_cut classes.Line bs utf8 = cut_high is_line_byte bs line_high utf8
run_cut classes.Run bs utf8 = cut_high is_run_byte bs run_high utf8

-- and behind a first byte below 128
pub behind_first : (bs : List ℕ) → is_utf8 bs ≡ true → 1 ≤ length bs → get_or bs 0 0 < 128 → is_utf8 (take (length bs - 1) (drop 1 bs)) ≡ true
behind_first bs utf8 some low =
    subst (λ (l : List ℕ). is_utf8 l ≡ true) (sym (take_rest bs 1))
    (cut_at bs (0 + 1) utf8 (IsCharBoundary-after_ascii bs 0 (IsUtf8-from_is_utf8 bs utf8) (omega arith) low)).1

-- the bytes behind a byte below 128 are a text
pub behind_byte : (b : ℕ) (bs : List ℕ) → b < 128 → is_utf8 (b ∷ bs) ≡ true → is_utf8 bs ≡ true
behind_byte b bs low utf8 = (cut_at (b ∷ bs) (0 + 1) utf8 (IsCharBoundary-after_ascii (b ∷ bs) 0 (IsUtf8-from_is_utf8 (b ∷ bs) utf8) (omega arith) low)).1

-- ---- names

line_byte : (w e s q r n : Bool) → not (w || e || s || q) ≡ true → (w ≡ false → (r ≡ false) × (n ≡ false)) → not (q || r || n) ≡ true
line_byte true e s q r n h f = cc h
line_byte false true s q r n h f = cc h
line_byte false false true q r n h f = cc h
line_byte false false false true r n h f = cc h
line_byte false false false false r n h f = let k = f refl in rw (k.0, k.1) refl

no_breaks : (a b c d : Bool) → (a || b || c || d) ≡ false → (c ≡ false) × (d ≡ false)
no_breaks true b c d h = cc h
no_breaks false true c d h = cc h
no_breaks false false true d h = cc h
no_breaks false false false d h = (refl, h)

name_is_line : (b : ℕ) → is_name_byte b ≡ true → is_line_byte b ≡ true
name_is_line b h = line_byte (is_white b) (is_edge_byte b) (is_sign b) (b == 34) (b == 13) (b == 10) h (λ w. no_breaks (b == 32) (b == 9) (b == 13) (b == 10) w)

both_true : (a b : Bool) → (a && b) ≡ true → (a ≡ true) × (b ≡ true)
both_true true b h = (refl, h)
both_true false b h = cc h

pub names_are_lines : (xs : List ℕ) → list_all is_name_byte xs ≡ true → list_all is_line_byte xs ≡ true
names_are_lines [] h = refl
names_are_lines (x ∷ xs) h =
    let both = both_true (is_name_byte x) (list_all is_name_byte xs) h in
    rw (name_is_line x both.0, names_are_lines xs both.1) refl

cut_front : (c : Bool) (k b : ℕ) (bs : List ℕ) → c ≡ true → 0 < length (take (cond c (1 + k) 0) (b ∷ bs))
cut_front true k b bs h = rw one-add (omega arith)
cut_front false k b bs h = cc h

-- A run of name bytes is a name.
pub run_is_name : (bytes rest run : List ℕ) (b : ℕ) (first : Bool) → bytes ≡ b ∷ rest → first ≡ is_name_byte b → first ≡ true
    → run ≡ take (prefix_len is_name_byte bytes) bytes → list_all is_name_byte run ≡ true → is_utf8 run ≡ true → IsName run
run_is_name bytes rest run b first front test here is passes utf8 = record {
  utf8 = utf8;
  some = subst (λ (l : List ℕ). 0 < length l) (sym (is ∙ ap (λ (l : List ℕ). take (prefix_len is_name_byte l) l) front))
      (cut_front (is_name_byte b) (prefix_len is_name_byte rest) b rest (sym test ∙ here));
  line = names_are_lines run passes;
}

-- ---- one byte more of a run

pub length-behind : (bytes : List ℕ) → 1 ≤ length bytes → 1 + length (take (length bytes - 1) (drop 1 bytes)) ≡ length bytes
length-behind [] some = absurd (omega arith)
length-behind (b ∷ bs) some = let e = ap (λ (l : List ℕ). length l) (take_rest (b ∷ bs) 1) in omega (arith, e)

pub run_stays : (p : ℕ → Bool) (bytes : List ℕ) → 1 ≤ length bytes → p (get_or bytes 0 0) ≡ false → prefix_len p bytes ≡ 0
run_stays p [] some out = absurd (omega arith)
run_stays p (b ∷ bs) some out = rw out refl

pub run_goes : (p : ℕ → Bool) (bytes : List ℕ) → 1 ≤ length bytes → p (get_or bytes 0 0) ≡ true
    → prefix_len p bytes ≡ 1 + prefix_len p (take (length bytes - 1) (drop 1 bytes))
run_goes p [] some here = absurd (omega arith)
run_goes p (b ∷ bs) some here = rw here (ap (λ l. 1 + prefix_len p l) (sym (take_rest (b ∷ bs) 1)))

pub white_stays : (bytes : List ℕ) → 1 ≤ length bytes → is_white (get_or bytes 0 0) ≡ false → past_white bytes ≡ bytes
white_stays bytes some out = ap (λ n. drop n bytes) (run_stays is_white bytes some out)

pub white_none : (bytes : List ℕ) → length bytes < 1 → past_white bytes ≡ bytes
white_none [] h = refl
white_none (b ∷ bs) h = absurd (omega (arith, h))

pub white_goes : (bytes : List ℕ) → 1 ≤ length bytes → is_white (get_or bytes 0 0) ≡ true
    → past_white (take (length bytes - 1) (drop 1 bytes)) ≡ past_white bytes
white_goes [] some here = absurd (omega arith)
white_goes (b ∷ bs) some here = ap past_white (take_rest (b ∷ bs) 1) ∙ sym (rw (here, one-add) refl)
