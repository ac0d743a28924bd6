-- Tokens at the front of a text.
use Rattle.std.proofs.Common.{◌≡◌, ℕ, suc, ◌+◌, ◌<◌, Bool, true, false, cond, not, eqb, List, [], ◌∷◌, ◌++◌, length, take, drop, Option, Some, None}
use Rattle.std.proofs.Common.{refl, sym, ap, ◌∙◌, append_assoc, arith, ne_eqb}
use Rattle.std.proofs.lemmas.Bool.{false≢true}
use Rattle.std.specs.List.{prefix_len}
use Rattle.std.proofs.lemmas.List.{take_at, drop_at}
use Rattle.std.specs.List.{list_all}
use Rattle.mixed_graph.specs.Vocabulary.{is_line_byte}
use Rattle.answer_text.specs.Vocabulary.{is_white, is_plain_byte, is_bare, begins_with_arrow, is_plain, printed}
use Rattle.expr_text.specs.Read.{trim, raw_name, bare, quoted, closed}
use Rattle.expr_text.specs.Grammar.{EndsRun}
use Rattle.expr_text.proofs.Within.{and_true}
use Rattle.expr_text.proofs.Known.{IsKnown, whole_run}

pub not_true : (a : Bool) → not a ≡ true → a ≡ false
not_true true h = cc h
not_true false h = refl

-- the bytes at the front don't go on with what comes after
abbrev pub Stops : (ℕ → Bool) → List ℕ → Type 0
Stops p bytes = EndsRun p bytes

passes_front : (b : Bool) (n m : ℕ) → cond b (1 + n) 0 ≡ suc m → (b ≡ true) × (n ≡ m)
passes_front true n m h = (refl, omega arith)
passes_front false n m h = absurd (omega arith)

pub all_pass : (p : ℕ → Bool) (b : ℕ) (bytes : List ℕ) → prefix_len p (b ∷ bytes) ≡ length (b ∷ bytes) → (p b ≡ true) × (prefix_len p bytes ≡ length bytes)
all_pass p b bytes h = passes_front (p b) (prefix_len p bytes) (length bytes) (omega arith)

pub prefix_len-stops : (p : ℕ → Bool) (xs rest : List ℕ) → prefix_len p xs ≡ length xs → Stops p rest → prefix_len p (xs ++ rest) ≡ length xs
prefix_len-stops p [] [] h s = refl
prefix_len-stops p [] (b ∷ bytes) h s = rw s refl
prefix_len-stops p (x ∷ xs) rest h s =
    let both = all_pass p x xs h in
    rw both.0 (omega (arith, prefix_len-stops p xs rest both.1 s))

-- a byte of a class is no byte that the class hasn't
pub other_byte : (p : ℕ → Bool) (b c : ℕ) → p b ≡ true → p c ≡ false → eqb b c ≡ false
other_byte p b c h k = ne_eqb b c (λ e. false≢true (sym k ∙ sym (ap p e) ∙ h))

pub bare_is_not_white : (b : ℕ) → is_plain_byte b ≡ true → is_white b ≡ false
bare_is_not_white b h =
    let e1 = other_byte is_plain_byte b 32 h refl in
    let e2 = other_byte is_plain_byte b 9 h refl in
    let e3 = other_byte is_plain_byte b 13 h refl in
    let e4 = other_byte is_plain_byte b 10 h refl in
    rw (e1, e2, e3, e4) refl

pub trim_here : (b : ℕ) (bytes : List ℕ) → is_white b ≡ false → trim (b ∷ bytes) ≡ b ∷ bytes
unfolding trim
trim_here b bytes h = ap (λ t. drop (cond t (1 + prefix_len is_white bytes) 0) (b ∷ bytes)) h

third : {A : Type 0} (a b : Bool) (x y z : A) → a ≡ false → b ≡ false → cond a x (cond b y z) ≡ z
third a b x y z h k = rw (h, k) refl

bare_run : (bytes rest : List ℕ) (n : ℕ) → 0 < n → n ≡ length bytes → cond {A = Option (List ℕ × List ℕ)} (eqb n 0) None
    (Some (take n (bytes ++ rest), drop n (bytes ++ rest))) ≡ Some (bytes, rest)
bare_run bytes rest n lt e =
    ap (λ b. cond {A = Option (List ℕ × List ℕ)} b None (Some (take n (bytes ++ rest), drop n (bytes ++ rest)))) (ne_eqb n 0 (λ z. omega arith))
    ∙ ap (λ t. Some (t, drop n (bytes ++ rest))) (take_at bytes rest n (sym e))
    ∙ ap (λ t. Some (bytes, t)) (drop_at bytes rest n (sym e))

pub bare_is_read : (b : ℕ) (bytes rest : List ℕ) → eqb b 35 ≡ false → prefix_len is_plain_byte (b ∷ bytes) ≡ length (b ∷ bytes) → Stops is_plain_byte rest
    → raw_name (trim ((b ∷ bytes) ++ rest)) ≡ Some (b ∷ bytes, rest)
bare_is_read b bytes rest hash all stops =
    let plain = (all_pass is_plain_byte b bytes all).0 in
    let len = prefix_len-stops is_plain_byte (b ∷ bytes) rest all stops in
    ap raw_name (trim_here b (bytes ++ rest) (bare_is_not_white b plain))
    ∙ third (eqb b 34) (eqb b 35) (quoted (bytes ++ rest)) None (bare ((b ∷ bytes) ++ rest)) (other_byte is_plain_byte b 34 plain refl) hash
    ∙ bare_run (b ∷ bytes) rest (prefix_len is_plain_byte ((b ∷ bytes) ++ rest)) (omega (arith, len)) len

closed_here : (name rest : List ℕ) → 0 < length name → closed name (34 ∷ rest) ≡ Some (name, rest)
closed_here [] rest h = absurd (omega arith)
closed_here (c ∷ name) rest h = refl

pub quoted_is_read : (name rest : List ℕ) → IsKnown name → raw_name (trim ((34 ∷ (name ++ 34 ∷ [])) ++ rest)) ≡ Some (name, rest)
quoted_is_read name rest is =
    let same : name ++ 34 ∷ [] ++ rest ≡ name ++ (34 ∷ rest) = append_assoc name (34 ∷ []) rest in
    let len = prefix_len-stops is_line_byte name (34 ∷ rest) is.inner refl in
    ap raw_name (trim_here 34 ((name ++ 34 ∷ []) ++ rest) refl)
    ∙ ap quoted same
    ∙ ap (λ n. closed (take n (name ++ 34 ∷ rest)) (drop n (name ++ 34 ∷ rest))) len
    ∙ ap (λ t. closed t (drop (length name) (name ++ 34 ∷ rest))) (take_at name (34 ∷ rest) (length name) refl)
    ∙ ap (λ t. closed name t) (drop_at name (34 ∷ rest) (length name) refl)
    ∙ closed_here name rest is.some

by_plain : (name rest : List ℕ) (b : Bool) → is_plain name ≡ b → IsKnown name → Stops is_plain_byte rest
    → raw_name (trim (cond b name (34 ∷ (name ++ 34 ∷ [])) ++ rest)) ≡ Some (name, rest)
by_plain [] rest b e is stops = absurd (omega (arith, is.some))
by_plain (c ∷ name) rest true e is stops =
    let whole = and_true (is_bare (c ∷ name)) (not (begins_with_arrow (c ∷ name))) e in
    let both = and_true (list_all is_plain_byte (c ∷ name)) (not (eqb c 35)) whole.0 in
    bare_is_read c name rest (not_true (eqb c 35) both.1) (whole_run is_plain_byte (c ∷ name) both.0) stops
by_plain (c ∷ name) rest false e is stops = quoted_is_read (c ∷ name) rest is

pub raw_name_is_read : (name rest : List ℕ) → IsKnown name → Stops is_plain_byte rest → raw_name (trim (printed name ++ rest)) ≡ Some (name, rest)
raw_name_is_read name rest is stops = by_plain name rest (is_plain name) refl is stops
