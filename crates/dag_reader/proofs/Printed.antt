-- A printed name is read back as that name, whatever follows it.
use Rattle.std.proofs.Common.{◌≡◌, ℕ, Bool, true, false, List, [], ◌∷◌, ◌++◌, length, drop, Some, refl, sym, ap, ◌∙◌, arith, append_assoc}
use Rattle.std.proofs.lemmas.Bool.Decides.{nat_tests}
use Rattle.std.specs.Prelude.{if◌then◌else◌, ◌==◌, ◌||◌, ◌&&◌, not, cond}
use Rattle.std.specs.List.{prefix_len, list_all}
use Rattle.std.proofs.Math.Seq.{take-append_seam, drop-append_seam}
use Rattle.answer_text.specs.Vocabulary.{is_white, is_edge_byte, is_sign, is_name_byte, is_plain_byte, is_bare, begins_with_arrow, is_plain, printed}
use Rattle.mixed_graph.specs.Vocabulary.{is_line_byte, IsName}
use Rattle.dag_reader.specs.declared.tokens.Due.TheVariants as dues
use Rattle.dag_reader.specs.Tokens.{Tok, name, name_token, first, token_of, token_at, run_at, quoted_name, quoted_text, sign_token}

or_false : (a b : Bool) → (a || b) ≡ false → (a ≡ false) × (b ≡ false)
or_false true b h = cc h
or_false false b h = (refl, h)

and_true : (a b : Bool) → (a && b) ≡ true → (a ≡ true) × (b ≡ true)
and_true true b h = (refl, h)
and_true false b h = cc h

pub not_true : (a : Bool) → not a ≡ true → a ≡ false
not_true true h = cc h
not_true false h = refl

-- the bytes at the front don't go on with what comes after
abbrev pub Stops : (ℕ → Bool) → List ℕ → Type 0
Stops p [] = Unit {0}
Stops p (b ∷ bs) = p b ≡ false

pub prefix_len-stops : (p : ℕ → Bool) (xs rest : List ℕ) → list_all p xs ≡ true → Stops p rest → prefix_len p (xs ++ rest) ≡ length xs
prefix_len-stops p [] [] h s = refl
prefix_len-stops p [] (b ∷ bs) h s = rw s refl
prefix_len-stops p (x ∷ xs) rest h s =
    let both = and_true (p x) (list_all p xs) h in
    rw both.0 (omega (arith, prefix_len-stops p xs rest both.1 s))

no_run : (p : ℕ → Bool) (b : ℕ) (bs : List ℕ) → p b ≡ false → prefix_len p (b ∷ bs) ≡ 0
no_run p b bs h = rw h refl

-- no white space is left out
pub first_here : (b : ℕ) (bs : List ℕ) → is_white b ≡ false → first dues.Token (b ∷ bs) ≡ token_at b bs
unfolding first
first_here b bs h = ap (λ (n : ℕ). token_of dues.Token (drop n (b ∷ bs))) (no_run is_white b bs h)

pub run_is : (p : ℕ → Bool) (token : List ℕ → Tok) (xs rest : List ℕ) → list_all p xs ≡ true → Stops p rest → run_at p token (xs ++ rest) ≡ (token xs, rest)
run_is p token xs rest h s = rw (prefix_len-stops p xs rest h s, take-append_seam, drop-append_seam) refl

third : {A : Type 0} (a b c : Bool) (v w x o : A) → a ≡ false → b ≡ false → c ≡ true → cond a v (cond b w (cond c x o)) ≡ x
third a b c v w x o ha hb hc = rw (ha, hb, hc) refl

-- a bare name, where it neither looks like a comment nor begins with an arrow
pub bare_first : (b : ℕ) (bs rest : List ℕ) → list_all is_name_byte (b ∷ bs) ≡ true → Stops is_name_byte rest → name_token (b ∷ bs) ≡ name false (b ∷ bs)
    → first dues.Token ((b ∷ bs) ++ rest) ≡ (name false (b ∷ bs), rest)
bare_first b bs rest h s plain =
    let here = (and_true (is_name_byte b) (list_all is_name_byte bs) h).0 in
    let none = not_true (is_white b || is_edge_byte b || is_sign b || b == 34) here in
    let outer = or_false (is_white b || is_edge_byte b || is_sign b) (b == 34) none in
    let middle = or_false (is_white b || is_edge_byte b) (is_sign b) outer.0 in
    let inner = or_false (is_white b) (is_edge_byte b) middle.0 in
    first_here b (bs ++ rest) inner.0
    ∙ third (b == 34) (is_edge_byte b) (is_name_byte b) _ _ (run_at is_name_byte name_token (b ∷ (bs ++ rest))) (sign_token b, bs ++ rest) outer.1 inner.1 here
    ∙ run_is is_name_byte name_token (b ∷ bs) rest h s
    ∙ ap (λ t. (t, rest)) plain

closing : (n rest : List ℕ) → list_all is_line_byte n ≡ true → quoted_text (n ++ 34 ∷ rest) ≡ Some (n, rest)
closing n rest h = rw (prefix_len-stops is_line_byte n (34 ∷ rest) h refl, take-append_seam, drop-append_seam) refl

-- a quoted name
pub quoted_first : (b : ℕ) (bs rest : List ℕ) → list_all is_line_byte (b ∷ bs) ≡ true → first dues.Token (34 ∷ ((b ∷ bs) ++ 34 ∷ rest))
    ≡ (name true (b ∷ bs), rest)
quoted_first b bs rest h =
    first_here 34 ((b ∷ bs) ++ 34 ∷ rest) refl
    ∙ ap (quoted_name ((b ∷ bs) ++ 34 ∷ rest)) (closing (b ∷ bs) rest h)

eq_swap : (a b : ℕ) → (a == b) ≡ false → (b == a) ≡ false
eq_swap a b h = grind (arith, nat_tests)

list_all-plain : (bs : List ℕ) → list_all is_plain_byte bs ≡ true → list_all is_name_byte bs ≡ true
list_all-plain [] h = refl
list_all-plain (b ∷ bs) h =
    let both = and_true (is_plain_byte b) (list_all is_plain_byte bs) h in
    let here = and_true (is_name_byte b) _ both.0 in
    rw (here.0, list_all-plain bs both.1) refl

-- it neither looks like a comment nor begins with an arrow
pub no_comment : (b : ℕ) (bs : List ℕ) → (b == 47) ≡ false → (b == 35) ≡ false → begins_with_arrow (b ∷ bs) ≡ false → name_token (b ∷ bs) ≡ name false (b ∷ bs)
no_comment b bs slash hash arrow = rw (eq_swap b 47 slash, eq_swap b 35 hash, arrow) refl

last_of : (a b c d e : Bool) → not (a || b || c || d || e) ≡ true → e ≡ false
last_of a b c d e h = (or_false _ e (not_true _ h)).1

pub plain_first : (n rest : List ℕ) → is_plain n ≡ true → Stops is_name_byte rest → first dues.Token (n ++ rest) ≡ (name false n, rest)
plain_first [] rest h s = cc h
plain_first (b ∷ bs) rest h s =
    let bare = and_true (is_bare (b ∷ bs)) (not (begins_with_arrow (b ∷ bs))) h in
    let parts = and_true (list_all is_plain_byte (b ∷ bs)) (not (b == 35)) bare.0 in
    let here = and_true (is_plain_byte b) (list_all is_plain_byte bs) parts.0 in
    let slash = last_of (b == 40) (b == 41) (b == 124) (b == 42) (b == 47) (and_true (is_name_byte b) _ here.0).1 in
    bare_first b bs rest (list_all-plain (b ∷ bs) parts.0) s (no_comment b bs slash (not_true (b == 35) parts.1) (not_true (begins_with_arrow (b ∷ bs)) bare.1))

-- what a printed name reads back as
abbrev pub read_back : List ℕ → Tok
read_back n = name (not (is_plain n)) n

unquote : (plain : Bool) (n rest : List ℕ) → plain ≡ is_plain n → IsName n → Stops is_name_byte rest
    → first dues.Token ((if plain then n else 34 ∷ n ++ 34 ∷ []) ++ rest) ≡ (name (not plain) n, rest)
unquote true n rest plain form s = plain_first n rest (sym plain) s
unquote false [] rest plain form s = absurd (let some = form.some in omega arith)
unquote false (b ∷ bs) rest plain form s =
    ap (λ l. first dues.Token (34 ∷ l)) (append_assoc (b ∷ bs) (34 ∷ []) rest) ∙ quoted_first b bs rest form.line

-- A printed name is read back as that name.
pub printed_first : (n rest : List ℕ) → IsName n → Stops is_name_byte rest → first dues.Token (printed n ++ rest) ≡ (read_back n, rest)
printed_first n rest form s = unquote (is_plain n) n rest refl form s
