-- Tokens and names of the grammar, and how they are read.
use Rattle.std.proofs.Common.{◌≡◌, ℕ, zero, suc, ◌+◌, ◌<◌, ◌≤◌, Bool, true, false, cond, not, eqb, ◌||◌, List, [], ◌∷◌, ◌++◌, length, take, drop}
use Rattle.std.proofs.Common.{Option, Some, None, Result, Ok, Err, ◌⊎◌, inl, inr, refl, sym, ap, subst, ◌∙◌, append_assoc, append-nil, arith}
use Rattle.std.proofs.Common.{eqb-true}
use Rattle.std.specs.List.{prefix_len, list_all}
use Rattle.std.specs.Str.{bytes_eq}
use Rattle.std.proofs.lemmas.Bool.{eq-eqb}
use Rattle.std.proofs.lemmas.List.{length-append, take-append-drop}
use Rattle.std.proofs.lemmas.Slice.Eq.{bytes_eq-Decides}
use Rattle.mixed_graph.specs.Vocabulary.{has, is_line_byte, is_named, index_of, name_of, union, one}
use Rattle.answer_text.specs.Vocabulary.{is_white, is_plain_byte, is_bare}
use Rattle.expr_text.specs.Read.{◌>>=◌, when, bad, after, trim, next_is, expect, closed, quoted, bare, raw_name, with_vertex, name_at}
use Rattle.expr_text.specs.Grammar.{IsBlank, EndsRun, Token, Name, bare_name, quoted_name, Member}
use Rattle.expr_text.proofs.Within.{and_true}
use Rattle.expr_text.proofs.Known.{AreKnown, whole_run}
use Rattle.expr_text.proofs.Fronts.{not_true, trim_here, bare_is_read, quoted_is_read}
use Rattle.expr_text.proofs.NamesBack.{vertex_new}

-- ---- cases

pub bind_ok : {A B : Type 0} (r : Result A ℕ) (f : A → Result B ℕ) (y : B) → (r >>= f) ≡ Ok y → (x : A) × (r ≡ Ok x) × (f x ≡ Ok y)
bind_ok (Ok x) f y h = (x, refl, h)
bind_ok (Err e) f y h = absurd cc

pub when_is : {A B : Type 0} (o : Option A) (absent : B) (present : A → B) (y : B) → when o absent present ≡ y → ((o ≡ None) × (absent ≡ y))
    ⊎ ((a : A) × (o ≡ Some a) × (present a ≡ y))
when_is None absent present y h = inl (refl, h)
when_is (Some x) absent present y h = inr (x, refl, h)

some_by : {X : Type 0} (b : Bool) (o : Option X) (r : X) → cond b o None ≡ Some r → (b ≡ true) × (o ≡ Some r)
some_by true o r h = (refl, h)
some_by false o r h = absurd cc

none_by : {X : Type 0} (b : Bool) (o : Option X) (r : X) → cond b None o ≡ Some r → (b ≡ false) × (o ≡ Some r)
none_by true o r h = absurd cc
none_by false o r h = (refl, h)

pub or_false : (a b : Bool) → (a || b) ≡ false → (a ≡ false) × (b ≡ false)
or_false true b h = absurd cc
or_false false b h = (refl, h)

abbrev pub Two : {X Y : Type 0} → X → Y → Option (X × Y)
Two x y = Some (x, y)

first_is : {X Y : Type 0} (x x' : X) (y y' : Y) → Two x y ≡ Two x' y' → (x ≡ x') × (y ≡ y')
first_is x x' y y' h = (ap (λ o. when o x (λ p. p.0)) h, ap (λ o. when o y (λ p. p.1)) h)

from_ok : {X Y B : Type 0} → B → (X → Y → B) → Result (X × Y) ℕ → B
from_ok d f (Ok p) = f p.0 p.1
from_ok d f (Err e) = d

abbrev pub Both : {X Y : Type 0} → X → Y → Result (X × Y) ℕ
Both x y = Ok (x, y)

pub ok_parts : {X Y : Type 0} (x x' : X) (y y' : Y) → Both x y ≡ Both x' y' → (x ≡ x') × (y ≡ y')
unfolding from_ok
ok_parts x x' y y' h = (ap (from_ok x (λ a b. a)) h, ap (from_ok y (λ a b. b)) h)

-- ---- runs

pub drop_one : (n b : ℕ) (bytes : List ℕ) → drop (1 + n) (b ∷ bytes) ≡ drop n bytes
drop_one n b bytes = let e : 1 + n ≡ suc n = omega arith in rw e refl

run_by : (p : ℕ → Bool) (b : Bool) (x : ℕ) (xs : List ℕ) → p x ≡ b → list_all p (take (prefix_len p xs) xs) ≡ true
    → list_all p (take (cond b (1 + prefix_len p xs) 0) (x ∷ xs)) ≡ true
run_by p true x xs h all = let e : 1 + prefix_len p xs ≡ suc (prefix_len p xs) = omega arith in rw (e, h) all
run_by p false x xs h all = refl

pub run_passes : (p : ℕ → Bool) (xs : List ℕ) → list_all p (take (prefix_len p xs) xs) ≡ true
run_passes p [] = refl
run_passes p (x ∷ xs) = run_by p (p x) x xs refl (run_passes p xs)

ends_by : (p : ℕ → Bool) (b : Bool) (x : ℕ) (xs : List ℕ) → p x ≡ b → EndsRun p (drop (prefix_len p xs) xs)
    → EndsRun p (drop (cond b (1 + prefix_len p xs) 0) (x ∷ xs))
ends_by p true x xs h e = subst (EndsRun p) (sym (drop_one (prefix_len p xs) x xs)) e
ends_by p false x xs h e = h

pub run_ends : (p : ℕ → Bool) (xs : List ℕ) → EndsRun p (drop (prefix_len p xs) xs)
run_ends p [] = tt
run_ends p (x ∷ xs) = ends_by p (p x) x xs refl (run_ends p xs)

-- ---- tokens

pub trim_blank : (white bytes : List ℕ) → IsBlank white → trim (white ++ bytes) ≡ trim bytes
unfolding trim
trim_blank [] bytes h = refl
trim_blank (w ∷ white) bytes h =
    let parts = and_true (is_white w) (list_all is_white white) h in
    let n = prefix_len is_white (white ++ bytes) in
    ap (λ b. drop (cond b (1 + n) 0) (w ∷ (white ++ bytes))) parts.0
    ∙ drop_one n w (white ++ bytes)
    ∙ trim_blank white bytes parts.1

pub trim_token : (token bytes rest : List ℕ) → Token token bytes rest → trim bytes ≡ trim (token ++ rest)
trim_token token bytes rest t = ap trim t.here ∙ trim_blank t.white (token ++ rest) t.blank

pub token_at : (token bytes rest : List ℕ) → trim bytes ≡ token ++ rest → Token token bytes rest
unfolding trim
token_at token bytes rest e =
    let n = prefix_len is_white bytes in
    record { white = take n bytes; blank = run_passes is_white bytes; here = sym (take-append-drop n bytes) ∙ ap (λ t. take n bytes ++ t) e }

after_is : (token bytes rest : List ℕ) → after token bytes ≡ Some rest → bytes ≡ token ++ rest
after_is [] bytes rest h = cc
after_is (t ∷ ts) [] rest h = absurd cc
after_is (t ∷ ts) (b ∷ bytes) rest h =
    let p = some_by (eqb t b) (after ts bytes) rest h in
    let e = eqb-true t b p.0 in
    let f = after_is ts bytes rest p.1 in
    ap (λ c. c ∷ bytes) (sym e) ∙ ap (λ t'. t ∷ t') f

after_here : (token rest : List ℕ) → after token (token ++ rest) ≡ Some rest
after_here [] rest = refl
after_here (t ∷ ts) rest = ap (λ b. cond b (after ts (ts ++ rest)) None) (eq-eqb t t refl) ∙ after_here ts rest

pub next_token : (token bytes rest : List ℕ) → next_is token bytes ≡ Some rest → Token token bytes rest
unfolding next_is
next_token token bytes rest h = token_at token bytes rest (after_is token (trim bytes) rest h)

pub next_here : (c : ℕ) (cs bytes rest : List ℕ) → is_white c ≡ false → Token (c ∷ cs) bytes rest → next_is (c ∷ cs) bytes ≡ Some rest
unfolding next_is
next_here c cs bytes rest h t = ap (after (c ∷ cs)) (trim_token (c ∷ cs) bytes rest t ∙ trim_here c (cs ++ rest) h) ∙ after_here (c ∷ cs) rest

pub next_other : (other : List ℕ) (c : ℕ) (cs bytes rest : List ℕ) → is_white c ≡ false → after other (c ∷ (cs ++ rest)) ≡ None → Token (c ∷ cs) bytes rest
    → next_is other bytes ≡ None
unfolding next_is
next_other other c cs bytes rest h none t = ap (after other) (trim_token (c ∷ cs) bytes rest t ∙ trim_here c (cs ++ rest) h) ∙ none

pub blank_trim : (rest : List ℕ) → IsBlank rest → trim rest ≡ []
unfolding trim
blank_trim rest h = ap trim (sym (append-nil rest)) ∙ trim_blank rest [] h

pub next_blank : (c : ℕ) (cs rest : List ℕ) → IsBlank rest → next_is (c ∷ cs) rest ≡ None
unfolding next_is
next_blank c cs rest h = ap (after (c ∷ cs)) (blank_trim rest h)

pub trim_is_blank : (rest : List ℕ) → trim rest ≡ [] → IsBlank rest
unfolding trim
trim_is_blank rest h =
    let n = prefix_len is_white rest in
    let e : take n rest ≡ rest = sym (append-nil (take n rest)) ∙ ap (λ t. take n rest ++ t) (sym h) ∙ take-append-drop n rest in
    subst IsBlank e (run_passes is_white rest)

pub expect_ok : (token bytes rest : List ℕ) → expect token bytes ≡ Ok rest → Token token bytes rest
unfolding expect
expect_ok token bytes rest h = elim (when_is (next_is token bytes) (bad bytes) (λ r. Ok r) (Ok rest) h) [
  | inl n ↦ absurd (let e = n.1 in cc)
  | inr s ↦ next_token token bytes rest (let e = s.1 in let f = s.2 in cc)
]

pub expect_here : (c : ℕ) (cs bytes rest : List ℕ) → is_white c ≡ false → Token (c ∷ cs) bytes rest → expect (c ∷ cs) bytes ≡ Ok rest
unfolding expect
expect_here c cs bytes rest h t = ap (λ o. when o (bad bytes) (λ r. Ok r)) (next_here c cs bytes rest h t)

pub token_len : (token bytes rest : List ℕ) → Token token bytes rest → length token + length rest ≤ length bytes
token_len token bytes rest t = omega (arith, ap length t.here, length-append t.white (token ++ rest), length-append token rest)

-- ---- names

closed_is : (x y name rest : List ℕ) → closed x y ≡ Some (name, rest) → (x ≡ name) × (0 < length name) × (y ≡ 34 ∷ rest)
closed_is [] y name rest h = absurd cc
closed_is (c ∷ x) [] name rest h = absurd cc
closed_is (c ∷ x) (b ∷ y) name rest h =
    let p = some_by (eqb b 34) (Some (c ∷ x, y)) (name, rest) h in
    let q = first_is (c ∷ x) name y rest p.1 in
    (q.0, omega (arith, ap length q.0), ap (λ d. d ∷ y) (eqb-true b 34 p.0) ∙ ap (λ t. 34 ∷ t) q.1)

quoted_front : (bytes name rest : List ℕ) → quoted bytes ≡ Some (name, rest) → (0 < length name) × (list_all is_line_byte name ≡ true)
    × (bytes ≡ name ++ 34 ∷ rest)
quoted_front bytes name rest h =
    let n = prefix_len is_line_byte bytes in
    let p = closed_is (take n bytes) (drop n bytes) name rest h in (
      p.1,
      subst (λ t. list_all is_line_byte t ≡ true) p.0 (run_passes is_line_byte bytes),
      sym (take-append-drop n bytes) ∙ ap (λ t. t ++ drop n bytes) p.0 ∙ ap (λ t. name ++ t) p.2,
    )

plain_run : (n b : ℕ) (bytes : List ℕ) → eqb n 0 ≡ false → list_all is_plain_byte (take n (b ∷ bytes)) ≡ true → eqb b 35 ≡ false
    → is_bare (take n (b ∷ bytes)) ≡ true
plain_run zero b bytes some all hash = absurd cc
plain_run (suc n) b bytes some all hash = rw (all, hash) refl

bare_front : (b : ℕ) (bytes name rest : List ℕ) → eqb b 35 ≡ false → bare (b ∷ bytes) ≡ Some (name, rest) → (is_bare name ≡ true)
    × EndsRun is_plain_byte rest × (b ∷ bytes ≡ name ++ rest)
bare_front b bytes name rest hash h =
    let xs = b ∷ bytes in
    let n = prefix_len is_plain_byte xs in
    let p = none_by (eqb n 0) (Some (take n xs, drop n xs)) (name, rest) h in
    let q = first_is (take n xs) name (drop n xs) rest p.1 in (
      subst (λ t. is_bare t ≡ true) q.0 (plain_run n b bytes p.0 (run_passes is_plain_byte xs) hash),
      subst (EndsRun is_plain_byte) q.1 (run_ends is_plain_byte xs),
      sym (take-append-drop n xs) ∙ ap (λ t. t ++ drop n xs) q.0 ∙ ap (λ t. name ++ t) q.1,
    )

raw_by : (bytes : List ℕ) (b : ℕ) (xs name rest : List ℕ) (t u : Bool) → eqb b 34 ≡ t → eqb b 35 ≡ u → trim bytes ≡ b ∷ xs
    → cond t (quoted xs) (cond u None (bare (b ∷ xs))) ≡ Some (name, rest) → Name name bytes rest
raw_by bytes b xs name rest true u ht hu e h =
    let q = quoted_front xs name rest h in
    quoted_name q.0 q.1 (token_at (34 ∷ name ++ 34 ∷ []) bytes rest
    (e ∙ ap (λ c. c ∷ xs) (eqb-true b 34 ht) ∙ ap (λ t. 34 ∷ t) q.2 ∙ sym (ap (λ t. 34 ∷ t) (append_assoc name (34 ∷ []) rest))))
raw_by bytes b xs name rest false true ht hu e h = absurd cc
raw_by bytes b xs name rest false false ht hu e h =
    let p = bare_front b xs name rest hu h in
    bare_name p.0 p.1 (token_at name bytes rest (e ∙ p.2))

raw_front : (bytes xs name rest : List ℕ) → trim bytes ≡ xs → raw_name xs ≡ Some (name, rest) → Name name bytes rest
raw_front bytes [] name rest e h = absurd cc
raw_front bytes (b ∷ xs) name rest e h = raw_by bytes b xs name rest (eqb b 34) (eqb b 35) refl refl e h

plain_read : (name rest : List ℕ) → is_bare name ≡ true → EndsRun is_plain_byte rest → raw_name (trim (name ++ rest)) ≡ Some (name, rest)
plain_read [] rest h e = cc
plain_read (c ∷ name) rest h e =
    let both = and_true (list_all is_plain_byte (c ∷ name)) (not (eqb c 35)) h in
    bare_is_read c name rest (not_true (eqb c 35) both.1) (whole_run is_plain_byte (c ∷ name) both.0) e

name_read : (name bytes rest : List ℕ) → Name name bytes rest → raw_name (trim bytes) ≡ Some (name, rest)
name_read name bytes rest (bare_name plain ends t) = ap raw_name (trim_token name bytes rest t) ∙ plain_read name rest plain ends
name_read name bytes rest (quoted_name some line t) =
    ap raw_name (trim_token (34 ∷ name ++ 34 ∷ []) bytes rest t) ∙ quoted_is_read name rest (record { some = some; inner = whole_run is_line_byte name line })

name_len : (name bytes rest : List ℕ) → Name name bytes rest → length rest ≤ length bytes
name_len name bytes rest (bare_name plain ends t) = omega (arith, token_len name bytes rest t)
name_len name bytes rest (quoted_name some line t) = omega (arith, token_len (34 ∷ name ++ 34 ∷ []) bytes rest t)

-- ---- members

named_here : (names : List (List ℕ)) (n : List ℕ) → is_named names n ≡ true → (name_of names (index_of names n) ≡ n) × (index_of names n < length names)
named_here [] n h = absurd cc
named_here (x ∷ xs) n h = go (bytes_eq n x) refl (named_here xs n)
  where
    go : (b : Bool) → bytes_eq n x ≡ b → (is_named xs n ≡ true → (name_of xs (index_of xs n) ≡ n) × (index_of xs n < length xs))
        → (name_of (x ∷ xs) (cond (not b) (1 + index_of xs n) 0) ≡ n) × (cond (not b) (1 + index_of xs n) 0 < length (x ∷ xs))
    go true e later = (sym ((bytes_eq-Decides n x).0 e), omega arith)
    go false e later =
        let there : is_named xs n ≡ true = rw e at h in
        let l = later there in
        (ap (name_of (x ∷ xs)) {x = 1 + index_of xs n} {y = suc (index_of xs n)} (omega arith) ∙ l.0, omega (arith, l.1))

vertex_is : (names : List (List ℕ)) (have : ℕ) (name : List ℕ) (more : ℕ) → with_vertex names have name ≡ Some more
    → (is_named names name ≡ true) × (has have (index_of names name) ≡ false) × (union have (one (index_of names name)) ≡ more)
vertex_is names have name more h =
    let p = none_by (not (is_named names name) || has have (index_of names name)) (Some (union have (one (index_of names name)))) more h in
    let q = or_false (not (is_named names name)) (has have (index_of names name)) p.0 in
    (not_false (is_named names name) q.0, q.1, (let e = p.1 in cc))
  where
    not_false : (b : Bool) → not b ≡ false → b ≡ true
    not_false true e = refl
    not_false false e = absurd cc

pub member_front : (names : List (List ℕ)) (have : ℕ) (bytes : List ℕ) (more : ℕ) (rest : List ℕ) → name_at names have bytes ≡ Ok (more, rest) → (v : ℕ)
    × Member names v have bytes rest × (union have (one v) ≡ more)
unfolding name_at
member_front names have bytes more rest h = elim (when_is (raw_name (trim bytes)) (bad bytes)
    (λ name. when (with_vertex names have name.0) (bad bytes) (λ m. Ok (m, name.1))) (Ok (more, rest)) h) [
      | inl n ↦ absurd (let e = n.1 in cc)
      | inr s ↦ elim (when_is (with_vertex names have s.0.0) (bad bytes) (λ m. Ok (m, s.0.1)) (Ok (more, rest)) s.2) [
        | inl n ↦ absurd (let e = n.1 in cc)
        | inr u ↦
            let parts = ok_parts u.0 more s.0.1 rest u.2 in
            let is = vertex_is names have s.0.0 u.0 u.1 in
            let v = index_of names s.0.0 in
            let here = named_here names s.0.0 is.0 in
            let name : Name s.0.0 bytes rest = subst (λ r. Name s.0.0 bytes r) parts.1 (raw_front bytes (trim bytes) s.0.0 s.0.1 refl s.1) in
            (v, record { below = here.1; new = is.1; name = subst (λ n. Name n bytes rest) (sym here.0) name }, is.2 ∙ parts.0)
      ]
    ]

pub member_read : (names : List (List ℕ)) (v have : ℕ) (bytes rest : List ℕ) → AreKnown names → Member names v have bytes rest → name_at names have bytes
    ≡ Ok (union have (one v), rest)
unfolding name_at
member_read names v have bytes rest are m =
    ap (λ o. when o (bad bytes) (λ name. when (with_vertex names have name.0) (bad bytes) (λ more. Ok (more, name.1))))
    (name_read (name_of names v) bytes rest m.name)
    ∙ ap (λ o. when o (bad bytes) (λ more. Ok (more, rest))) (vertex_new names have (name_of names v) v (are.there v m.below) (are.once v m.below) m.new)

pub member_len : (names : List (List ℕ)) (v have : ℕ) (bytes rest : List ℕ) → Member names v have bytes rest → length rest ≤ length bytes
member_len names v have bytes rest m = name_len (name_of names v) bytes rest m.name
