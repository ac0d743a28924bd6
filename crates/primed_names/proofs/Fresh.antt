-- A primed name is a name, and none of those that are taken.
use Rattle.std.proofs.Common.{◌≡◌, ◌≤◌, ◌<◌, ◌||◌, ℕ, zero, suc, Bool, true, false, List, [], ◌∷◌, ◌++◌, length, if◌then◌else◌, nat_lt, refl, sym, ap, ◌∙◌, subst, inl, inr, arith, length-append}
use Rattle.std.proofs.lemmas.Bool.{cases_Bool, cases_lt}
use Rattle.std.proofs.lemmas.Slice.Eq.{bytes_eq-Decides}
use Rattle.std.proofs.lemmas.List.{get_or_past}
use Rattle.std.proofs.lemmas.List.Elements.{All-get_or}
use Rattle.std.proofs.lemmas.Str.{IsUtf8-nil, IsUtf8-append, IsUtf8-from_ascii, IsUtf8-from_is_utf8, is_utf8-from_IsUtf8}
use Rattle.std.proofs.lemmas.Str.Ascii.{IsAscii-nil, IsAscii-cons}
use Rattle.std.proofs.lemmas.List.Folds.{list_all-append}
use Rattle.std.specs.List.{list_all}
use Rattle.std.specs.Str.{bytes_eq, is_utf8}
use Rattle.mixed_graph.specs.Vocabulary.{IsName, AreNames, is_named, is_line_byte, name_of}
use Rattle.primed_names.specs.Primed.{primed_from, primed_name, with_prime}

-- how many of the names have at least so many bytes
abbrev longer : ℕ → List (List ℕ) → ℕ
longer l [] = 0
longer l (t ∷ ts) = if nat_lt (length t) l then longer l ts else suc (longer l ts)

-- they are no more than all
longer_most : (l : ℕ) (ts : List (List ℕ)) → longer l ts ≤ length ts
longer_most l [] = omega arith
longer_most l (t ∷ ts) = let more = longer_most l ts in elim (cases_Bool (nat_lt (length t) l)) [
  | inl e ↦ rw e (omega (arith, more))
  | inr e ↦ rw e (omega (arith, more))
]

-- no more have one byte more
longer_less : (l : ℕ) (ts : List (List ℕ)) → longer (suc l) ts ≤ longer l ts
longer_less l [] = omega arith
longer_less l (t ∷ ts) = let more = longer_less l ts in elim (cases_Bool (nat_lt (length t) l)) [
  | inl e ↦ let later : nat_lt (length t) (suc l) ≡ true = grind (arith, e) in rw (e, later) more
  | inr e ↦ elim (cases_Bool (nat_lt (length t) (suc l))) [
    | inl f ↦ rw (e, f) (omega (arith, more))
    | inr f ↦ rw (e, f) (omega (arith, more))
  ]
]

-- and fewer, where one of the names is one that has just so many
named_counts : (name : List ℕ) (ts : List (List ℕ)) → is_named ts name ≡ true → longer (suc (length name)) ts < longer (length name) ts
named_counts name [] h = absurd (cc h)
named_counts name (t ∷ ts) h = elim (cases_Bool (bytes_eq name t)) [
  | inl e ↦
      let same : name ≡ t = (bytes_eq-Decides name t).0 e in
      let less = longer_less (length name) ts in
      let at : nat_lt (length t) (length name) ≡ false = subst (λ (u : List ℕ). nat_lt (length u) (length name) ≡ false) same (grind arith) in
      let next : nat_lt (length t) (suc (length name)) ≡ true = subst (λ (u : List ℕ). nat_lt (length u) (suc (length name)) ≡ true) same (grind arith) in
      rw (at, next) (omega (arith, less))
  | inr e ↦
      let less = named_counts name ts (subst (λ (b : Bool). (b || is_named ts name) ≡ true) e h) in
      elim (cases_Bool (nat_lt (length t) (length name))) [
        | inl f ↦ let later : nat_lt (length t) (suc (length name)) ≡ true = grind (arith, f) in rw (f, later) less
        | inr f ↦ elim (cases_Bool (nat_lt (length t) (suc (length name)))) [
          | inl g ↦ rw (f, g) (omega (arith, less))
          | inr g ↦ rw (f, g) (omega (arith, less))
        ]
      ]
]

-- a name that isn't taken stays as it is
pub stays : (most : ℕ) (taken : List (List ℕ)) (name : List ℕ) → is_named taken name ≡ false → primed_from most taken name ≡ name
stays zero taken name e = refl
stays (suc most) taken name e = rw e refl

-- one that is gets a prime
pub goes_on : (most : ℕ) (taken : List (List ℕ)) (name : List ℕ) → is_named taken name ≡ true
    → primed_from (suc most) taken name ≡ primed_from most taken (name ++ 39 ∷ [])
goes_on most taken name e = rw e refl

-- with as many primes as there are names of its length a name isn't taken
from_new : (most : ℕ) (taken : List (List ℕ)) (name : List ℕ) → longer (length name) taken ≤ most → is_named taken (primed_from most taken name) ≡ false
from_new zero taken name h = elim (cases_Bool (is_named taken name)) [
  | inl e ↦ let more = named_counts name taken e in absurd (omega (arith, h, more))
  | inr e ↦ e
]
from_new (suc most) taken name h = elim (cases_Bool (is_named taken name)) [
  | inl e ↦
      let more = named_counts name taken e in
      let long : length (name ++ 39 ∷ []) ≡ suc (length name) = length-append name (39 ∷ []) ∙ (omega arith) in
      let few : longer (length (name ++ 39 ∷ [])) taken ≤ most = rw long (omega (arith, h, more)) in
      rw e (from_new most taken (name ++ 39 ∷ []) few)
  | inr e ↦ rw e e
]

-- so the primed name of a name isn't taken
pub primed_new : (taken : List (List ℕ)) (name : List ℕ) → is_named taken (primed_name taken name) ≡ false
primed_new taken name = from_new (length taken) taken (name ++ 39 ∷ []) (longer_most (length (name ++ 39 ∷ [])) taken)

-- a prime behind the bytes of a name, or behind nothing, makes a name
pub one_prime : (name : List ℕ) → is_utf8 name ≡ true → list_all is_line_byte name ≡ true → IsName (name ++ 39 ∷ [])
one_prime name text line = record {
  utf8 = is_utf8-from_IsUtf8 (name ++ 39 ∷ []) (IsUtf8-append name (39 ∷ []) (IsUtf8-from_is_utf8 name text) (IsUtf8-from_ascii (39 ∷ []) (IsAscii-cons 39 [] (omega arith) IsAscii-nil)));
  some = let e = length-append name (39 ∷ []) in omega (arith, e);
  line = list_all-append is_line_byte name (39 ∷ []) ∙ rw line refl;
}

from_name : (most : ℕ) (taken : List (List ℕ)) (name : List ℕ) → IsName name → IsName (primed_from most taken name)
from_name zero taken name h = h
from_name (suc most) taken name h = elim (cases_Bool (is_named taken name)) [
  | inl e ↦ subst IsName (sym (goes_on most taken name e)) (from_name most taken (name ++ 39 ∷ []) (one_prime name h.utf8 h.line))
  | inr e ↦ subst IsName (sym (stays (suc most) taken name e)) h
]

-- so a primed name is a name
pub primed_is_name : (taken : List (List ℕ)) (name : List ℕ) → is_utf8 name ≡ true → list_all is_line_byte name ≡ true → IsName (primed_name taken name)
primed_is_name taken name text line = from_name (length taken) taken (name ++ 39 ∷ []) (one_prime name text line)

-- names with the primed name behind them, where there is room
pub put_behind : (taken : List (List ℕ)) (name new : List ℕ) → nat_lt (length taken) 64 ≡ true → new ≡ primed_name taken name
    → taken ++ new ∷ [] ≡ with_prime taken name
put_behind taken name new few is =
    let room : with_prime taken name ≡ taken ++ primed_name taken name ∷ [] = rw few refl in
    ap (λ (n : List ℕ). taken ++ n ∷ []) is ∙ sym room

-- the name of a vertex is UTF-8 without a line break, and so is the empty text
pub name_text : (names : List (List ℕ)) (v : ℕ) → AreNames names → is_utf8 (name_of names v) ≡ true
name_text names v are = elim (cases_lt v (length names)) [
  | inl lt ↦ (All-get_or IsName names v [] lt are.formed).utf8
  | inr ge ↦ subst (λ (n : List ℕ). is_utf8 n ≡ true) (sym (get_or_past names v [] ge)) (is_utf8-from_IsUtf8 [] IsUtf8-nil)
]

pub name_line : (names : List (List ℕ)) (v : ℕ) → AreNames names → list_all is_line_byte (name_of names v) ≡ true
name_line names v are = elim (cases_lt v (length names)) [
  | inl lt ↦ (All-get_or IsName names v [] lt are.formed).line
  | inr ge ↦ subst (λ (n : List ℕ). list_all is_line_byte n ≡ true) (sym (get_or_past names v [] ge)) refl
]
