-- What fits was written token by token.
use Rattle.std.proofs.Common.{◌≡◌, ℕ, List, [], ◌∷◌, ◌++◌, refl, sym, ap, ◌∙◌, append_assoc, append-nil}
use Rattle.std.specs.List.{fold, flat_map}
use Rattle.std.proofs.lemmas.Grind.{flat_map-append}
use Rattle.json.specs.Token.{Token}
use Rattle.json.specs.Json.{Json, null, boolean, number, string}
use Rattle.json.specs.Tree.{json_tokens, items_tokens, members_tokens}
use Rattle.answer_json.specs.Progress.{Progress, nothing, whole, items, members, at_key, unfit, items_of, members_of, array_of, object_of, with_value, with_key}
use Rattle.answer_json.specs.Progress.{ended_array, ended_object, next, progress_of, IsWhole, value_of}
use Rattle.answer_json.specs.Tokens.{tokens_of, member_tokens}

-- no part of it is unfit
abbrev Fits : Progress → Type 0
Fits nothing = Unit {0}
Fits (whole j) = Unit {0}
Fits (items p js) = Fits p
Fits (members p ms) = Fits p
Fits (at_key p ms k) = Fits p
Fits unfit = ⊥

value_fits : (j : Json) (p : Progress) → Fits (with_value j p) → Fits p
value_fits j nothing h = tt
value_fits j (whole i) h = tt
value_fits j (items p js) h = h
value_fits j (members p ms) h = absurd h
value_fits j (at_key p ms k) h = h
value_fits j unfit h = h

key_fits : (k : List ℕ) (p : Progress) → Fits (with_key k p) → Fits p
key_fits k nothing h = tt
key_fits k (whole i) h = tt
key_fits k (items p js) h = absurd h
key_fits k (members p ms) h = h
key_fits k (at_key p ms l) h = absurd h
key_fits k unfit h = h

array_fits : (p : Progress) → Fits (ended_array p) → Fits p
array_fits nothing h = tt
array_fits (whole i) h = tt
array_fits (items p js) h = value_fits (array_of js) p h
array_fits (members p ms) h = absurd h
array_fits (at_key p ms l) h = absurd h
array_fits unfit h = h

object_fits : (p : Progress) → Fits (ended_object p) → Fits p
object_fits nothing h = tt
object_fits (whole i) h = tt
object_fits (items p js) h = absurd h
object_fits (members p ms) h = value_fits (object_of ms) p h
object_fits (at_key p ms l) h = absurd h
object_fits unfit h = h

next_fits : (t : Token) (p : Progress) → Fits (next p t) → Fits p
next_fits Token.begin_object p h = h
next_fits Token.end_object p h = object_fits p h
next_fits Token.begin_array p h = h
next_fits Token.end_array p h = array_fits p h
next_fits (Token.key k) p h = key_fits k p h
next_fits (Token.string s) p h = value_fits (string s) p h
next_fits (Token.number s) p h = value_fits (number s) p h
next_fits (Token.boolean b) p h = value_fits (boolean b) p h
next_fits Token.null p h = value_fits null p h
next_fits Token.bad p h = absurd h

-- what fits behind these tokens did so before them
all_fit : (ts : List Token) (p : Progress) → Fits (fold next p ts) → Fits p
all_fit [] p h = h
all_fit (t ∷ ts) p h = next_fits t p (all_fit ts (next p t) h)

-- ---- the tokens

last_item : (a : List Token) (t : Token) (js : List Json) (j : Json)
    → a ++ t ∷ flat_map json_tokens (js ++ j ∷ []) ≡ (a ++ t ∷ flat_map json_tokens js) ++ json_tokens j
last_item a t js j =
    ap (λ ts. a ++ t ∷ ts) (flat_map-append json_tokens js (j ∷ []) ∙ ap (λ ts. flat_map json_tokens js ++ ts) (append-nil (json_tokens j)))
    ∙ sym (append_assoc a (t ∷ flat_map json_tokens js) (json_tokens j))

last_member : (a : List Token) (t : Token) (ms : List (List ℕ × Json)) (k : List ℕ) (j : Json)
    → a ++ t ∷ flat_map member_tokens (ms ++ (k, j) ∷ []) ≡ (a ++ t ∷ (flat_map member_tokens ms ++ Token.key k ∷ [])) ++ json_tokens j
last_member a t ms k j =
    ap (λ ts. a ++ t ∷ ts) (flat_map-append member_tokens ms ((k, j) ∷ [])
    ∙ ap (λ ts. flat_map member_tokens ms ++ Token.key k ∷ ts) (append-nil (json_tokens j))
    ∙ sym (append_assoc (flat_map member_tokens ms) (Token.key k ∷ []) (json_tokens j)))
    ∙ sym (append_assoc a (t ∷ (flat_map member_tokens ms ++ Token.key k ∷ [])) (json_tokens j))

value_tokens : (j : Json) (p : Progress) → Fits (with_value j p) → tokens_of (with_value j p) ≡ tokens_of p ++ json_tokens j
value_tokens j nothing h = refl
value_tokens j (whole i) h = absurd h
value_tokens j (items p js) h = last_item (tokens_of p) Token.begin_array js j
value_tokens j (members p ms) h = absurd h
value_tokens j (at_key p ms k) h = last_member (tokens_of p) Token.begin_object ms k j
value_tokens j unfit h = absurd h

key_tokens : (k : List ℕ) (p : Progress) → Fits (with_key k p) → tokens_of (with_key k p) ≡ tokens_of p ++ Token.key k ∷ []
key_tokens k nothing h = absurd h
key_tokens k (whole i) h = absurd h
key_tokens k (items p js) h = absurd h
key_tokens k (members p ms) h = sym (append_assoc (tokens_of p) (Token.begin_object ∷ flat_map member_tokens ms) (Token.key k ∷ []))
key_tokens k (at_key p ms l) h = absurd h
key_tokens k unfit h = absurd h

items_end : (js : List Json) → items_tokens (items_of js) ≡ flat_map json_tokens js ++ Token.end_array ∷ []
items_end [] = refl
items_end (j ∷ js) = ap (λ ts. json_tokens j ++ ts) (items_end js) ∙ sym (append_assoc (json_tokens j) (flat_map json_tokens js) (Token.end_array ∷ []))

members_end : (ms : List (List ℕ × Json)) → members_tokens (members_of ms) ≡ flat_map member_tokens ms ++ Token.end_object ∷ []
members_end [] = refl
members_end (m ∷ ms) =
    ap (λ ts. Token.key m.0 ∷ (json_tokens m.1 ++ ts)) (members_end ms)
    ∙ ap (λ ts. Token.key m.0 ∷ ts) (sym (append_assoc (json_tokens m.1) (flat_map member_tokens ms) (Token.end_object ∷ [])))

array_tokens : (p : Progress) → Fits (ended_array p) → tokens_of (ended_array p) ≡ tokens_of p ++ Token.end_array ∷ []
array_tokens nothing h = absurd h
array_tokens (whole i) h = absurd h
array_tokens (items p js) h =
    value_tokens (array_of js) p h ∙ ap (λ ts. tokens_of p ++ Token.begin_array ∷ ts) (items_end js)
    ∙ sym (append_assoc (tokens_of p) (Token.begin_array ∷ flat_map json_tokens js) (Token.end_array ∷ []))
array_tokens (members p ms) h = absurd h
array_tokens (at_key p ms l) h = absurd h
array_tokens unfit h = absurd h

object_tokens : (p : Progress) → Fits (ended_object p) → tokens_of (ended_object p) ≡ tokens_of p ++ Token.end_object ∷ []
object_tokens nothing h = absurd h
object_tokens (whole i) h = absurd h
object_tokens (items p js) h = absurd h
object_tokens (members p ms) h =
    value_tokens (object_of ms) p h ∙ ap (λ ts. tokens_of p ++ Token.begin_object ∷ ts) (members_end ms)
    ∙ sym (append_assoc (tokens_of p) (Token.begin_object ∷ flat_map member_tokens ms) (Token.end_object ∷ []))
object_tokens (at_key p ms l) h = absurd h
object_tokens unfit h = absurd h

next_tokens : (t : Token) (p : Progress) → Fits (next p t) → tokens_of (next p t) ≡ tokens_of p ++ t ∷ []
next_tokens Token.begin_object p h = refl
next_tokens Token.end_object p h = object_tokens p h
next_tokens Token.begin_array p h = refl
next_tokens Token.end_array p h = array_tokens p h
next_tokens (Token.key k) p h = key_tokens k p h
next_tokens (Token.string s) p h = value_tokens (string s) p h
next_tokens (Token.number s) p h = value_tokens (number s) p h
next_tokens (Token.boolean b) p h = value_tokens (boolean b) p h
next_tokens Token.null p h = value_tokens null p h
next_tokens Token.bad p h = absurd h

all_tokens : (ts : List Token) (p : Progress) → Fits (fold next p ts) → tokens_of (fold next p ts) ≡ tokens_of p ++ ts
all_tokens [] p h = sym (append-nil (tokens_of p))
all_tokens (t ∷ ts) p h =
    all_tokens ts (next p t) h ∙ ap (λ us. us ++ ts) (next_tokens t p (all_fit ts (next p t) h)) ∙ append_assoc (tokens_of p) (t ∷ []) ts

-- ---- whole values

whole_tokens : (p : Progress) (ts : List Token) → (Fits p → tokens_of p ≡ ts) → IsWhole p → json_tokens (value_of p) ≡ ts
whole_tokens nothing ts h w = absurd w
whole_tokens (whole j) ts h w = h tt
whole_tokens (items p js) ts h w = absurd w
whole_tokens (members p ms) ts h w = absurd w
whole_tokens (at_key p ms k) ts h w = absurd w
whole_tokens unfit ts h w = absurd w

-- the tokens that come to a whole value are its
pub of_whole : (ts : List Token) → IsWhole (progress_of ts) → json_tokens (value_of (progress_of ts)) ≡ ts
of_whole ts w = whole_tokens (progress_of ts) ts (all_tokens ts nothing) w
