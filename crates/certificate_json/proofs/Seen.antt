-- What a reader of JSON sees of a value that was written.
use Rattle.std.proofs.Common.{◌≡◌, ℕ, suc, ◌^◌, ◌<◌, ◌≤◌, Bool, false, List, [], ◌∷◌, ◌++◌, Some, option_map, option_and_then, decimal}
use Rattle.std.proofs.Common.{refl, sym, ap, subst, ◌∙◌, arith, append-nil}
use Rattle.std.specs.Str.{IsUtf8}
use Rattle.std.proofs.lemmas.Str.{IsUtf8-nil, IsUtf8-append, is_utf8-from_IsUtf8}
use Rattle.json.specs.Token.{Token}
use Rattle.json.specs.Json.{Json}
use Rattle.json.specs.Json as json
use Rattle.json.specs.Lex.{tokens}
use Rattle.json.specs.Print.{token_text, separator, ends, print_from, print}
use Rattle.json.specs.Tree.{json_tokens, items_tokens, members_tokens, depth, items_depth, members_depth, HasNumbers, ItemsHaveNumbers, MembersHaveNumbers}
use Rattle.json.proofs.Printed.Decimals.{IsNumber-decimal}
use Rattle.json.proofs.Printed.Tokens.{tokens-print}
use Rattle.json.proofs.Printed.Trees.{value-json_tokens, ArePrintable-json_tokens}
use Rattle.json.proofs.Printed.Utf8.{IsUtf8-are_ascii, IsUtf8-quoted, IsUtf8-key, IsUtf8-separator}
use Rattle.serde_json.specs.Data.{Data, string, number, unsigned, array, object, Items, no_items, item, Members, no_members, put}
use Rattle.serde_json.specs.Read.{of_json, of_items, of_members, max_depth}
use Rattle.serde_json.proofs.Numbers.{number_of-decimal}
use Rattle.certificate.specs.Vocabulary.{json_of}
use Rattle.certificate.proofs.Texts.{some_text}
use Rattle.answer_json.specs.Vocabulary.{items_of, members_of, array_of, object_of, text_json}
use Rattle.certificate_json.proofs.Utf8.{number_utf8}

-- ---- texts

-- the text of each token is UTF-8
abbrev pub AreUtf8 : List Token → Type 0
AreUtf8 [] = Unit {0}
AreUtf8 (t ∷ ts) = IsUtf8 (token_text t) × AreUtf8 ts

both_utf8 : (ts us : List Token) → AreUtf8 ts → AreUtf8 us → AreUtf8 (ts ++ us)
both_utf8 [] us h k = k
both_utf8 (t ∷ ts) us h k = (h.0, both_utf8 ts us h.1 k)

print_utf8 : (after_value : Bool) (ts : List Token) → AreUtf8 ts → IsUtf8 (print_from after_value ts)
unfolding print_from
print_utf8 after_value [] h = IsUtf8-nil
print_utf8 after_value (t ∷ ts) h = IsUtf8-append (separator after_value t) _ (IsUtf8-separator after_value t)
    (IsUtf8-append (token_text t) _ h.0 (print_utf8 (ends t) ts h.1))

bracket : (t : Token) → IsUtf8 (token_text t) → AreUtf8 (t ∷ [])
bracket t h = (h, tt)

-- ---- values

-- the value is seen as d; it nests n deep at most
pub record IsSeen (j : Json) (d : Data) (n : ℕ) : Type 0 where
  pub seen : of_json j ≡ Some d
  pub numbers : HasNumbers j
  pub deep : depth j ≤ n
  pub utf8 : AreUtf8 (json_tokens j)

-- so are the items of an array
pub record AreSeen (js : List Json) (ds : Items) (n : ℕ) : Type 0 where
  pub seen : of_items (items_of js) ≡ Some ds
  pub numbers : ItemsHaveNumbers (items_of js)
  pub deep : items_depth (items_of js) ≤ n
  pub utf8 : AreUtf8 (items_tokens (items_of js))

-- and the members of an object behind those before
pub record AreMembersSeen (ms : List (List ℕ × Json)) (before after : Members) (n : ℕ) : Type 0 where
  pub seen : of_members (members_of ms) before ≡ Some after
  pub numbers : MembersHaveNumbers (members_of ms)
  pub deep : members_depth (members_of ms) ≤ n
  pub utf8 : AreUtf8 (members_tokens (members_of ms))

pub deeper : {j : Json} {d : Data} {m : ℕ} (n : ℕ) → m ≤ n → IsSeen j d m → IsSeen j d n
deeper n le h = record { seen = h.seen; numbers = h.numbers; deep = omega (arith, h.deep, le); utf8 = h.utf8 }

pub all_deeper : {js : List Json} {ds : Items} {m : ℕ} (n : ℕ) → m ≤ n → AreSeen js ds m → AreSeen js ds n
all_deeper n le h = record { seen = h.seen; numbers = h.numbers; deep = omega (arith, h.deep, le); utf8 = h.utf8 }

pub string_seen : (s : List ℕ) (n : ℕ) → IsUtf8 s → IsSeen (json.string s) (string s) n
string_seen s n h = record { seen = refl; numbers = tt; deep = omega arith; utf8 = (IsUtf8-quoted s h, tt) }

pub text_seen : (s : List ℕ) (n : ℕ) → IsUtf8 s → IsSeen (text_json s) (string s) n
text_seen s n h =
    let same : json.string s ≡ text_json s = rw (is_utf8-from_IsUtf8 s h) refl in
    subst (λ j. IsSeen j (string s) n) same (string_seen s n h)

pub number_seen : (k n : ℕ) → k < 2 ^ 64 → IsSeen (json.number (decimal k)) (number (unsigned k)) n
number_seen k n h = record {
  seen = ap (option_map number) (number_of-decimal k h);
  numbers = IsNumber-decimal k h;
  deep = omega arith;
  utf8 = (number_utf8 k, tt);
}

-- ---- items

pub none_seen : (n : ℕ) → AreSeen [] no_items n
none_seen n = record { seen = refl; numbers = tt; deep = omega arith; utf8 = (IsUtf8-are_ascii (93 ∷ []) refl, tt) }

pub one_more : (j : Json) (d : Data) (js : List Json) (ds : Items) (n : ℕ) → IsSeen j d n → AreSeen js ds n → AreSeen (j ∷ js) (item d ds) n
one_more j d js ds n h k = record {
  seen = ap (option_and_then (λ e. option_map (item e) (of_items (items_of js)))) h.seen ∙ ap (option_map (item d)) k.seen;
  numbers = (h.numbers, k.numbers);
  deep = omega (arith, h.deep, k.deep);
  utf8 = both_utf8 (json_tokens j) (items_tokens (items_of js)) h.utf8 k.utf8;
}

pub array_seen : (js : List Json) (ds : Items) (n : ℕ) → AreSeen js ds n → IsSeen (array_of js) (array ds) (suc n)
array_seen js ds n h = record {
  seen = ap (option_map array) h.seen;
  numbers = h.numbers;
  deep = omega (arith, h.deep);
  utf8 = (IsUtf8-are_ascii (91 ∷ []) refl, h.utf8);
}

-- ---- members

pub no_more : (ms : Members) (n : ℕ) → AreMembersSeen [] ms ms n
no_more ms n = record { seen = refl; numbers = tt; deep = omega arith; utf8 = (IsUtf8-are_ascii (125 ∷ []) refl, tt) }

pub member_more : (k : List ℕ) (j : Json) (d : Data) (ms : List (List ℕ × Json)) (before after : Members) (n : ℕ) → IsUtf8 k → IsSeen j d n
    → AreMembersSeen ms (put k d before) after n
    → AreMembersSeen ((k, j) ∷ ms) before after n
member_more k j d ms before after n key h rest = record {
  seen = ap (option_and_then (λ e. of_members (members_of ms) (put k e before))) h.seen ∙ rest.seen;
  numbers = (h.numbers, rest.numbers);
  deep = omega (arith, h.deep, rest.deep);
  utf8 = (IsUtf8-key k key, both_utf8 (json_tokens j) (members_tokens (members_of ms)) h.utf8 rest.utf8);
}

pub object_seen : (ms : List (List ℕ × Json)) (after : Members) (n : ℕ) → AreMembersSeen ms no_members after n → IsSeen (object_of ms) (object after) (suc n)
object_seen ms after n h = record {
  seen = ap (option_map object) h.seen;
  numbers = h.numbers;
  deep = omega (arith, h.deep);
  utf8 = (IsUtf8-are_ascii (123 ∷ []) refl, h.utf8);
}

-- ---- texts that are read

-- what is printed of a value is read as what is seen of it
pub read_printed : (j : Json) (d : Data) → IsSeen j d max_depth → json_of (print (json_tokens j)) ≡ Some d
read_printed j d h =
    let ts = json_tokens j in
    let same : tokens (print ts) ≡ ts ++ [] = tokens-print ts (ArePrintable-json_tokens j h.numbers) ∙ sym (append-nil ts) in
    some_text (print ts) d (print_utf8 false ts h.utf8)
    (ap (λ us. option_and_then of_json (option_and_then (λ p. json.if_last p.0 p.1) (json.value max_depth us))) same
    ∙ ap (λ o. option_and_then of_json (option_and_then (λ p. json.if_last p.0 p.1) o)) (value-json_tokens j max_depth [] h.deep) ∙ h.seen)
