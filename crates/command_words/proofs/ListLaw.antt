-- The names that are read are those of the list.
use Rattle.std.proofs.Common.{◌≡◌, ◌==◌, ◌&&◌, inl, inr, ℕ, Bool, true, false, not, List, [], ◌∷◌, ◌++◌, Option, Some, None, option_map, map, refl, sym, ap}
use Rattle.std.proofs.Common.{◌∙◌, subst, arith, append_assoc, codes, ◌-◌, suc, length, take, get_or}
use Rattle.std.specs.Prelude.{nat_le}
use Rattle.std.specs.Prelude.{IfSome, IfNone}
use Rattle.std.proofs.Common.{Result, Ok, Err, IfOk}
use Rattle.std.specs.Global.{Vec}
use Rattle.command_words.specs.ListViews.{names_in}
use Rattle.std.specs.List.{list_all}
use Rattle.std.specs.Str.{bytes_eq}
use Rattle.std.proofs.lemmas.Bool.Decides.{nat_tests}
use Rattle.std.proofs.lemmas.Slice.Eq.{bytes_eq-Decides}
use Rattle.command_words.specs.declared.lists.Position.{Position}
use Rattle.command_words.specs.declared.lists.Position.TheVariants.{Due, Plain, Inside, Closed}
use Rattle.command_words.specs.Lists.{Item, bare, quoted, name_of, text_of, is_some_text, is_bare_byte, is_quoted_byte, is_item, more_text, list_text, IsItems}
use Rattle.command_words.specs.Lists.{is_braced, unbraced, IsList}
use Rattle.command_words.specs.Walk.{Names, names_of, is_none, with_name, list_of}
use Rattle.std.proofs.lemmas.List.{append-nil}
use Rattle.std.specs.Cmp.Derive.{both_true}
use Rattle.std.proofs.lemmas.Bool.{not-true}

both : (a b : Bool) → (a && b) ≡ true → (a ≡ true) × (b ≡ true)
both true b h = (refl, h)
both false b h = cc h

-- ---- a spelled list is read

-- the rest of a bare item
bare_rest : (more name rest : List ℕ) → list_all is_bare_byte more ≡ true → names_of Plain name (more ++ rest) ≡ names_of Plain (name ++ more) rest
unfolding names_of
bare_rest [] name rest h = ap (λ (n : List ℕ). names_of Plain n rest) (sym (append-nil name))
bare_rest (b ∷ bs) name rest h =
    let p = both (is_bare_byte b) _ h in
    let q = both (not (b == 44)) _ p.0 in
    rw (not-true _ q.0, not-true _ q.1) (bare_rest bs (name ++ b ∷ []) rest p.1 ∙ ap (λ (n : List ℕ). names_of Plain n rest) (append_assoc name (b ∷ []) bs))

quoted_rest : (more name rest : List ℕ) → list_all is_quoted_byte more ≡ true → names_of Inside name (more ++ rest) ≡ names_of Inside (name ++ more) rest
unfolding names_of
quoted_rest [] name rest h = ap (λ (n : List ℕ). names_of Inside n rest) (sym (append-nil name))
quoted_rest (b ∷ bs) name rest h =
    let p = both (is_quoted_byte b) _ h in
    rw (not-true _ p.0) (quoted_rest bs (name ++ b ∷ []) rest p.1 ∙ ap (λ (n : List ℕ). names_of Inside n rest) (append_assoc name (b ∷ []) bs))

-- where an item ends
abbrev closing : Item → Position
closing (bare name) = Plain
closing (quoted name) = Closed

item_read : (item : Item) (rest : List ℕ) → is_item item ≡ true → names_of Due [] (text_of item ++ rest) ≡ names_of (closing item) (name_of item) rest
unfolding names_of
item_read (bare []) rest h = cc h
item_read (bare (b ∷ bs)) rest h =
    let p = both (is_bare_byte b) _ h in
    let q = both (not (b == 44)) _ p.0 in
    rw (not-true _ q.0, not-true _ q.1) (bare_rest bs (b ∷ []) rest p.1)
item_read (quoted []) rest h = cc h
item_read (quoted (b ∷ bs)) rest h =
    ap (names_of Inside []) (append_assoc (b ∷ bs) (34 ∷ []) rest) ∙ quoted_rest (b ∷ bs) [] (34 ∷ rest) h

rest_read : (item : Item) (items : List Item) → list_all is_item items ≡ true → names_of (closing item) (name_of item) (more_text items)
    ≡ Some (map name_of (item ∷ items))
unfolding names_of
rest_read (bare n) [] h = refl
rest_read (quoted n) [] h = refl
rest_read (bare n) (item ∷ items) h =
    let p = both (is_item item) _ h in ap (with_name n) (item_read item (more_text items) p.0 ∙ rest_read item items p.1)
rest_read (quoted n) (item ∷ items) h =
    let p = both (is_item item) _ h in ap (with_name n) (item_read item (more_text items) p.0 ∙ rest_read item items p.1)

pub list_read : (item : Item) (items : List Item) → list_all is_item (item ∷ items) ≡ true → names_of Due [] (list_text item items)
    ≡ Some (map name_of (item ∷ items))
list_read item items h = let p = both (is_item item) _ h in item_read item (more_text items) p.0 ∙ rest_read item items p.1

-- ---- what is read is spelled

-- behind a name that ended: further items, each behind a comma
pub record Rest (name : List ℕ) (bytes : List ℕ) (names : Names) : Type 0 where
  pub items : List Item
  pub text : bytes ≡ more_text items
  pub good : list_all is_item items ≡ true
  pub gives : names ≡ name ∷ map name_of items

-- inside a bare name: the rest of it, and further items
pub record Tail (name : List ℕ) (bytes : List ℕ) (names : Names) : Type 0 where
  pub more : List ℕ
  pub items : List Item
  pub text : bytes ≡ more ++ more_text items
  pub plain : list_all is_bare_byte more ≡ true
  pub good : list_all is_item items ≡ true
  pub gives : names ≡ (name ++ more) ∷ map name_of items

-- inside a quoted name: the rest of it, the quote, and further items
pub record Inner (name : List ℕ) (bytes : List ℕ) (names : Names) : Type 0 where
  pub more : List ℕ
  pub items : List Item
  pub text : bytes ≡ more ++ 34 ∷ more_text items
  pub plain : list_all is_quoted_byte more ≡ true
  pub some : is_some_text (name ++ more) ≡ true
  pub good : list_all is_item items ≡ true
  pub gives : names ≡ (name ++ more) ∷ map name_of items

-- what the bytes spell from a place on
abbrev pub Spelled : Position → List ℕ → List ℕ → Names → Type 0
Spelled Due name bytes names = is_none name ≡ true → IsItems bytes names
Spelled Plain name bytes names = Tail name bytes names
Spelled Inside name bytes names = Inner name bytes names
Spelled Closed name bytes names = Rest name bytes names

-- names that are read of the bytes are spelled by them, wherever the reading stands
abbrev pub Spells : List ℕ → Type 0
Spells bs = (p : Position) (n : List ℕ) (ns : Names) → names_of p n bs ≡ Some ns → Spelled p n bs ns

is_byte : (b c : ℕ) → (b == c) ≡ true → b ≡ c
is_byte b c e = grind (arith, nat_tests)

-- a comma, and the items after it
comma : (name : List ℕ) (bs : List ℕ) (names : Names) (o : Option Names) → names_of Due [] bs ≡ o → with_name name o ≡ Some names → Spells bs
    → Rest name (44 ∷ bs) names
comma name bs names None e h ih = cc h
comma name bs names (Some ns) e h ih =
    let w = ih Due [] ns e refl in
    let is : names ≡ name ∷ ns = cc h in
    record { items = w.first ∷ w.more; text = ap (λ (t : List ℕ). 44 ∷ t) w.spelling; good = w.items; gives = is ∙ ap (λ (t : Names). name ∷ t) w.gives }

rest_tail : (name bytes : List ℕ) (names : Names) → Rest name bytes names → Tail name bytes names
rest_tail name bytes names r = record {
  more = [];
  items = r.items;
  text = r.text;
  plain = refl;
  good = r.good;
  gives = r.gives ∙ ap (λ (n : List ℕ). n ∷ map name_of r.items) (sym (append-nil name));
}

some_text : (name : List ℕ) → is_none name ≡ false → is_some_text (name ++ []) ≡ true
some_text [] h = cc h
some_text (b ∷ bs) h = refl

no_bytes : (place : Position) (name : List ℕ) (names : Names) → names_of place name [] ≡ Some names → Spelled place name [] names
unfolding names_of
no_bytes Due name names h = cc h
no_bytes Plain name names h = let is : names ≡ name ∷ [] = cc h in rest_tail name [] names (record { items = []; text = refl; good = refl; gives = is })
no_bytes Inside name names h = cc h
no_bytes Closed name names h = let is : names ≡ name ∷ [] = cc h in record { items = []; text = refl; good = refl; gives = is }

due : (b : ℕ) (bs name : List ℕ) (names : Names) (p q : Bool) → (b == 34) ≡ p → (b == 44) ≡ q → names_of Due name (b ∷ bs) ≡ Some names → Spells bs
    → is_none name ≡ true → IsItems (b ∷ bs) names
unfolding names_of
due b bs [] names true q e f h ih none =
    let w : Inner [] bs names = ih Inside [] names (rw e at h) in
    record {
      first = quoted w.more;
      more = w.items;
      spelling = ap (λ (n : ℕ). n ∷ bs) (is_byte b 34 e) ∙ ap (λ (t : List ℕ). 34 ∷ t) (w.text ∙ sym (append_assoc w.more (34 ∷ []) (more_text w.items)));
      items = both_true (both_true w.some w.plain) w.good;
      gives = w.gives;
    }
due b bs [] names false true e f h ih none = let bad : None ≡ Some names = rw (e, f) at h in cc bad
due b bs [] names false false e f h ih none =
    let w : Tail (b ∷ []) bs names = ih Plain (b ∷ []) names (rw (e, f) at h) in
    let here : is_bare_byte b ≡ true = rw (e, f) refl in
    record {
      first = bare (b ∷ w.more);
      more = w.items;
      spelling = ap (λ (t : List ℕ). b ∷ t) w.text;
      items = both_true (both_true here w.plain) w.good;
      gives = w.gives;
    }
due b bs (x ∷ xs) names p q e f h ih none = cc none

plain : (b : ℕ) (bs name : List ℕ) (names : Names) (p q : Bool) → (b == 44) ≡ p → (b == 34) ≡ q → names_of Plain name (b ∷ bs) ≡ Some names → Spells bs
    → Tail name (b ∷ bs) names
unfolding names_of
plain b bs name names true q e f h ih =
    subst (λ (n : ℕ). Tail name (n ∷ bs) names) (sym (is_byte b 44 e))
    (rest_tail name (44 ∷ bs) names (comma name bs names (names_of Due [] bs) refl (rw e at h) ih))
plain b bs name names false true e f h ih = let bad : None ≡ Some names = rw (e, f) at h in cc bad
plain b bs name names false false e f h ih =
    let w : Tail (name ++ b ∷ []) bs names = ih Plain (name ++ b ∷ []) names (rw (e, f) at h) in
    let here : is_bare_byte b ≡ true = rw (e, f) refl in
    record {
      more = b ∷ w.more;
      items = w.items;
      text = ap (λ (t : List ℕ). b ∷ t) w.text;
      plain = both_true here w.plain;
      good = w.good;
      gives = w.gives ∙ ap (λ (n : List ℕ). n ∷ map name_of w.items) (append_assoc name (b ∷ []) w.more);
    }

inside : (b : ℕ) (bs name : List ℕ) (names : Names) (p q : Bool) → (b == 34) ≡ p → is_none name ≡ q → names_of Inside name (b ∷ bs) ≡ Some names → Spells bs
    → Inner name (b ∷ bs) names
unfolding names_of
inside b bs name names true true e f h ih = let bad : None ≡ Some names = rw (e, f) at h in cc bad
inside b bs name names true false e f h ih =
    let w : Rest name bs names = ih Closed name names (rw (e, f) at h) in
    record {
      more = [];
      items = w.items;
      text = ap (λ (n : ℕ). n ∷ bs) (is_byte b 34 e) ∙ ap (λ (t : List ℕ). 34 ∷ t) w.text;
      plain = refl;
      some = some_text name f;
      good = w.good;
      gives = w.gives ∙ ap (λ (n : List ℕ). n ∷ map name_of w.items) (sym (append-nil name));
    }
inside b bs name names false q e f h ih =
    let w : Inner (name ++ b ∷ []) bs names = ih Inside (name ++ b ∷ []) names (rw e at h) in
    let here : is_quoted_byte b ≡ true = rw e refl in
    record {
      more = b ∷ w.more;
      items = w.items;
      text = ap (λ (t : List ℕ). b ∷ t) w.text;
      plain = both_true here w.plain;
      some = ap is_some_text (sym (append_assoc name (b ∷ []) w.more)) ∙ w.some;
      good = w.good;
      gives = w.gives ∙ ap (λ (n : List ℕ). n ∷ map name_of w.items) (append_assoc name (b ∷ []) w.more);
    }

closed : (b : ℕ) (bs name : List ℕ) (names : Names) (p : Bool) → (b == 44) ≡ p → names_of Closed name (b ∷ bs) ≡ Some names → Spells bs
    → Rest name (b ∷ bs) names
unfolding names_of
closed b bs name names true e h ih = subst (λ (n : ℕ). Rest name (n ∷ bs) names) (sym (is_byte b 44 e))
    (comma name bs names (names_of Due [] bs) refl (rw e at h) ih)
closed b bs name names false e h ih = let bad : None ≡ Some names = rw e at h in cc bad

-- so it is of all bytes
pub spelled : (bytes : List ℕ) → Spells bytes
spelled [] p n ns h = no_bytes p n ns h
spelled (b ∷ bs) Due n ns h = due b bs n ns (b == 34) (b == 44) refl refl h (spelled bs)
spelled (b ∷ bs) Plain n ns h = plain b bs n ns (b == 44) (b == 34) refl refl h (spelled bs)
spelled (b ∷ bs) Inside n ns h = inside b bs n ns (b == 34) (is_none n) refl refl h (spelled bs)
spelled (b ∷ bs) Closed n ns h = closed b bs n ns (b == 44) refl h (spelled bs)

-- ---- the two together

-- the names of a list that isn't `{}` are read
items_read : (text : List ℕ) (names : Names) → IsItems text names → names_of Due [] text ≡ Some names
items_read text names is = ap (names_of Due []) is.spelling ∙ (list_read is.first is.more is.items ∙ ap (λ (n : Names). Some n) (sym is.gives))

-- a list has these names exactly where these are read
pub read_is_list : (text : List ℕ) (names : Names) → list_of text ≡ Some names → IsList text names
read_is_list text names h = go (bytes_eq text (codes "{}")) refl
  where
    go : (t : Bool) → bytes_eq text (codes "{}") ≡ t → IsList text names
    go true e = let k : Some [] ≡ Some names = rw e at h in let none : names ≡ [] = cc k in inl ((bytes_eq-Decides text (codes "{}")).0 e, none)
    go false e = inr (λ s. let k = (bytes_eq-Decides text (codes "{}")).1 s in cc (k, e), spelled (unbraced text) Due [] names (rw e at h) refl)

-- a text that is a list of names is read as those names
pub list_is_read : (text : List ℕ) (names : Names) → IsList text names → list_of text ≡ Some names
list_is_read text names is = go (bytes_eq text (codes "{}")) refl
  where
    go : (t : Bool) → bytes_eq text (codes "{}") ≡ t → list_of text ≡ Some names
    go true e = elim is [
      | inl h ↦ rw (e, h.1) refl
      | inr h ↦ absurd (h.0 ((bytes_eq-Decides text (codes "{}")).0 e))
    ]
    go false e = elim is [
      | inl h ↦ let k = (bytes_eq-Decides text (codes "{}")).1 h.0 in cc (k, e)
      | inr h ↦ rw e (items_read (unbraced text) names h.1)
    ]

-- ---- braces

last_apart : (b : ℕ) (bs : List ℕ) → b ∷ bs ≡ take (length bs) (b ∷ bs) ++ get_or (b ∷ bs) (length bs) 0 ∷ []
last_apart b [] = refl
last_apart b (c ∷ bs) = ap (λ t. b ∷ t) (last_apart c bs)

-- a text with braces around it is what stands between them, and the braces
pub braces_around : (text : List ℕ) → is_braced text ≡ true → text ≡ 123 ∷ (unbraced text ++ 125 ∷ [])
braces_around [] h = cc h
braces_around (b ∷ []) h = cc h
braces_around (b ∷ c ∷ bs) h =
    let last : length (b ∷ c ∷ bs) - 1 ≡ suc (length bs) = omega arith in
    let inner : length (b ∷ c ∷ bs) - 1 - 1 ≡ length bs = omega arith in
    let ends = both (b == 123) _ (both (nat_le 2 (length (b ∷ c ∷ bs))) _ h).1 in
    let closing : (get_or (c ∷ bs) (length bs) 0 == 125) ≡ true = rw last at ends.1 in
    ap (λ n. n ∷ c ∷ bs) (is_byte b 123 ends.0)
    ∙ ap (λ t. 123 ∷ t)
    (last_apart c bs ∙ ap (λ n. take (length bs) (c ∷ bs) ++ n ∷ []) (is_byte (get_or (c ∷ bs) (length bs) 0) 125 closing)
    ∙ ap (λ t. t ++ 125 ∷ []) (sym (rw (h, inner) refl)))

pub no_braces : (text : List ℕ) → is_braced text ≡ false → unbraced text ≡ text
no_braces text h = rw h refl

-- ---- what the reading tells, as the clauses of the code say it

module _ (text : List ℕ) where
  abbrev IsReadList : Option (Vec (Vec ℕ)) → Type 0
  IsReadList o = option_map names_in o ≡ list_of text

  pub is_list : {E : Type 0} (r : Result (Option (Vec (Vec ℕ))) E) → IfOk r IsReadList → IfOk r (λ o. IfSome o (λ v. IsList text (names_in v)))
  is_list (Ok None) h = tt
  is_list (Ok (Some v)) h = read_is_list text (names_in v) (sym h)
  is_list (Err x) h = tt

  pub is_only_list : {E : Type 0} (r : Result (Option (Vec (Vec ℕ))) E) → IfOk r IsReadList
      → IfOk r (λ o. IfSome o (λ v. (names : Names) → IsList text names → names ≡ names_in v))
  is_only_list (Ok None) h = tt
  is_only_list (Ok (Some v)) h = λ names is.
      let k : Some (names_in v) ≡ Some names = h ∙ list_is_read text names is in
      let same : names ≡ names_in v = cc k in
      same
  is_only_list (Err x) h = tt

  pub is_no_list : {E : Type 0} (r : Result (Option (Vec (Vec ℕ))) E) → IfOk r IsReadList → IfOk r (λ o. IfNone o ((names : Names) → IsList text names → ⊥))
  is_no_list (Ok None) h = λ names is. let k : None ≡ Some names = h ∙ list_is_read text names is in cc k
  is_no_list (Ok (Some v)) h = tt
  is_no_list (Err x) h = tt
