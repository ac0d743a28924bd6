-- What of a text stands outside quotes, and where it is cut.
use Rattle.std.proofs.Common.{◌≡◌, ◌==◌, ◌&&◌, ◌<◌, ◌+◌, ℕ, Bool, true, false, not, cond, List, [], ◌∷◌, ◌++◌, length, take, get_or, Some, None, refl}
use Rattle.std.proofs.Common.{sym, ap, subst, ◌∙◌, append_assoc, arith}
use Rattle.std.specs.Prelude.{suc}
use Rattle.std.specs.Str.{IsUtf8, IsCharBoundary}
use Rattle.std.proofs.Math.Seq.{take-suc}
use Rattle.std.proofs.lemmas.Str.{IsCharBoundary-after_ascii}
use Rattle.std.specs.List.{list_all}
use Rattle.std.proofs.lemmas.Bool.{and_parts}
use Rattle.command_words.specs.Vocabulary.{Item, bare, quoted, text_of, is_some_text, is_bare_byte, is_quoted_byte, is_item, more_text, list_text, IsItems, is_braced, unbraced}
use Rattle.command_words.proofs.ListLaw.{braces_around, no_braces}
use Rattle.experiment_lists.specs.Words.{is_undivided_byte, is_undivided, IsExperiment}
use Rattle.experiment_lists.specs.Parts.{after_byte, outside_after}

-- behind the front of a text the rest is read on
pub behind : (s t : Bool) (xs ys : List ℕ) → outside_after s xs ≡ Some t → outside_after s (xs ++ ys) ≡ outside_after t ys
behind s t [] ys e = let same : s ≡ t = cc e in ap (λ o. outside_after o ys) same
behind s t (b ∷ bs) ys e = go (s && b == 59) refl (behind (after_byte s b) t bs ys)
  where
    go : (c : Bool) → (s && b == 59) ≡ c → (outside_after (after_byte s b) bs ≡ Some t → outside_after (after_byte s b) (bs ++ ys) ≡ outside_after t ys)
        → outside_after s ((b ∷ bs) ++ ys) ≡ outside_after t ys
    go true k ih = absurd (let bad : None ≡ Some t = rw k at e in cc bad)
    go false k ih = rw k (ih (rw k at e))

-- ---- items

-- a name without quotes may be cut where it holds a `;`
bare_scan : (name rest : List ℕ) → list_all is_bare_byte name ≡ true → outside_after true (name ++ rest)
    ≡ cond (list_all is_undivided_byte name) (outside_after true rest) None
bare_scan [] rest h = refl
bare_scan (b ∷ bs) rest h = go (b == 34) (b == 59) refl refl (bare_scan bs rest parts.1)
  where
    parts : (is_bare_byte b ≡ true) × (list_all is_bare_byte bs ≡ true)
    parts = and_parts (is_bare_byte b) (list_all is_bare_byte bs) h

    go : (q c : Bool) → (b == 34) ≡ q → (b == 59) ≡ c → outside_after true (bs ++ rest) ≡ cond (list_all is_undivided_byte bs) (outside_after true rest) None
        → outside_after true ((b ∷ bs) ++ rest) ≡ cond (list_all is_undivided_byte (b ∷ bs)) (outside_after true rest) None
    go true c e f ih = absurd (let bare = (and_parts (not (b == 44)) (not (b == 34)) parts.0).1 in let bad : false ≡ true = rw e at bare in cc bad)
    go false true e f ih = rw f refl
    go false false e f ih = rw (e, f) ih

-- between quotes nothing is cut
quoted_scan : (name rest : List ℕ) → list_all is_quoted_byte name ≡ true → outside_after false (name ++ rest) ≡ outside_after false rest
quoted_scan [] rest h = refl
quoted_scan (b ∷ bs) rest h = go (b == 34) refl (quoted_scan bs rest parts.1)
  where
    parts : (is_quoted_byte b ≡ true) × (list_all is_quoted_byte bs ≡ true)
    parts = and_parts (is_quoted_byte b) (list_all is_quoted_byte bs) h

    go : (q : Bool) → (b == 34) ≡ q → outside_after false (bs ++ rest) ≡ outside_after false rest → outside_after false ((b ∷ bs) ++ rest)
        ≡ outside_after false rest
    go true e ih = absurd (let here = parts.0 in let bad : false ≡ true = rw e at here in cc bad)
    go false e ih = rw e ih

item_scan : (item : Item) (rest : List ℕ) → is_item item ≡ true → outside_after true (text_of item ++ rest)
    ≡ cond (is_undivided item) (outside_after true rest) None
item_scan (bare name) rest h = bare_scan name rest (and_parts (is_some_text name) (list_all is_bare_byte name) h).1
item_scan (quoted name) rest h =
    ap (outside_after false) (append_assoc name (34 ∷ []) rest) ∙ quoted_scan name (34 ∷ rest)
    (and_parts (is_some_text name) (list_all is_quoted_byte name) h).1

both : (u us : Bool) → cond u (cond us (Some true) None) None ≡ cond (u && us) (Some true) None
both true us = refl
both false us = refl

more_scan : (items : List Item) → list_all is_item items ≡ true → outside_after true (more_text items) ≡ cond (list_all is_undivided items) (Some true) None
more_scan [] h = refl
more_scan (item ∷ items) h =
    let parts = and_parts (is_item item) (list_all is_item items) h in
    item_scan item (more_text items) parts.0
    ∙ ap (λ o. cond (is_undivided item) o None) (more_scan items parts.1)
    ∙ both (is_undivided item) (list_all is_undivided items)

-- a list of names may be cut where an item without quotes holds a `;`
list_scan : (first : Item) (more : List Item) → list_all is_item (first ∷ more) ≡ true → outside_after true (list_text first more)
    ≡ cond (list_all is_undivided (first ∷ more)) (Some true) None
list_scan first more h =
    let parts = and_parts (is_item first) (list_all is_item more) h in
    item_scan first (more_text more) parts.0
    ∙ ap (λ o. cond (is_undivided first) o None) (more_scan more parts.1)
    ∙ both (is_undivided first) (list_all is_undivided more)

-- where a text is read on, its front was read
front_read : (s t : Bool) (xs ys : List ℕ) → outside_after s (xs ++ ys) ≡ Some t → (u : Bool) × (outside_after s xs ≡ Some u)
front_read s t [] ys e = (s, refl)
front_read s t (b ∷ bs) ys e = go (s && b == 59) refl (front_read (after_byte s b) t bs ys)
  where
    go : (c : Bool) → (s && b == 59) ≡ c → (outside_after (after_byte s b) (bs ++ ys) ≡ Some t → (u : Bool) × (outside_after (after_byte s b) bs ≡ Some u))
        → (u : Bool) × (outside_after s (b ∷ bs) ≡ Some u)
    go true k ih = absurd (let bad : None ≡ Some t = rw k at e in cc bad)
    go false k ih = let f = ih (rw k at e) in (f.0, rw k f.1)

-- braces are read as they stand
unbraced_closed : (text : List ℕ) (b : Bool) → is_braced text ≡ b → outside_after true (unbraced text) ≡ Some true → outside_after true text ≡ Some true
unbraced_closed text true h e = ap (outside_after true) (braces_around text h) ∙ behind true true (unbraced text) (125 ∷ []) e
unbraced_closed text false h e = ap (outside_after true) (sym (no_braces text h)) ∙ e

unbraced_read : (text : List ℕ) (b : Bool) (s : Bool) → is_braced text ≡ b → outside_after true text ≡ Some s
    → (u : Bool) × (outside_after true (unbraced text) ≡ Some u)
unbraced_read text true s h e = front_read true s (unbraced text) (125 ∷ []) (sym (ap (outside_after true) (braces_around text h)) ∙ e)
unbraced_read text false s h e = (s, ap (outside_after true) (no_braces text h) ∙ e)

-- behind an experiment the text is outside quotes
pub closed : (text : List ℕ) (names : List (List ℕ)) → IsExperiment text names → outside_after true text ≡ Some true
closed text names is =
    unbraced_closed text (is_braced text) refl
    (ap (outside_after true) is.list.spelling ∙ list_scan is.list.first is.list.more is.list.items ∙ ap (λ u. cond u (Some true) None) is.undivided)

-- a list that isn't cut holds no `;` outside quotes
pub undivided : (text : List ℕ) (names : List (List ℕ)) (is : IsItems (unbraced text) names) (s : Bool) → outside_after true text ≡ Some s
    → list_all is_undivided (is.first ∷ is.more) ≡ true
undivided text names is s e = go (list_all is_undivided (is.first ∷ is.more)) refl
  where
    inner : (u : Bool) × (outside_after true (unbraced text) ≡ Some u)
    inner = unbraced_read text (is_braced text) s refl e

    scan : cond (list_all is_undivided (is.first ∷ is.more)) (Some true) None ≡ Some inner.0
    scan = sym (list_scan is.first is.more is.items) ∙ sym (ap (outside_after true) is.spelling) ∙ inner.1

    go : (u : Bool) → list_all is_undivided (is.first ∷ is.more) ≡ u → list_all is_undivided (is.first ∷ is.more) ≡ true
    go true k = k
    go false k = absurd (let bad : None ≡ Some inner.0 = rw k at scan in cc bad)

-- ---- cuts

-- a text with a `;` outside quotes
pub divided : (text part rest : List ℕ) → text ≡ part ++ 59 ∷ rest → outside_after true part ≡ Some true → outside_after true text ≡ None
divided text part rest e h = ap (outside_after true) e ∙ behind true true part (59 ∷ rest) h

later_cut : (s : Bool) (c : ℕ) (q r t : List ℕ) → 59 ∷ r ≡ c ∷ t → Some s ≡ Some true → outside_after s (c ∷ q) ≡ Some true → ⊥
later_cut s c q r t e a b =
    let semicolon : c ≡ 59 = cc e in let outside : s ≡ true = cc a in
    let bad : None ≡ Some true = subst (λ o. outside_after o (59 ∷ q) ≡ Some true) outside (subst (λ d. outside_after s (d ∷ q) ≡ Some true) semicolon b) in
    cc bad

-- there is one first `;` outside quotes
pub same_part : (s : Bool) (p q r t : List ℕ) → p ++ 59 ∷ r ≡ q ++ 59 ∷ t → outside_after s p ≡ Some true → outside_after s q ≡ Some true → (p ≡ q) × (r ≡ t)
same_part s [] [] r t e a b = let same : r ≡ t = cc e in (refl, same)
same_part s [] (c ∷ q) r t e a b = absurd (later_cut s c q r (q ++ 59 ∷ t) e a b)
same_part s (b ∷ p) [] r t e a h = absurd (later_cut s b p t (p ++ 59 ∷ r) (sym e) h a)
same_part s (b ∷ p) (c ∷ q) r t e a h = go (s && b == 59) refl (same_part (after_byte s b) p q r t tail)
  where
    head : b ≡ c
    head = cc e

    tail : p ++ 59 ∷ r ≡ q ++ 59 ∷ t
    tail = cc e

    other : outside_after s (b ∷ q) ≡ Some true
    other = subst (λ d. outside_after s (d ∷ q) ≡ Some true) (sym head) h

    go : (k : Bool) → (s && b == 59) ≡ k → (outside_after (after_byte s b) p ≡ Some true → outside_after (after_byte s b) q ≡ Some true → (p ≡ q) × (r ≡ t))
        → ((b ∷ p) ≡ (c ∷ q)) × (r ≡ t)
    go true k ih = absurd (let bad : None ≡ Some true = rw k at a in cc bad)
    go false k ih = let same = ih (rw k at a) (rw k at other) in (ap (λ (d : ℕ). d ∷ p) head ∙ ap (λ (l : List ℕ). c ∷ l) same.0, same.1)

-- ---- the loop over the bytes

-- one more byte that is no `;` outside quotes
pub scan_more : (text : List ℕ) (i b : ℕ) (s : Bool) → i < length text → get_or text i 0 ≡ b → outside_after true (take i text) ≡ Some s → (s && b == 59)
    ≡ false → outside_after true (take (i + 1) text) ≡ Some (after_byte s b)
scan_more text i b s lt is before passes =
    ap (λ k. outside_after true (take k text)) {x = i + 1} {y = suc i} (omega arith)
    ∙ ap (outside_after true) (take-suc text i 0 lt ∙ ap (λ d. take i text ++ d ∷ []) is)
    ∙ behind true s (take i text) (b ∷ []) before
    ∙ ap (λ k. cond k None (Some (after_byte s b))) passes

-- a text may be cut behind a `;`
pub boundary : (text bytes : List ℕ) (i : ℕ) → bytes ≡ text → IsUtf8 text → i < length text → get_or bytes i 0 ≡ 59 → IsCharBoundary text (i + 1)
boundary text bytes i same utf8 lt is = let here : get_or text i 0 ≡ 59 = subst (λ t. get_or t i 0 ≡ 59) same is in
    IsCharBoundary-after_ascii text i utf8 lt (omega (arith, here))
