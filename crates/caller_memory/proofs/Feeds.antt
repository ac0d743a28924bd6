-- Names on lines: what is left of the lines is the lines of the names that are left.
use Rattle.std.proofs.Common.{◌≡◌, ◌≢◌, ℕ, ◌+◌, ◌<◌, Bool, true, false, List, [], ◌∷◌, ◌++◌, length, take, drop, get_or, All, Some, None, inl, inr}
use Rattle.std.proofs.Common.{refl, ap, sym, ◌∙◌, subst, arith, append_assoc, length-append, drop-cons, eqb-true}
use Rattle.std.specs.Prelude.{◌||◌, ◌==◌, not, slice_get, position, cond, Option, suc}
use Rattle.std.specs.List.{before_first, after_first, position_or_len}
use Rattle.std.specs.Str.{bytes_eq}
use Rattle.std.proofs.Math.Seq.{take-append_seam, drop-append-add, get_or-append_seam}
use Rattle.std.proofs.lemmas.Bool.{cases_Bool, lt-ltb}
use Rattle.std.proofs.lemmas.List.{get_or_append_left, append-nil}
use Rattle.std.proofs.lemmas.List.Elements.{All-get_or, All-from_get_or}
use Rattle.std.proofs.lemmas.List.Folds.{list_any_none}
use Rattle.std.proofs.lemmas.List.Sums.{AllPass-from_list_all, position_or_len_is, split_at_first, passes_at_first}
use Rattle.std.proofs.lemmas.Option.{get_or_from_slice_get}
use Rattle.std.proofs.lemmas.Slice.Eq.{bytes_eq-Decides}
use Rattle.mixed_graph.specs.Vocabulary.{AreNames, IsName, is_line_byte, is_named}
use Rattle.mixed_graph.proofs.NameLists.{position-index}
use Rattle.caller_memory.specs.Kept.{lines_of}
use Rattle.caller_memory.specs.Lines.{is_feed}

-- ---- writing

-- one more name is written
pub line_more : (names : List (List ℕ)) (v : ℕ) (name text whole : List ℕ) → v < length names → slice_get names v ≡ Some name → text
    ++ lines_of (drop v names) ≡ whole
    → ((text ++ name) ++ 10 ∷ []) ++ lines_of (drop (v + 1) names) ≡ whole
line_more names v name text whole below is so =
    let here : get_or names v [] ≡ name = get_or_from_slice_get names v name [] is in
    let next : drop v names ≡ name ∷ drop (v + 1) names = drop-cons names v [] below ∙ ap (λ n. n ∷ drop (suc v) names) here
    ∙ ap (λ k. name ∷ drop k names) (let one : suc v ≡ v + 1 = omega arith in one) in
    append_assoc (text ++ name) (10 ∷ []) (lines_of (drop (v + 1) names)) ∙ append_assoc text name (10 ∷ lines_of (drop (v + 1) names))
    ∙ sym (ap (λ l. text ++ lines_of l) next) ∙ so

-- ---- the line of a name

no_feed : (b : ℕ) → is_line_byte b ≡ true → is_feed b ≡ false
no_feed b h = last (b == 34) (b == 13) (b == 10) h
  where
    last : (p q r : Bool) → not (p || q || r) ≡ true → r ≡ false
    last p q false h = refl
    last true q true h = cc h
    last false true true h = cc h
    last false false true h = cc h

-- the first line feed stands behind the name
feed_behind : (name rest : List ℕ) → IsName name → position_or_len is_feed (name ++ 10 ∷ rest) ≡ length name
feed_behind name rest formed =
    let size = length-append name (10 ∷ rest) in
    position_or_len_is is_feed (name ++ 10 ∷ rest) (length name) 0 (omega (arith, size))
    (λ k below. ap is_feed (get_or_append_left name (10 ∷ rest) 0 k below)
    ∙ no_feed (get_or name k 0) (All-get_or (λ b. is_line_byte b ≡ true) name k 0 below (AllPass-from_list_all is_line_byte name formed.line)))
    (λ below. ap is_feed (get_or-append_seam name 10 rest 0))

before : (name rest : List ℕ) → IsName name → before_first is_feed (name ++ 10 ∷ rest) ≡ name
before name rest formed = ap (λ k. take k (name ++ 10 ∷ rest)) (feed_behind name rest formed) ∙ take-append_seam name (10 ∷ rest)

after : (name rest : List ℕ) → IsName name → after_first is_feed (name ++ 10 ∷ rest) ≡ rest
after name rest formed = ap (λ k. drop (k + 1) (name ++ 10 ∷ rest)) (feed_behind name rest formed) ∙ drop-append-add name (10 ∷ rest) 1

-- ---- what is left

-- these names are all, so far, and what is left of the lines is the lines of those that are left
pub record AreLeft (all names : List (List ℕ)) (rest : List ℕ) : Type 0 where
  pub more : List (List ℕ)
  pub all_are : all ≡ names ++ more
  pub lines : rest ≡ lines_of more

-- whatever names the lines have, these come first
abbrev pub Only : (lines : List ℕ) (names : List (List ℕ)) (rest : List ℕ) → Type 0
Only lines names rest = (all : List (List ℕ)) → AreNames all → lines ≡ lines_of all → AreLeft all names rest

pub at_start : (lines : List ℕ) → Only lines [] lines
at_start lines all are e = record { more = all; all_are = refl; lines = e }

module _ (all names : List (List ℕ)) (rest : List ℕ) (are : AreNames all) where
  left_formed : (m : List ℕ) (ms : List (List ℕ)) → all ≡ names ++ m ∷ ms → IsName m
  left_formed m ms e =
      let size = length-append names (m ∷ ms) in
      subst IsName (get_or-append_seam names m ms []) (All-get_or IsName (names ++ m ∷ ms) (length names) [] (omega (arith, size))
      (subst (All IsName) e are.formed))

  left_new : (m : List ℕ) (ms : List (List ℕ)) → all ≡ names ++ m ∷ ms → is_named names m ≡ false
  left_new m ms e = list_any_none (bytes_eq m) names (All-from_get_or (λ x. bytes_eq m x ≡ false) names [] (λ i below. differs i below))
    where
      differs : (i : ℕ) → i < length names → bytes_eq m (get_or names i []) ≡ false
      differs i below = elim (cases_Bool (bytes_eq m (get_or names i []))) [
        | inl t ↦
            let size = length-append names (m ∷ ms) in
            let distinct = subst (λ l. (i j : ℕ) (d : List ℕ) → i < j → j < length l → get_or l i d ≢ get_or l j d) e are.distinct in
            let same : get_or names i [] ≡ m = sym ((bytes_eq-Decides m (get_or names i [])).0 t) in
            absurd (distinct i (length names) [] below (omega (arith, size))
            (get_or_append_left names (m ∷ ms) [] i below ∙ same ∙ sym (get_or-append_seam names m ms [])))
        | inr f ↦ f
      ]

  left_room : (m : List ℕ) (ms : List (List ℕ)) → all ≡ names ++ m ∷ ms → length names < 64
  left_room m ms e =
      let size = length-append names (m ∷ ms) in let few = are.few in let same = ap length e in omega (arith, size, few, same)

-- what stands before a line feed is the next name
pub record IsNext (all names : List (List ℕ)) (rest : List ℕ) : Type 0 where
  pub formed : IsName (before_first is_feed rest)
  pub new : is_named names (before_first is_feed rest) ≡ false
  pub room : length names < 64
  pub left : AreLeft all (names ++ before_first is_feed rest ∷ []) (after_first is_feed rest)

next_of : (all names : List (List ℕ)) (rest : List ℕ) → AreNames all → (more : List (List ℕ)) → all ≡ names ++ more → rest ≡ lines_of more
    → position_or_len is_feed rest < length rest → IsNext all names rest
next_of all names rest are [] e l found = absurd (let none = ap length l in omega (arith, none, found))
next_of all names rest are (m ∷ ms) e l found =
    let formed = left_formed all names rest are m ms e in
    let front : before_first is_feed rest ≡ m = ap (before_first is_feed) l ∙ before m (lines_of ms) formed in
    let back : after_first is_feed rest ≡ lines_of ms = ap (after_first is_feed) l ∙ after m (lines_of ms) formed in
    record {
      formed = subst IsName (sym front) formed;
      new = ap (is_named names) front ∙ left_new all names rest are m ms e;
      room = left_room all names rest are m ms e;
      left = record { more = ms; all_are = e ∙ sym (append_assoc names (m ∷ []) ms) ∙ ap (λ n. (names ++ n ∷ []) ++ ms) (sym front); lines = back };
    }

pub next : (lines : List ℕ) (names : List (List ℕ)) (rest : List ℕ) → Only lines names rest → position_or_len is_feed rest < length rest
    → (all : List (List ℕ)) → AreNames all → lines ≡ lines_of all → IsNext all names rest
next lines names rest only found all are e = let left = only all are e in next_of all names rest are left.more left.all_are left.lines found

-- where no line feed is left, these are all names
pub at_end : (lines : List ℕ) (names : List (List ℕ)) (rest : List ℕ) → Only lines names rest → (position_or_len is_feed rest < length rest → ⊥)
    → (all : List (List ℕ)) → AreNames all → lines ≡ lines_of all → (rest ≡ []) × (all ≡ names)
at_end lines names rest only none all are e = let left = only all are e in ended left.more left.all_are left.lines
  where
    ended : (more : List (List ℕ)) → all ≡ names ++ more → rest ≡ lines_of more → (rest ≡ []) × (all ≡ names)
    ended [] a l = (l, a ∙ append-nil names)
    ended (m ∷ ms) a l =
        let formed = left_formed all names rest are m ms a in
        let place = ap (position_or_len is_feed) l ∙ feed_behind m (lines_of ms) formed in
        let size = ap length l ∙ length-append m (10 ∷ lines_of ms) in
        absurd (none (omega (arith, place, size)))

lines_last : (names : List (List ℕ)) (name : List ℕ) → lines_of (names ++ name ∷ []) ≡ lines_of names ++ (name ++ 10 ∷ [])
lines_last [] name = refl
lines_last (n ∷ names) name = ap (λ t. n ++ (10 ∷ t)) (lines_last names name) ∙ sym (append_assoc n (10 ∷ lines_of names) (name ++ 10 ∷ []))

-- the lines so far, with one more
pub named_more : (lines : List ℕ) (names : List (List ℕ)) (rest : List ℕ) → position_or_len is_feed rest < length rest → lines ≡ lines_of names ++ rest
    → lines ≡ lines_of (names ++ before_first is_feed rest ∷ []) ++ after_first is_feed rest
named_more lines names rest found e =
    let name = before_first is_feed rest in
    let feed : get_or rest (position_or_len is_feed rest) 0 ≡ 10 = eqb-true (get_or rest (position_or_len is_feed rest) 0) 10
    (passes_at_first is_feed rest 0 found) in
    let cut : rest ≡ name ++ 10 ∷ after_first is_feed rest = split_at_first is_feed rest 0 found ∙ ap (λ b. name ++ b ∷ after_first is_feed rest) feed in
    e ∙ ap (λ r. lines_of names ++ r) (cut ∙ sym (append_assoc name (10 ∷ []) (after_first is_feed rest)))
    ∙ sym (append_assoc (lines_of names) (name ++ 10 ∷ []) (after_first is_feed rest))
    ∙ ap (λ t. t ++ after_first is_feed rest) (sym (lines_last names name))

pub named_all : (lines : List ℕ) (names : List (List ℕ)) (rest : List ℕ) → rest ≡ [] → lines ≡ lines_of names ++ rest → lines ≡ lines_of names
named_all lines names rest none e = e ∙ ap (λ r. lines_of names ++ r) none ∙ append-nil (lines_of names)

-- a look-up that finds nothing
pub no_place : (bytes : List ℕ) → position is_feed bytes ≡ None → position_or_len is_feed bytes < length bytes → ⊥
no_place bytes none found =
    let some : position is_feed bytes ≡ Some (position_or_len is_feed bytes) =
    ap (λ b. cond b (Some (position_or_len is_feed bytes)) None) (lt-ltb (position_or_len is_feed bytes) (length bytes) found) in
    let e : ◌≡◌ {A = Option ℕ} None (Some (position_or_len is_feed bytes)) = sym none ∙ some in cc e

pub place_of : (bytes : List ℕ) (at : ℕ) → position is_feed bytes ≡ Some at → (at ≡ position_or_len is_feed bytes) × (at < length bytes)
place_of bytes at e = position-index is_feed bytes (Some at) (sym e)

-- ---- one list of names

-- names that have the same lines are the same
pub one_list : (a b : List (List ℕ)) → All IsName a → All IsName b → lines_of a ≡ lines_of b → a ≡ b
one_list [] [] f g e = refl
one_list [] (n ∷ ns) f g e = absurd (let size = ap length e ∙ length-append n (10 ∷ lines_of ns) in omega (arith, size))
one_list (m ∷ ms) [] f g e = absurd (let size = ap length (sym e) ∙ length-append m (10 ∷ lines_of ms) in omega (arith, size))
one_list (m ∷ ms) (n ∷ ns) f g e =
    let first : IsName m = f 0 m (omega arith) in
    let other : IsName n = g 0 n (omega arith) in
    let same : m ≡ n = sym (before m (lines_of ms) first) ∙ ap (before_first is_feed) e ∙ before n (lines_of ns) other in
    let rest : lines_of ms ≡ lines_of ns = sym (after m (lines_of ms) first) ∙ ap (after_first is_feed) e ∙ after n (lines_of ns) other in
    ap (λ name. name ∷ ms) same ∙ ap (λ names. n ∷ names) (one_list ms ns (λ k d l. f (suc k) d (omega (arith, l))) (λ k d l. g (suc k) d (omega (arith, l)))
    rest)
