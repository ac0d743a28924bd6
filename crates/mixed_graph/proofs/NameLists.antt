-- Names as lists of bytes, and as they are kept.
use Rattle.std.proofs.Common.{◌≡◌, ℕ, ◌+◌, Bool, true, false, List, [], ◌∷◌, ◌++◌, length, length-append, inl, inr, get_or, Some, Option, refl, ap}
use Rattle.std.proofs.Common.{sym, ◌∙◌, arith}
use Rattle.std.specs.Prelude.{zero, slice_get, option_map, ◌||◌, not, cond, position, IfSome, ◌<◌, None}
use Rattle.std.specs.List.{list_any, position_or_len, AllZip, each_same}
use Rattle.std.specs.Vec.{vec_len}
use Rattle.std.specs.Global.{Vec}
use Rattle.std.proofs.lemmas.List.{map-append}
use Rattle.std.proofs.lemmas.Option.{cond_some}
use Rattle.std.specs.Prelude.{suc}
use borrow.Author.Tests.{ltb-true}
use Rattle.std.specs.Str.{bytes_eq}
use Rattle.std.proofs.lemmas.List.{length-map}
use Rattle.indexmap.specs.IndexSet.{insert_key}
use Rattle.std.proofs.Math.Seq.{get_or-append_seam}
use Rattle.std.proofs.lemmas.Bool.{or_parts, cases_lt}
use Rattle.std.proofs.lemmas.List.{get_or_append_left}
use Rattle.std.proofs.lemmas.List.Elements.{All-append, All-from_get_or}
use Rattle.std.proofs.lemmas.Slice.Eq.{bytes_eq-Decides}
use Rattle.mixed_graph.specs.Names.{texts, index_of, is_named, IsName, AreNames}

-- a test holds of one of the texts exactly where a kept name has a text of which it holds
pub list_any-texts : (p : List ℕ → Bool) (ks : List (Vec ℕ)) → list_any p (texts ks) ≡ list_any (λ (k : Vec ℕ). p k.items) ks
list_any-texts p [] = refl
list_any-texts p (k ∷ ks) = ap (λ b. p k.items || b) (list_any-texts p ks)

-- the first text of which a test holds has the index of the first kept name with such a text
pub position_or_len-texts : (p : List ℕ → Bool) (ks : List (Vec ℕ)) → position_or_len p (texts ks) ≡ position_or_len (λ (k : Vec ℕ). p k.items) ks
position_or_len-texts p [] = refl
position_or_len-texts p (k ∷ ks) = ap (λ n. cond (not (p k.items)) (1 + n) 0) (position_or_len-texts p ks)

none_step : (b c : Bool) (m n : ℕ) → (b || c) ≡ false → (c ≡ false → m ≡ n) → cond (not b) (1 + m) 0 ≡ suc n
none_step true c m n h f = cc h
none_step false c m n h f = omega (arith, f h)

-- what is nowhere would be past the end
pub position_or_len-none : {X : Type 0} (p : X → Bool) (xs : List X) → list_any p xs ≡ false → position_or_len p xs ≡ length xs
position_or_len-none p [] h = refl
position_or_len-none p (x ∷ xs) h = none_step (p x) (list_any p xs) (position_or_len p xs) (length xs) h (position_or_len-none p xs)

-- the index that a look-up found
pub position-index : {X : Type 0} (p : X → Bool) (xs : List X) (r : Option ℕ) → r ≡ position p xs → IfSome r (λ i. (i ≡ position_or_len p xs) × (i < length xs))
position-index p xs None h = tt
position-index p xs (Some i) h =
    let found = cond_some _ _ _ (sym h) in
    let below : position_or_len p xs < length xs = ltb-true _ _ found.0 in
    (sym found.1, omega (arith, found.1, below))

-- a new name goes last
pub texts-insert : (ks : List (Vec ℕ)) (owned : Vec ℕ) (n : List ℕ) → owned.items ≡ n → list_any (bytes_eq n) (texts ks) ≡ false
    → texts (insert_key (λ (x : Vec ℕ) (y : Vec ℕ). bytes_eq x.items y.items) ks owned) ≡ texts ks ++ n ∷ []
texts-insert ks owned n is absent =
    let new : list_any (λ (k : Vec ℕ). bytes_eq owned.items k.items) ks ≡ false = rw is (sym (list_any-texts (bytes_eq n) ks) ∙ absent) in
    rw (new, map-append, is) refl

-- a name that isn't there would have the number of names as its index
pub index_of-absent : (names : List (List ℕ)) (name : List ℕ) → is_named names name ≡ false → length names ≡ index_of names name
index_of-absent names name absent = sym (position_or_len-none (bytes_eq name) names absent)

-- the index of a name that isn't there is the number of names
pub index_of-new : (ks : List (Vec ℕ)) (names : List (List ℕ)) (n : List ℕ) → texts ks ≡ names → false ≡ list_any (bytes_eq n) (texts ks) → length ks
    ≡ index_of names n
index_of-new ks names n is absent =
    let same : length (texts ks) ≡ length ks = simp length-map in
    rw (← is) (sym same ∙ sym (position_or_len-none (bytes_eq n) (texts ks) (sym absent)))

bytes_eq-from : (xs ys : List ℕ) → xs ≡ ys → bytes_eq xs ys ≡ true
bytes_eq-from xs ys e = (bytes_eq-Decides xs ys).1 e

-- a name that isn't there differs from each that is
named_not : (names : List (List ℕ)) (name other : List ℕ) (i : ℕ) (d : List ℕ) → is_named names name ≡ false → i < length names → get_or names i d ≡ name → ⊥
named_not [] name other i d out below e = absurd (omega arith)
named_not (x ∷ names) name other zero d out below e =
    let same : bytes_eq name x ≡ true = bytes_eq-from name x (sym e) in
    let p = or_parts (bytes_eq name x) (is_named names name) out in let q = p.0 in cc
named_not (x ∷ names) name other (suc i) d out below e =
    named_not names name other i d (or_parts (bytes_eq name x) (is_named names name) out).1 (omega arith) e

-- names with a new one behind them are names
pub AreNames-append : (names : List (List ℕ)) (name : List ℕ) → AreNames names → IsName name → is_named names name ≡ false → length names < 64
    → AreNames (names ++ name ∷ [])
AreNames-append names name s formed new room = record {
  few = let e = length-append names (name ∷ []) in omega (arith, e);
  formed = All-append IsName names (name ∷ []) s.formed (All-from_get_or IsName (name ∷ []) [] (λ i h. one i h));
  distinct = λ i j d lt below same.
      let e = length-append names (name ∷ []) in
      elim (cases_lt j (length names)) [
        | inl inside ↦ s.distinct i j d lt inside
            (sym (get_or_append_left names (name ∷ []) d i (omega (arith, inside))) ∙ same ∙ get_or_append_left names (name ∷ []) d j inside)
        | inr past ↦
            let at : j ≡ length names = omega (arith, e, past) in
            let here : get_or (names ++ name ∷ []) j d ≡ name = ap (λ k. get_or (names ++ name ∷ []) k d) at ∙ get_or-append_seam names name [] d in
            named_not names name name i d new (omega (arith, at)) (sym (get_or_append_left names (name ∷ []) d i (omega (arith, at))) ∙ same ∙ here)
      ];
}
  where
    one : (i : ℕ) → i < 1 → IsName (get_or (name ∷ []) i [])
    one zero h = formed
    one (suc i) h = absurd (omega arith)

-- the text of a name that is kept
pub slice_get-texts : (ks : List (Vec ℕ)) (i : ℕ) (k : Vec ℕ) → slice_get ks i ≡ Some k → slice_get (texts ks) i ≡ Some k.items
slice_get-texts [] i k e = absurd (cc)
slice_get-texts (x ∷ ks) zero k e = ap (λ (o : Option (Vec ℕ)). option_map (λ (v : Vec ℕ). v.items) o) e
slice_get-texts (x ∷ ks) (suc i) k e = slice_get-texts ks i k e

-- clones of the names have the same texts
pub texts-cloned : (xs ys : List (Vec ℕ)) → AllZip (λ x y. AllZip (λ a b. b ≡ a) x.items y.items × (vec_len y ≡ vec_len x)) xs ys → texts ys ≡ texts xs
texts-cloned [] [] h = refl
texts-cloned [] (y ∷ ys) h = elim h [ ]
texts-cloned (x ∷ xs) [] h = elim h [ ]
texts-cloned (x ∷ xs) (y ∷ ys) h = rw (each_same x.items y.items h.0.0, texts-cloned xs ys h.1) refl
