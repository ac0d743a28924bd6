-- Levels in order of first appearance.
use Rattle.std.proofs.Common.{◌≡◌, ℕ, zero, suc, ◌+◌, ◌<◌, ◌^◌, Bool, true, false, cond, ◌||◌, not, List, [], ◌∷◌, ◌++◌, length, length-append, inl}
use Rattle.std.proofs.Common.{inr, get_or}
use Rattle.std.proofs.Common.{refl, ap, sym, ◌∙◌, arith}
use Rattle.std.specs.Prelude.{◌≢◌, map, fold}
use Rattle.std.specs.Str.{bytes_eq}
use Rattle.std.proofs.Math.Bool.{or-true}
use Rattle.std.proofs.lemmas.Bool.{or_parts, cases_Bool}
use Rattle.std.proofs.lemmas.List.{map-append}
use Rattle.std.proofs.lemmas.List.Folds.{list_any-append, list_any_at}
use Rattle.std.proofs.lemmas.List.Quantifiers.{all_pairs_push}
use Rattle.std.proofs.lemmas.Slice.Eq.{bytes_eq-Decides}
use Rattle.std.specs.Global.{Vec}
use Rattle.mixed_graph.specs.Vocabulary.{index_of, is_named, with_name, texts}
use Rattle.count_rows.specs.Levels.{AreLevels}
use Rattle.count_rows.specs.Records.{Record, field_in, levels_at}

-- levels with a new one behind them are levels
pub AreLevels-append : (names : List (List ℕ)) (name : List ℕ) → AreLevels names → is_named names name ≡ false → length names + 1 < 2 ^ 32
    → AreLevels (names ++ name ∷ [])
AreLevels-append names name s new room = record {
  few = let e = length-append names (name ∷ []) in omega (arith, e);
  distinct = all_pairs_push (λ (a : List ℕ) (b : List ℕ). a ≢ b) names name s.distinct (λ k d below same.
      let there : is_named names name ≡ true = list_any_at (bytes_eq name) names k d below ((bytes_eq-Decides name (get_or names k d)).1 (sym same)) in
      cc (there, new));
}

-- one record more
pub levels_at-append : (rows : List Record) (r : Record) (place : ℕ) → levels_at (rows ++ r ∷ []) place ≡ with_name (levels_at rows place) (field_in place r)
unfolding levels_at
levels_at-append rows r place =
    ap (λ (l : List (List ℕ)). fold with_name [] l) (map-append (field_in place) rows (r ∷ [])) ∙ fold_last (map (field_in place) rows) (field_in place r) []
  where
    fold_last : (xs : List (List ℕ)) (x : List ℕ) (start : List (List ℕ)) → fold with_name start (xs ++ x ∷ []) ≡ with_name (fold with_name start xs) x
    fold_last [] x start = refl
    fold_last (y ∷ xs) x start = fold_last xs x (with_name start y)

here : (b : Bool) (m n : ℕ) → b ≡ true → cond (not b) m n ≡ n
here true m n e = refl
here false m n e = absurd (cc e)

-- a level that is there keeps its number
index_of-append : (names more : List (List ℕ)) (x : List ℕ) → is_named names x ≡ true → index_of (names ++ more) x ≡ index_of names x
index_of-append [] more x h = absurd (cc h)
index_of-append (y ∷ names) more x h = elim (cases_Bool (bytes_eq x y)) [
  | inl same ↦ here (bytes_eq x y) _ _ same ∙ sym (here (bytes_eq x y) _ _ same)
  | inr other ↦ ap (λ n. cond (not (bytes_eq x y)) (1 + n) 0) (index_of-append names more x
      (let e : (bytes_eq x y || is_named names x) ≡ is_named names x = ap (λ b. b || is_named names x) other in sym e ∙ h))
]

-- and so it does where another is added
pub index_of-with_name : (names : List (List ℕ)) (new x : List ℕ) → is_named names x ≡ true → index_of (with_name names new) x ≡ index_of names x
index_of-with_name names new x h = elim (cases_Bool (is_named names new)) [
  | inl there ↦ ap (λ b. index_of (cond b names (names ++ new ∷ [])) x) there
  | inr absent ↦ ap (λ b. index_of (cond b names (names ++ new ∷ [])) x) absent ∙ index_of-append names (new ∷ []) x h
]

is_named-append : (names more : List (List ℕ)) (x : List ℕ) → is_named names x ≡ true → is_named (names ++ more) x ≡ true
is_named-append names more x h = list_any-append (bytes_eq x) names more ∙ ap (λ b. b || is_named more x) h

is_named-last : (names : List (List ℕ)) (x : List ℕ) → is_named (names ++ x ∷ []) x ≡ true
is_named-last names x = list_any-append (bytes_eq x) names (x ∷ []) ∙ ap (λ b. is_named names x || (b || false)) ((bytes_eq-Decides x x).1 refl)
    ∙ or-true (is_named names x)

-- what was there is still there
pub is_named-with_name : (names : List (List ℕ)) (new x : List ℕ) → is_named names x ≡ true → is_named (with_name names new) x ≡ true
is_named-with_name names new x h = elim (cases_Bool (is_named names new)) [
  | inl there ↦ ap (λ b. is_named (cond b names (names ++ new ∷ [])) x) there ∙ h
  | inr absent ↦ ap (λ b. is_named (cond b names (names ++ new ∷ [])) x) absent ∙ is_named-append names (new ∷ []) x h
]

-- what was added is there, at its number
pub is_named-with_name_self : (names : List (List ℕ)) (x : List ℕ) → is_named (with_name names x) x ≡ true
is_named-with_name_self names x = elim (cases_Bool (is_named names x)) [
  | inl there ↦ ap (λ b. is_named (cond b names (names ++ x ∷ [])) x) there ∙ there
  | inr absent ↦ ap (λ b. is_named (cond b names (names ++ x ∷ [])) x) absent ∙ is_named-last names x
]

index_of-last : (names : List (List ℕ)) (x : List ℕ) → is_named names x ≡ false → index_of (names ++ x ∷ []) x ≡ index_of names x
index_of-last [] x h = here (bytes_eq x x) _ _ ((bytes_eq-Decides x x).1 refl)
index_of-last (y ∷ names) x h =
    let p = or_parts (bytes_eq x y) (is_named names x) h in
    ap (λ n. cond (not (bytes_eq x y)) (1 + n) 0) (index_of-last names x p.1)

-- its number is the one that it was given
pub index_of-with_name_self : (names : List (List ℕ)) (x : List ℕ) → index_of (with_name names x) x ≡ index_of names x
index_of-with_name_self names x = elim (cases_Bool (is_named names x)) [
  | inl there ↦ ap (λ b. index_of (cond b names (names ++ x ∷ [])) x) there
  | inr absent ↦ ap (λ b. index_of (cond b names (names ++ x ∷ [])) x) absent ∙ index_of-last names x absent
]

-- a kept level's text
pub text_at : (ks : List (Vec ℕ)) (i : ℕ) (k : Vec ℕ) → i < length ks → k ≡ get_or ks i k → get_or (texts ks) i [] ≡ k.items
text_at [] i k h is = absurd (omega (arith, h))
text_at (x ∷ ks) zero k h is = ap (λ (v : Vec ℕ). v.items) (sym is)
text_at (x ∷ ks) (suc i) k h is = text_at ks i k (omega (arith, h)) is
