-- Lists of names.
use Rattle.std.proofs.Common.{◌≡◌, ◌||◌, Bool, true, false, not, List, [], ◌∷◌, ◌++◌, refl, ap, ◌∙◌}
use Rattle.std.specs.List.{list_all}
use Rattle.std.specs.Str.{bytes_eq}
use Rattle.std.proofs.lemmas.Slice.Eq.{bytes_eq-Decides}
use Rattle.clap.proofs.WalkLemmas.{both}
use Rattle.command_words.specs.Form.{Text, is_among}
use Rattle.std.proofs.Math.Bool.{or-true}
use Rattle.std.proofs.lemmas.Bool.{not-true}

-- what is true of all names is true of each that is among them
pub all_at : (p : Text → Bool) (names : List Text) (x : Text) → list_all p names ≡ true → is_among names x ≡ true → p x ≡ true
all_at p [] x e h = cc h
all_at p (y ∷ ys) x e h = go (bytes_eq y x) refl (all_at p ys x (both (p y) _ e).1)
  where
    go : (t : Bool) → bytes_eq y x ≡ t → (is_among ys x ≡ true → p x ≡ true) → p x ≡ true
    go true same next = let is : y ≡ x = (bytes_eq-Decides y x).0 same in let here = (both (p y) _ e).0 in cc
    go false other next = next (rw other at h)

pub or_assoc : (a b c : Bool) → (a || (b || c)) ≡ ((a || b) || c)
or_assoc true b c = refl
or_assoc false b c = refl

pub among_append : (xs ys : List Text) (x : Text) → is_among (xs ++ ys) x ≡ (is_among xs x || is_among ys x)
among_append [] ys x = refl
among_append (z ∷ zs) ys x = ap (λ (b : Bool). bytes_eq z x || b) (among_append zs ys x) ∙ or_assoc (bytes_eq z x) (is_among zs x) (is_among ys x)

-- what is among the first names is among both lists together
pub among_left : (xs ys : List Text) (x : Text) → is_among xs x ≡ true → is_among (xs ++ ys) x ≡ true
among_left xs ys x h = among_append xs ys x ∙ rw h

-- what is among the second names is among both lists together
pub among_right : (xs ys : List Text) (x : Text) → is_among ys x ≡ true → is_among (xs ++ ys) x ≡ true
among_right xs ys x h = among_append xs ys x ∙ rw h (or-true (is_among xs x))

-- x is one of those, and none of these is
pub other_side : (xs ys : List Text) (x : Text) → list_all (λ n. not (is_among ys n)) xs ≡ true → is_among ys x ≡ true → is_among xs x ≡ false
other_side xs ys x each has = go (is_among xs x) refl
  where
    go : (t : Bool) → is_among xs x ≡ t → is_among xs x ≡ false
    go true e = let lack = not-true _ (all_at (λ n. not (is_among ys n)) xs x each e) in cc (lack, has)
    go false e = e
