-- What was walked, by names.
use Rattle.std.proofs.Common.{◌≡◌, ℕ, Bool, true, false, ◌||◌, List, ◌++◌, refl, sym, ap, ap₂, ◌∙◌}
use Rattle.std.specs.Str.{bytes_eq}
use Rattle.std.proofs.lemmas.List.Folds.{list_any-append}
use Rattle.mixed_graph.specs.Vocabulary.{has, is_named}
use Rattle.targets.specs.Vocabulary.{first_fault, walked_in, Lists, AreSets}
use Rattle.targets.proofs.Queries.{set_test}
use Rattle.targets.proofs.Walking.{same_first_fault}
use Rattle.further_lists.specs.Faults.{further_fault}

or_or : (a b c : Bool) → (a || (b || c)) ≡ ((a || b) || c)
or_or true b c = refl
or_or false b c = refl

-- a name is in two lists where it is in one of them
named-append : (xs ys : List (List ℕ)) (m : List ℕ) → is_named (xs ++ ys) m ≡ (is_named xs m || is_named ys m)
named-append xs ys m = list_any-append (bytes_eq m) xs ys

pub neither_of : (a b : Bool) → (a || b) ≡ false → (a ≡ false) × (b ≡ false)
neither_of false b e = (refl, e)
neither_of true b e = absurd (cc)

-- the sets x, y and given, as a test of names
pub walked_names : (l : Lists) (x y given walked : ℕ) → AreSets l x y given → ((v : ℕ) → has walked v ≡ ((has x v || has y v) || has given v))
    → (list : List (List ℕ)) → first_fault l.all l.observed (walked_in l.observed walked) list ≡ further_fault l list
walked_names l x y given walked s is list = same_first_fault l.all l.observed (walked_in l.observed walked) (is_named (l.x ++ (l.y ++ l.given))) same list
  where
    same : (m : List ℕ) → is_named l.observed m ≡ true → walked_in l.observed walked m ≡ is_named (l.x ++ (l.y ++ l.given)) m
    same m there =
        is _
        ∙ ap₂ (λ (a b : Bool). a || b) (ap₂ (λ (a b : Bool). a || b) (set_test l.observed l.x x s.set_x m there) (set_test l.observed l.y y s.set_y m there))
        (set_test l.observed l.given given s.set_given m there)
        ∙ sym (or_or (is_named l.x m) (is_named l.y m) (is_named l.given m))
        ∙ sym (named-append l.x (l.y ++ l.given) m ∙ ap (λ b. is_named l.x m || b) (named-append l.y l.given m))

-- a name that isn't walked is in none of the three lists
pub in_none : (l : Lists) (m : List ℕ) → is_named (l.x ++ (l.y ++ l.given)) m ≡ false
    → (is_named l.x m ≡ false) × ((is_named l.y m ≡ false) × (is_named l.given m ≡ false))
in_none l m h =
    let one = neither_of (is_named l.x m) (is_named (l.y ++ l.given) m) (sym (named-append l.x (l.y ++ l.given) m) ∙ h) in
    (one.0, neither_of (is_named l.y m) (is_named l.given m) (sym (named-append l.y l.given m) ∙ one.1))
