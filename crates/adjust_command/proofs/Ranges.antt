-- How many sets a listing may ask for.
use Rattle.std.proofs.Common.{◌≡◌, ℕ, ◌≤◌, List, Option, Some, None, refl, ap, subst}
use Rattle.std.specs.Prelude.{is_some, option_map}
use Rattle.adjust_command.specs.Queries.{Query, by_set, by_back_door, listing, IsInRange, HasRange}

abbrev number_of : Query → ℕ
number_of (listing k) = k
number_of q = 1

pub in_range : (q : Query) → HasRange q → IsInRange q
in_range (by_set names) h = tt
in_range (by_back_door names) h = tt
in_range (listing k) h = h k refl

pub range_of_listing : (most : ℕ) → (1 ≤ most) × (most ≤ 10000) → HasRange (listing most)
range_of_listing most r k e = subst (λ n. (1 ≤ n) × (n ≤ 10000)) (ap number_of e) r

pub range_of_set : (names : List (List ℕ)) → HasRange (by_set names)
range_of_set names k e = absurd (cc e)

pub range_of_back_door : (names : List (List ℕ)) → HasRange (by_back_door names)
range_of_back_door names k e = absurd (cc e)

-- a value is there where its text is
pub some_of_value : {A B : Type 0} (f : A → B) (o : Option A) → is_some (option_map f o) ≡ is_some o
some_of_value f None = refl
some_of_value f (Some x) = refl
