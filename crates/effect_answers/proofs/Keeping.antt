-- A test of all items of a list, one after another.
use Rattle.std.proofs.Common.{◌≡◌, ◌<◌, ◌≤◌, ◌+◌, ℕ, Bool, true, ◌&&◌, List, [], ◌∷◌, length, get_or, drop, sym, ap, subst, ◌∙◌}
use Rattle.std.proofs.lemmas.List.{at_drop_more, at_drop_all}

-- a test that holds of one more item says the same of the items behind it
pub one_more_kept : {X : Type 0} (F : List X → Bool) (f : X → Bool) → ((x : X) (xs : List X) → F (x ∷ xs) ≡ (f x && F xs)) → (xs : List X) (i : ℕ) (d : X)
    → i < length xs
    → f (get_or xs i d) ≡ true → F (drop i xs) ≡ F xs → F (drop (i + 1) xs) ≡ F xs
one_more_kept F f each xs i d lt here so_far =
    sym (at_drop_more F xs i d lt ∙ each (get_or xs i d) (drop (i + 1) xs) ∙ ap (λ b. b && F (drop (i + 1) xs)) here) ∙ so_far

-- the same of the item d of a list that is that one
pub next_kept : {X : Type 0} (F : List X → Bool) (f : X → Bool) → ((x : X) (xs : List X) → F (x ∷ xs) ≡ (f x && F xs)) → (xs ys : List X) (i : ℕ) (d : X) → ys
    ≡ xs → i < length ys → d ≡ get_or ys i d
    → f d ≡ true → F (drop i xs) ≡ F xs → F (drop (i + 1) xs) ≡ F xs
next_kept F f each xs ys i d same lt at here so_far =
    one_more_kept F f each xs i d (subst (λ l. i < length l) same lt) (subst (λ x. f x ≡ true) (at ∙ ap (λ l. get_or l i d) same) here) so_far

-- where no item is left, it holds of all
pub all_kept : {X : Type 0} (F : List X → Bool) → F [] ≡ true → (xs : List X) (i : ℕ) → length xs ≤ i → F (drop i xs) ≡ F xs → F xs ≡ true
all_kept F none xs i le so_far = sym so_far ∙ at_drop_all F xs i le ∙ none
