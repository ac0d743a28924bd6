-- Tables of 64 entries, and pairs of entries.
use Rattle.std.proofs.Common.{◌≡◌, ◌≢◌, ◌<◌, ◌≤◌, ◌+◌, ℕ, inl, inr, List, [], ◌∷◌, ◌++◌, length, get_or, take, set, replicate, refl, ap, ap₂, ◌∙◌}
use Rattle.std.proofs.Common.{arith, length-take, get_or-set_other}
use Rattle.std.specs.List.{zip}
use Rattle.std.proofs.lemmas.Bool.{cases_lt}
use Rattle.std.proofs.lemmas.List.{get_or-replicate, get_or_past, take_more_set}

-- no entry of a table of 64 is above 64
pub none_above : (v : ℕ) → get_or (replicate 64 64) v 0 ≤ 64
none_above v = elim (cases_lt v 64) [
  | inl lt ↦ let e : ◌≡◌ {A = ℕ} (get_or (replicate 64 64) v 0) 64 = get_or-replicate 64 v 64 0 lt in omega (arith, e)
  | inr le ↦ let e : ◌≡◌ {A = ℕ} (get_or (replicate 64 64) v 0) 0 = get_or_past (replicate 64 64) v 0 le in omega (arith, e)
]

-- an entry beside the one that is set stays blank
pub stays_blank : (xs : List ℕ) (k y i : ℕ) → i ≢ k → get_or xs i 0 ≡ 0 → get_or (set xs k y) i 0 ≡ 0
stays_blank xs k y i ne blank = get_or-set_other xs k i y 0 ne ∙ blank

zip_end : (xs ys : List ℕ) (x y : ℕ) → length xs ≡ length ys → zip (xs ++ x ∷ []) (ys ++ y ∷ []) ≡ zip xs ys ++ (x, y) ∷ []
zip_end [] [] x y e = refl
zip_end [] (b ∷ bs) x y e = absurd (omega (arith, e))
zip_end (a ∷ more) [] x y e = absurd (omega (arith, e))
zip_end (a ∷ more) (b ∷ bs) x y e = ap (λ l. (a, b) ∷ l) (zip_end more bs x y (omega (arith, e)))

-- the pairs with one more, which is set at the next place of both
pub pairs_more : (xs ys : List ℕ) (c x y : ℕ) → c < length xs → c < length ys
    → zip (take (c + 1) (set xs c x)) (take (c + 1) (set ys c y)) ≡ zip (take c xs) (take c ys) ++ (x, y) ∷ []
pairs_more xs ys c x y lt lu =
    ap₂ zip (take_more_set xs c x lt) (take_more_set ys c y lu)
    ∙ zip_end (take c xs) (take c ys) x y (omega (arith, length-take c xs, length-take c ys))
