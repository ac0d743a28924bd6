-- Pairs of vertices.
use Rattle.std.proofs.Common.{◌≡◌, ◌<◌, ◌≤◌, ◌+◌, ◌==◌, ℕ, Bool, true, false, cond, List, [], ◌∷◌, ◌++◌, length, get_or, take, drop, refl}
use Rattle.std.proofs.Common.{sym, ap, ap₂, ◌∙◌, append_assoc, append-nil, arith, length-take}
use Rattle.std.specs.List.{zip}
use Rattle.std.proofs.lemmas.List.{take_more, at_drop_more, at_drop_all}
use Rattle.certificate_json.specs.Certificates.{choices_from}

-- both vertices are below n
abbrev pub IsWithin : ℕ → ℕ × ℕ → Type 0
IsWithin n p = (p.0 < n) × (p.1 < n)

zip_end : (xs ys : List ℕ) (x y : ℕ) → length xs ≡ length ys → zip (xs ++ x ∷ []) (ys ++ y ∷ []) ≡ zip xs ys ++ (x, y) ∷ []
zip_end [] [] x y e = refl
zip_end [] (b ∷ bs) x y e = absurd (omega (arith, e))
zip_end (a ∷ more) [] x y e = absurd (omega (arith, e))
zip_end (a ∷ more) (b ∷ bs) x y e = ap (λ l. (a, b) ∷ l) (zip_end more bs x y (omega (arith, e)))

-- the pairs of one more place
pub zip_more : (xs ys : List ℕ) (i : ℕ) → i < length xs → length xs ≡ length ys
    → zip (take (i + 1) xs) (take (i + 1) ys) ≡ zip (take i xs) (take i ys) ++ (get_or xs i 0, get_or ys i 0) ∷ []
zip_more xs ys i lt e =
    ap₂ zip (take_more xs i 0 lt) (take_more ys i 0 (omega (arith, e)))
    ∙ zip_end (take i xs) (take i ys) (get_or xs i 0) (get_or ys i 0) (omega (arith, length-take i xs, length-take i ys, e))

-- ---- choices

one_choice : (v c : ℕ) (b : Bool) (rest : List (ℕ × ℕ)) → cond b rest ((v, c) ∷ rest) ≡ cond b [] ((v, c) ∷ []) ++ rest
one_choice v c true rest = refl
one_choice v c false rest = refl

-- the choices of the vertices from i on: that of i, and the others
choice_more : (cs : List ℕ) (i : ℕ) → i < length cs → choices_from i (drop i cs) ≡ choices_from i (get_or cs i 0 ∷ []) ++ choices_from (i + 1) (drop (i + 1) cs)
choice_more cs i lt = at_drop_more (choices_from i) cs i 0 lt ∙ one_choice i (get_or cs i 0) (get_or cs i 0 == 64) (choices_from (i + 1) (drop (i + 1) cs))

-- the choices up to i are listed, and then that of i too
pub choice_listed : (cs : List ℕ) (i : ℕ) (all more whole : List (ℕ × ℕ)) → i < length cs → more ≡ all ++ choices_from i (get_or cs i 0 ∷ [])
    → all ++ choices_from i (drop i cs) ≡ whole → more ++ choices_from (i + 1) (drop (i + 1) cs) ≡ whole
choice_listed cs i all more whole lt pushed so_far =
    let rest = choices_from (i + 1) (drop (i + 1) cs) in
    ap (λ l. l ++ rest) pushed ∙ append_assoc all (choices_from i (get_or cs i 0 ∷ [])) rest ∙ ap (λ l. all ++ l) (sym (choice_more cs i lt)) ∙ so_far

-- where all vertices are past, all choices are listed
pub choices_listed : (cs : List ℕ) (i : ℕ) (all whole : List (ℕ × ℕ)) → length cs ≤ i → all ++ choices_from i (drop i cs) ≡ whole → all ≡ whole
choices_listed cs i all whole le so_far =
    sym (ap (λ l. all ++ l) (at_drop_all (choices_from i) cs i le) ∙ append-nil all) ∙ so_far
