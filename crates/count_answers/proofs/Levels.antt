-- Levels as they are printed.
use Rattle.std.proofs.Common.{ℕ, ◌≡◌, ◌≢◌, Bool, true, false, not, cond, eqb, ◌&&◌, ◌||◌, List, [], ◌∷◌, ◌++◌, refl, sym, ap, ◌∙◌, subst, append_assoc, eqb-true}
use Rattle.std.specs.List.{flat_map, list_all}
use Rattle.std.proofs.lemmas.Bool.{and_from, and_left, and_right, false≢true}
use Rattle.count_answers.specs.Lines.{is_break, escaped, printed_level, LevelsKeepToLine, LevelsAreToldApart}

abbrev stays : ℕ → Bool
stays b = not (eqb b 10)

all_append : (p : ℕ → Bool) (xs ys : List ℕ) → list_all p xs ≡ true → list_all p ys ≡ true → list_all p (xs ++ ys) ≡ true
all_append p [] ys h k = k
all_append p (x ∷ xs) ys h k = go (p x) h (λ rest. all_append p xs ys rest k)
  where
    go : (b : Bool) → (b && list_all p xs) ≡ true → (list_all p xs ≡ true → list_all p (xs ++ ys) ≡ true) → (b && list_all p (xs ++ ys)) ≡ true
    go true h more = more h
    go false h more = h

all_weaker : (p q : ℕ → Bool) → ((b : ℕ) → p b ≡ true → q b ≡ true) → (xs : List ℕ) → list_all p xs ≡ true → list_all q xs ≡ true
all_weaker p q w [] h = refl
all_weaker p q w (x ∷ xs) h = go (p x) refl h (λ rest. all_weaker p q w xs rest)
  where
    go : (b : Bool) → p x ≡ b → (b && list_all p xs) ≡ true → (list_all p xs ≡ true → list_all q xs ≡ true) → (q x && list_all q xs) ≡ true
    go true e h more = and_from (q x) (list_all q xs) (w x e) (more h)
    go false e h more = absurd (false≢true h)

unbroken_stays : (b : ℕ) → not (is_break b) ≡ true → stays b ≡ true
unbroken_stays b h = go (eqb b 10) refl
  where
    go : (c : Bool) → eqb b 10 ≡ c → not c ≡ true
    go true e = absurd (false≢true (sym (ap (λ d. not (d || (eqb b 13 || eqb b 34))) e) ∙ h))
    go false e = refl

escaped_stays : (b : ℕ) → list_all stays (escaped b) ≡ true
escaped_stays b = go (eqb b 10) refl
  where
    marked : (c : Bool) → eqb b 10 ≡ false → list_all stays (cond c (92 ∷ b ∷ []) (b ∷ [])) ≡ true
    marked true e = ap (λ d. not d && true) e
    marked false e = ap (λ d. not d && true) e

    next : (c : Bool) → eqb b 10 ≡ false → list_all stays (cond c (92 ∷ 114 ∷ []) (cond (eqb b 34 || eqb b 92) (92 ∷ b ∷ []) (b ∷ []))) ≡ true
    next true e = refl
    next false e = marked (eqb b 34 || eqb b 92) e

    go : (c : Bool) → eqb b 10 ≡ c
        → list_all stays (cond c (92 ∷ 110 ∷ []) (cond (eqb b 13) (92 ∷ 114 ∷ []) (cond (eqb b 34 || eqb b 92) (92 ∷ b ∷ []) (b ∷ [])))) ≡ true
    go true e = refl
    go false e = next (eqb b 13) e

all_escaped : (bs : List ℕ) → list_all stays (flat_map escaped bs) ≡ true
all_escaped [] = refl
all_escaped (b ∷ bs) = all_append stays (escaped b) (flat_map escaped bs) (escaped_stays b) (all_escaped bs)

on_one_line : (level : List ℕ) → list_all stays (printed_level level) ≡ true
on_one_line level = go (list_all (λ b. not (is_break b)) level) refl
  where
    go : (c : Bool) → list_all (λ b. not (is_break b)) level ≡ c → list_all stays (cond c level (34 ∷ flat_map escaped level ++ 34 ∷ [])) ≡ true
    go true e = all_weaker (λ b. not (is_break b)) stays unbroken_stays level e
    go false e = all_append stays (flat_map escaped level) (34 ∷ []) (all_escaped level) refl

pub levels_keep_to_line : LevelsKeepToLine
levels_keep_to_line = on_one_line

-- ---- what is printed between quotation marks is read back
-- the byte that a byte behind a backslash stands for
abbrev unescaped : ℕ → ℕ
unescaped c = cond (eqb c 110) 10 (cond (eqb c 114) 13 c)

-- the bytes up to the first quotation mark that has no backslash before it
abbrev read : Bool → List ℕ → List ℕ
read marked [] = []
read true (c ∷ r) = unescaped c ∷ read false r
read false (c ∷ r) = cond (eqb c 34) [] (cond (eqb c 92) (read true r) (c ∷ read false r))

read_one : (b : ℕ) (r : List ℕ) → read false (escaped b ++ r) ≡ b ∷ read false r
read_one b r = go (eqb b 10) refl
  where
    marked : (c d : Bool) → eqb b 34 ≡ c → eqb b 92 ≡ d → read false (cond (c || d) (92 ∷ b ∷ []) (b ∷ []) ++ r) ≡ b ∷ read false r
    marked true d e f = subst (λ (k : ℕ). read false ((92 ∷ k ∷ []) ++ r) ≡ k ∷ read false r) (sym (eqb-true b 34 e)) refl
    marked false true e f = subst (λ (k : ℕ). read false ((92 ∷ k ∷ []) ++ r) ≡ k ∷ read false r) (sym (eqb-true b 92 f)) refl
    marked false false e f = ap (λ c. cond c [] (cond (eqb b 92) (read true r) (b ∷ read false r))) e ∙ ap (λ c. cond c (read true r) (b ∷ read false r)) f

    next : (c : Bool) → eqb b 13 ≡ c → read false (cond c (92 ∷ 114 ∷ []) (cond (eqb b 34 || eqb b 92) (92 ∷ b ∷ []) (b ∷ [])) ++ r) ≡ b ∷ read false r
    next true e = ap (λ k. k ∷ read false r) (sym (eqb-true b 13 e))
    next false e = marked (eqb b 34) (eqb b 92) refl refl

    go : (c : Bool) → eqb b 10 ≡ c
        → read false (cond c (92 ∷ 110 ∷ []) (cond (eqb b 13) (92 ∷ 114 ∷ []) (cond (eqb b 34 || eqb b 92) (92 ∷ b ∷ []) (b ∷ []))) ++ r) ≡ b ∷ read false r
    go true e = ap (λ k. k ∷ read false r) (sym (eqb-true b 10 e))
    go false e = next (eqb b 13) refl

read_all : (bs : List ℕ) → read false (flat_map escaped bs ++ 34 ∷ []) ≡ bs
read_all [] = refl
read_all (b ∷ bs) = ap (read false) (append_assoc (escaped b) (flat_map escaped bs) (34 ∷ [])) ∙ read_one b (flat_map escaped bs ++ 34 ∷ [])
    ∙ ap (λ (l : List ℕ). b ∷ l) (read_all bs)

-- what has no quotation mark doesn't begin with one
no_quote : (a r : List ℕ) → list_all (λ b. not (is_break b)) a ≡ true → a ≡ 34 ∷ r → ⊥
no_quote a r h e = false≢true (sym (ap (list_all (λ b. not (is_break b))) e) ∙ h)

-- what is read behind the first byte
abbrev behind : List ℕ → List ℕ
behind [] = []
behind (q ∷ r) = read false r

told_apart : (a b : List ℕ) → printed_level a ≡ printed_level b → a ≡ b
told_apart a b h = go (list_all (λ b. not (is_break b)) a) (list_all (λ b. not (is_break b)) b) refl refl h
  where
    go : (c d : Bool) → list_all (λ b. not (is_break b)) a ≡ c → list_all (λ b. not (is_break b)) b ≡ d
        → cond c a (34 ∷ flat_map escaped a ++ 34 ∷ []) ≡ cond d b (34 ∷ flat_map escaped b ++ 34 ∷ []) → a ≡ b
    go true true e f h = h
    go true false e f h = absurd (no_quote a (flat_map escaped b ++ 34 ∷ []) e h)
    go false true e f h = absurd (no_quote b (flat_map escaped a ++ 34 ∷ []) f (sym h))
    go false false e f h = sym (read_all a) ∙ ap behind h ∙ read_all b

pub levels_are_told_apart : LevelsAreToldApart
levels_are_told_apart = told_apart
