-- Lists that grow and shrink at the end.
use Rattle.std.proofs.Common.{ℕ, zero, suc, ◌≡◌, ◌<◌, List, [], ◌∷◌, ◌++◌, ◌⊎◌, inl, inr, refl, sym, ap, ◌∙◌, get_or, length, arith}
use Rattle.std.specs.List.{All, Any, swap}
use Rattle.std.specs.List.Sorted.{IsPermutation}
use Rattle.std.proofs.lemmas.Bool.{cases_eq, cases_lt}
use Rattle.std.proofs.lemmas.List.Edits.{Swapped, swapped_from_swap, length-swap}
use Rattle.std.proofs.lemmas.List.Sorted.{Contains-permutation, IsPermutation-keeps}
use Rattle.minimal_sets.specs.Lists.{Each, SomeOf, Pairwise}

pub each_push : {A : Type 0} (P : A → Type 0) (xs : List A) (x : A) → Each P xs → P x → Each P (xs ++ x ∷ [])
each_push P [] x e p = (p, tt)
each_push P (y ∷ ys) x e p = (e.0, each_push P ys x e.1 p)

pub each_pop : {A : Type 0} (P : A → Type 0) (xs : List A) (x : A) → Each P (xs ++ x ∷ []) → Each P xs × P x
each_pop P [] x e = (tt, e.0)
each_pop P (y ∷ ys) x e = let r = each_pop P ys x e.1 in ((e.0, r.0), r.1)

pub each_map : {A : Type 0} (P Q : A → Type 0) (xs : List A) → ((x : A) → P x → Q x) → Each P xs → Each Q xs
each_map P Q [] h e = tt
each_map P Q (x ∷ xs) h e = (h x e.0, each_map P Q xs h e.1)

pub each_both : {A : Type 0} (P Q R : A → Type 0) (xs : List A) → ((x : A) → P x → Q x → R x) → Each P xs → Each Q xs → Each R xs
each_both P Q R [] h e f = tt
each_both P Q R (x ∷ xs) h e f = (h x e.0 f.0, each_both P Q R xs h e.1 f.1)

pub each_from_none : {A : Type 0} (P : A → Type 0) (xs : List A) → (SomeOf P xs → ⊥) → Each (λ x. P x → ⊥) xs
each_from_none P [] h = tt
each_from_none P (x ∷ xs) h = ((λ p. h (inl p)), each_from_none P xs (λ s. h (inr s)))

pub none_from_each : {A : Type 0} (P : A → Type 0) (xs : List A) → Each (λ x. P x → ⊥) xs → SomeOf P xs → ⊥
none_from_each P [] e s = s
none_from_each P (x ∷ xs) e (inl p) = e.0 p
none_from_each P (x ∷ xs) e (inr s) = none_from_each P xs e.1 s

pub pairwise_push : {A : Type 0} (R : A → A → Type 0) (xs : List A) (x : A) → Pairwise R xs → Each (λ y. R y x) xs → Pairwise R (xs ++ x ∷ [])
pairwise_push R [] x p e = (tt, tt)
pairwise_push R (y ∷ ys) x p e = (each_push (R y) ys x p.0 e.0, pairwise_push R ys x p.1 e.1)

pub pairwise_pop : {A : Type 0} (R : A → A → Type 0) (xs : List A) (x : A) → Pairwise R (xs ++ x ∷ []) → Pairwise R xs × Each (λ y. R y x) xs
pairwise_pop R [] x p = (tt, tt)
pairwise_pop R (y ∷ ys) x p = let a = each_pop (R y) ys x p.0 in let b = pairwise_pop R ys x p.1 in ((a.0, b.0), (a.1, b.1))

pub some_left : {A : Type 0} (P : A → Type 0) (xs : List A) (x : A) → SomeOf P xs → SomeOf P (xs ++ x ∷ [])
some_left P [] x s = absurd s
some_left P (y ∷ ys) x (inl p) = inl p
some_left P (y ∷ ys) x (inr s) = inr (some_left P ys x s)

pub some_right : {A : Type 0} (P : A → Type 0) (xs : List A) (x : A) → P x → SomeOf P (xs ++ x ∷ [])
some_right P [] x p = inl p
some_right P (y ∷ ys) x p = inr (some_right P ys x p)

pub some_pop : {A : Type 0} (P : A → Type 0) (xs : List A) (x : A) → SomeOf P (xs ++ x ∷ []) → SomeOf P xs ⊎ P x
some_pop P [] x (inl p) = inr p
some_pop P [] x (inr s) = absurd s
some_pop P (y ∷ ys) x (inl p) = inl (inl p)
some_pop P (y ∷ ys) x (inr s) = elim (some_pop P ys x s) [ inl t ↦ inl (inr t) | inr p ↦ inr p ]

-- the same, by places
pub each_at : {A : Type 0} (P : A → Type 0) (xs : List A) → Each P xs → (k : ℕ) (d : A) → k < length xs → P (get_or xs k d)
each_at P [] e k d lt = absurd (omega arith)
each_at P (x ∷ xs) e zero d lt = e.0
each_at P (x ∷ xs) e (suc k) d lt = each_at P xs e.1 k d (omega arith)

pub each_all : {A : Type 0} (P : A → Type 0) (xs : List A) → Each P xs → All P xs
each_all P xs e = λ k d lt. each_at P xs e k d lt

pub pairwise_at : {A : Type 0} (R : A → A → Type 0) (xs : List A) → Pairwise R xs → (i j : ℕ) (d : A) → i < j → j < length xs
    → R (get_or xs i d) (get_or xs j d)
pairwise_at R [] p i j d lt below = absurd (omega arith)
pairwise_at R (x ∷ xs) p i zero d lt below = absurd (omega arith)
pairwise_at R (x ∷ xs) p zero (suc j) d lt below = each_at (R x) xs p.0 j d (omega arith)
pairwise_at R (x ∷ xs) p (suc i) (suc j) d lt below = pairwise_at R xs p.1 i j d (omega arith) (omega arith)

pub some_any : {A : Type 0} (P : A → Type 0) (xs : List A) → SomeOf P xs → Any P xs
some_any P [] s = absurd s
some_any P (x ∷ xs) (inl p) = (0, x, omega arith, refl, p)
some_any P (x ∷ xs) (inr s) = let r = some_any P xs s in (suc r.0, r.1, (let lt = r.2 in omega arith), r.3, r.4)

-- ---- in another order
pub any_permuted : {A : Type 0} (P : A → Type 0) (xs ys : List A) → IsPermutation xs ys → Any P xs → Any P ys
any_permuted P xs ys moved (k, x, lt, is, p) = let c = Contains-permutation xs ys x moved (k, lt, is) in (c.0, x, c.1, c.2, p)

module _ {A : Type 0} (R : A → A → Type 0) (turn : (a b : A) → R a b → R b a) where
  -- two different places stand in the relation
  abbrev Apart : List A → Type 0
  Apart xs = (i j : ℕ) (d : A) → (i ≡ j → ⊥) → i < length xs → j < length xs → R (get_or xs i d) (get_or xs j d)

  apart_from : (xs : List A) → Pairwise R xs → (i j : ℕ) (d : A) → (i ≡ j → ⊥) → i < length xs → j < length xs → R (get_or xs i d) (get_or xs j d)
  apart_from xs p i j d other il jl = elim (cases_lt i j) [
    | inl lt ↦ pairwise_at R xs p i j d lt jl
    | inr ge ↦ turn (get_or xs j d) (get_or xs i d) (pairwise_at R xs p j i d (omega (arith, ge, other)) il)
  ]

  apart_swapped : (xs : List A) (a b : ℕ) → a < length xs → b < length xs
      → ((i j : ℕ) (d : A) → (i ≡ j → ⊥) → i < length xs → j < length xs → R (get_or xs i d) (get_or xs j d))
      → (i j : ℕ) (d : A) → (i ≡ j → ⊥) → i < length (swap xs a b) → j < length (swap xs a b) → R (get_or (swap xs a b) i d) (get_or (swap xs a b) j d)
  apart_swapped xs a b al bl h i j d other il jl = go (cases_eq i a) (cases_eq i b) (cases_eq j a) (cases_eq j b)
    where
      s : Swapped (λ k. get_or xs k d) (λ k. get_or (swap xs a b) k d) a b
      s = swapped_from_swap xs (swap xs a b) a b d al bl refl

      -- an element of the new list is one of the old
      from : (p q : ℕ) → get_or (swap xs a b) i d ≡ get_or xs p d → get_or (swap xs a b) j d ≡ get_or xs q d → (p ≡ q → ⊥) → p < length xs → q < length xs
          → R (get_or (swap xs a b) i d) (get_or (swap xs a b) j d)
      from p q e f n pl ql = rw (e, f) (h p q d n pl ql)

      long : length (swap xs a b) ≡ length xs
      long = length-swap xs a b

      at_a : (k : ℕ) → k ≡ a → get_or (swap xs a b) k d ≡ get_or xs b d
      at_a k e = ap (λ n. get_or (swap xs a b) n d) e ∙ s.0

      at_b : (k : ℕ) → k ≡ b → get_or (swap xs a b) k d ≡ get_or xs a d
      at_b k e = ap (λ n. get_or (swap xs a b) n d) e ∙ s.1

      go : (i ≡ a) ⊎ (i ≡ a → ⊥) → (i ≡ b) ⊎ (i ≡ b → ⊥) → (j ≡ a) ⊎ (j ≡ a → ⊥) → (j ≡ b) ⊎ (j ≡ b → ⊥)
          → R (get_or (swap xs a b) i d) (get_or (swap xs a b) j d)
      go (inl e) y (inl f) w = absurd (other (e ∙ sym f))
      go (inl e) y (inr z) (inl f) = from b a (at_a i e) (at_b j f) (λ n. other (e ∙ sym n ∙ sym f)) bl al
      go (inl e) y (inr z) (inr w) = from b j (at_a i e) (s.2 j z w) (λ n. w (sym n)) bl (omega (arith, long, jl))
      go (inr x) (inl e) (inl f) w = from a b (at_b i e) (at_a j f) (λ n. other (e ∙ sym n ∙ sym f)) al bl
      go (inr x) (inl e) (inr z) (inl f) = absurd (other (e ∙ sym f))
      go (inr x) (inl e) (inr z) (inr w) = from a j (at_b i e) (s.2 j z w) (λ n. z (sym n)) al (omega (arith, long, jl))
      go (inr x) (inr y) (inl f) w = from i b (s.2 i x y) (at_a j f) y (omega (arith, long, il)) bl
      go (inr x) (inr y) (inr z) (inl f) = from i a (s.2 i x y) (at_b j f) x (omega (arith, long, il)) al
      go (inr x) (inr y) (inr z) (inr w) = from i j (s.2 i x y) (s.2 j z w) other (omega (arith, long, il)) (omega (arith, long, jl))

  -- a relation between each two stays where the order changes
  pub pairwise_permuted : (xs ys : List A) → Pairwise R xs → IsPermutation xs ys → (i j : ℕ) (d : A) → (i ≡ j → ⊥) → i < length ys → j < length ys
      → R (get_or ys i d) (get_or ys j d)
  pairwise_permuted xs ys p moved = IsPermutation-keeps xs Apart (apart_from xs p) (λ l a b al bl h. apart_swapped l a b al bl h) ys moved
