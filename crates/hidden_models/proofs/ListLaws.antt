-- Lists that are made element by element.
use Rattle.std.proofs.Common.{ℕ, zero, suc, ◌≡◌, ◌<◌, ◌≤◌, ◌+◌, Bool, ◌⊎◌, inl, inr, List, [], ◌∷◌, ◌++◌, length, get_or, length-append, refl, sym}
use Rattle.std.proofs.Common.{ap, ◌∙◌, subst, arith}
use Rattle.std.proofs.lemmas.Bool.{cases_lt}
use Rattle.std.proofs.lemmas.List.{get_or_append_left}
use Rattle.std.proofs.Math.Seq.{get_or-append_seam}
use Rattle.mixed_graph.specs.Vocabulary.{members_below}
use Rattle.hidden_models.proofs.Positions.{member_is}
use Rattle.hidden_models.specs.Lists.{AreListed}

pub listed-none : {X : Type 0} (P : ℕ → X → Type 0) → AreListed P [] 0
listed-none P = record { long = refl; each = λ i lt past. absurd (omega arith) }

pub listed-more : {X : Type 0} (P : ℕ → X → Type 0) (xs : List X) (n : ℕ) (x : X) → AreListed P xs n → P n x → AreListed P (xs ++ x ∷ []) (n + 1)
listed-more {X} P xs n x h p = record { long = long; each = λ i lt past. go i past lt (cases_lt i n) }
  where
    long : length (xs ++ x ∷ []) ≡ n + 1
    long = simp length-append (let e = h.long in omega arith)

    go : (i : ℕ) (past : X) → i < n + 1 → (i < n) ⊎ (n ≤ i) → P i (get_or (xs ++ x ∷ []) i past)
    go i past lt (inl l) = subst (P i) (sym (get_or_append_left xs (x ∷ []) past i (let e = h.long in omega arith))) (h.each i l past)
    go i past lt (inr ge) =
        let e : i ≡ n = omega arith in
        let k : i ≡ length xs = e ∙ sym h.long in
        subst (P i) (sym (ap (λ k. get_or (xs ++ x ∷ []) k past) k ∙ get_or-append_seam xs x [] past)) (subst (λ k. P k x) (sym e) p)

-- what stands at a place of a list
pub record StandsAt {X : Type 0} (xs : List X) (i : ℕ) : Type 0 where
  pub element : X
  pub is : (past : X) → get_or xs i past ≡ element

pub stands_at : {X : Type 0} (xs : List X) (i : ℕ) → i < length xs → StandsAt xs i
stands_at [] i lt = absurd (omega arith)
stands_at (x ∷ xs) zero lt = record { element = x; is = λ past. refl }
stands_at (x ∷ xs) (suc i) lt = let h = stands_at xs i (omega arith) in record { element = h.element; is = h.is }

-- an element of a listed list, with its fact
pub record ListedAt {X : Type 0} (P : ℕ → X → Type 0) (xs : List X) (i : ℕ) : Type 0 where
  pub element : X
  pub below : i < length xs
  pub is : (past : X) → get_or xs i past ≡ element
  pub fact : P i element

pub listed_at : {X : Type 0} (P : ℕ → X → Type 0) (xs : List X) (n i : ℕ) → AreListed P xs n → i < n → ListedAt P xs i
listed_at P xs n i h lt =
    let l : i < length xs = (let e = h.long in omega arith) in
    let s = stands_at xs i l in
    record { element = s.element; below = l; is = s.is; fact = subst (P i) (s.is s.element) (h.each i lt s.element) }

pub members-start : (s : ℕ → Bool) → members_below s 0 ≡ []
unfolding members_below
members-start s = refl

-- a list of members has members alone
pub members-within : (s : ℕ → Bool) (n : ℕ) (xs : List ℕ) → xs ≡ members_below s n → (i : ℕ) → i < length xs → get_or xs i 0 < n
members-within s n xs e i = subst (λ (ys : List ℕ). i < length ys → get_or ys i 0 < n) (sym e) (λ lt. (member_is s n i lt).below)
