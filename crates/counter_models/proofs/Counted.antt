-- Members of a set by their numbers.
use Rattle.std.proofs.Common.{ℕ, zero, suc, ◌≡◌, ◌<◌, ◌≤◌, Bool, true, false, cond, eqb, ◌&&◌, ◌⊎◌, inl, inr, refl, sym, ap, ◌∙◌, List, [], ◌∷◌, ◌++◌}
use Rattle.std.proofs.Common.{get_or, length, arith, eqb-true, eq-eqb}
use Rattle.std.proofs.lemmas.Bool.{cases_lt}
use Rattle.mixed_graph.specs.Vocabulary.{has, members_below}
use Rattle.mixed_graph.proofs.Members.{one_if, length-members-suc, length-members-zero}
use Rattle.finite_models.specs.Vocabulary.{odd_below}
use Rattle.counter_models.proofs.ParityLaws.{odd-congr, odd-one}
use Rattle.counter_models.specs.Pairs.{before}
use Rattle.counter_models.proofs.Lists.{before-less, members-suc}

pub get-first : (xs ys : List ℕ) (j d : ℕ) → j < length xs → get_or (xs ++ ys) j d ≡ get_or xs j d
get-first [] ys j d lt = absurd (omega arith)
get-first (x ∷ xs) ys zero d lt = refl
get-first (x ∷ xs) ys (suc j) d lt = get-first xs ys j d (omega arith)

pub get-last : (xs : List ℕ) (k j d : ℕ) → j ≡ length xs → get_or (xs ++ k ∷ []) j d ≡ k
get-last [] k zero d e = refl
get-last [] k (suc j) d e = absurd (omega arith)
get-last (x ∷ xs) k zero d e = absurd (omega arith)
get-last (x ∷ xs) k (suc j) d e = get-last xs k j d (omega arith)

-- the member with as many members before it
pub numbered : (s v k : ℕ) → has s v ≡ true → v < k → get_or (members_below (has s) k) (before s v) 0 ≡ v
numbered s v zero e lt = absurd (omega arith)
numbered s v (suc k) e lt = ap (λ r. get_or r (before s v) 0) (members-suc (has s) k) ∙ go (cases_lt v k) (numbered s v k e)
  where
    go : (v < k) ⊎ (k ≤ v) → (v < k → get_or (members_below (has s) k) (before s v) 0 ≡ v)
        → get_or (members_below (has s) k ++ cond (has s k) (k ∷ []) []) (before s v) 0 ≡ v
    go (inl l) ih = get-first (members_below (has s) k) (cond (has s k) (k ∷ []) []) (before s v) 0 (before-less s v k e l) ∙ ih l
    go (inr ge) ih = let q : k ≡ v = omega arith in
        ap (λ b. get_or (members_below (has s) k ++ cond b (k ∷ []) []) (before s v) 0) (ap (has s) q ∙ e)
        ∙ get-last (members_below (has s) k) k (before s v) 0 (ap (before s) (sym q)) ∙ q

pub same_number : (s v u : ℕ) → has s v ≡ true → has s u ≡ true → before s v ≡ before s u → v ≡ u
same_number s v u e f q = go (cases_lt v u) (cases_lt u v)
  where
    go : (v < u) ⊎ (u ≤ v) → (u < v) ⊎ (v ≤ u) → v ≡ u
    go (inl l) r = absurd (let a = before-less s v u e l in omega arith)
    go (inr a) (inl l) = absurd (let b = before-less s u v f l in omega arith)
    go (inr a) (inr b) = omega arith

pub find : (s k i : ℕ) → i < before s k → (v : ℕ) × (v < k) × (has s v ≡ true) × (before s v ≡ i)
find s zero i lt = absurd (let z = length-members-zero (has s) in omega arith)
find s (suc k) i lt = go (cases_lt i (before s k)) (has s k) refl (find s k i)
  where
    go : (i < before s k) ⊎ (before s k ≤ i) → (b : Bool) → has s k ≡ b → (i < before s k → (v : ℕ) × (v < k) × (has s v ≡ true) × (before s v ≡ i)) → (v : ℕ)
        × (v < suc k) × (has s v ≡ true) × (before s v ≡ i)
    go (inl l) b e ih = let w = ih l in (w.0, (let t = w.1 in omega arith), w.2, w.3)
    go (inr ge) true e ih = (k, omega arith, e, (let m = length-members-suc (has s) k in let z : one_if (has s k) ≡ 1 = ap one_if e in omega arith))
    go (inr ge) false e ih = absurd (let m = length-members-suc (has s) k in let z : one_if (has s k) ≡ 0 = ap one_if e in omega arith)

ne_false : (a b : ℕ) → (a ≡ b → ⊥) → eqb a b ≡ false
ne_false a b h = go (eqb a b) refl
  where
    go : (c : Bool) → eqb a b ≡ c → eqb a b ≡ false
    go true e = absurd (h (eqb-true a b e))
    go false e = e

-- one member alone has the number j
pub odd_single : (n : ℕ) (A : ℕ → Bool) (f : ℕ → ℕ) (j v : ℕ) → v < n → A v ≡ true → f v ≡ j → ((w : ℕ) → A w ≡ true → f w ≡ j → w ≡ v)
    → odd_below n (λ w. A w && eqb j (f w)) ≡ true
odd_single n A f j v l i e h = odd-congr n (λ w. A w && eqb j (f w)) (λ w. eqb w v && A w) (λ w lt. same w (A w) refl (eqb w v) refl) ∙ (odd-one n v A l ∙ i)
  where
    same : (w : ℕ) (b : Bool) → A w ≡ b → (c : Bool) → eqb w v ≡ c → (b && eqb j (f w)) ≡ (c && b)
    same w true q true z = eq-eqb j (f w) (sym (rw (eqb-true w v z) e))
    same w true q false z = ne_false j (f w) (λ t. let r = h w q (sym t) in let m = eq-eqb w v r in absurd (grind (arith, m, z)))
    same w false q true z = refl
    same w false q false z = refl
