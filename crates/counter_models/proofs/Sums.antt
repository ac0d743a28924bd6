-- Sums of bits and their parities.
use Rattle.std.proofs.Common.{ℕ, zero, suc, ◌+◌, ◌%◌, ◌≡◌, ◌<◌, ◌≤◌, Bool, true, false, cond, eqb, ◌&&◌, refl, sym, ap, ◌∙◌, List, [], ◌∷◌, ◌++◌, map}
use Rattle.std.proofs.Common.{sum, slice_index, arith}
use Rattle.std.proofs.lemmas.List.Sums.{sum_by-cons}
use Rattle.mixed_graph.specs.Vocabulary.{members_below}
use Rattle.finite_models.specs.Vocabulary.{sum_below, differ, odd_below}
use Rattle.finite_models.proofs.Indicators.{number}
use Rattle.hedge.specs.declared.hedge.Hedge.{Hedge}
use Rattle.counter_models.specs.Parities.{bit}
use Rattle.counter_models.specs.Links.{at_vertex}
use Rattle.counter_models.proofs.ParityLaws.{differ-assoc, differ-false}
use Rattle.counter_models.proofs.Lists.{members-suc, members-none}
use Rattle.counter_models.specs.Theory.{links_from}

-- x is odd exactly where b
abbrev pub HasParity : ℕ → Bool → Type 0
HasParity x b = x % 2 ≡ number b

pub parity-add : (x y : ℕ) (a b : Bool) → HasParity x a → HasParity y b → HasParity (x + y) (differ a b)
parity-add x y true true p q = omega arith
parity-add x y true false p q = omega arith
parity-add x y false true p q = omega arith
parity-add x y false false p q = omega arith

pub parity-bit : (x : ℕ) → x < 2 → HasParity x (bit x)
parity-bit zero lt = refl
parity-bit (suc zero) lt = refl
parity-bit (suc (suc x)) lt = absurd (omega arith)

pub parity-if : (c : Bool) (x : ℕ) (b : Bool) → (c ≡ true → HasParity x b) → HasParity (cond c x 0) (c && b)
parity-if true x b h = h refl
parity-if false x b h = refl

pub parity-sum : (n : ℕ) (f : ℕ → ℕ) (p : ℕ → Bool) → ((k : ℕ) → k < n → HasParity (f k) (p k)) → HasParity (sum_below n f) (odd_below n p)
parity-sum zero f p h = refl
parity-sum (suc n) f p h = parity-add (sum_below n f) (f n) (odd_below n p) (p n) (parity-sum n f p (λ k lt. h k (omega arith))) (h n (omega arith))

sum-append : (u : ℕ → ℕ) (xs ys : List ℕ) → sum (map u (xs ++ ys)) ≡ sum (map u xs) + sum (map u ys)
sum-append u [] ys = omega arith
sum-append u (x ∷ xs) ys =
    let a = sum_by-cons (λ q. q) (u x) (map u (xs ++ ys)) in let b = sum_by-cons (λ q. q) (u x) (map u xs) in
    a ∙ ap (λ r. u x + r) (sum-append u xs ys) ∙ (let z : u x + (sum (map u xs) + sum (map u ys)) ≡ (u x + sum (map u xs)) + sum (map u ys) = omega arith in
    z) ∙ ap (λ r. r + sum (map u ys)) (sym b)

pub parity-append : (u : ℕ → ℕ) (xs ys : List ℕ) (a b : Bool) → HasParity (sum (map u xs)) a → HasParity (sum (map u ys)) b
    → HasParity (sum (map u (xs ++ ys))) (differ a b)
parity-append u xs ys a b p q = ap (λ r. r % 2) (sum-append u xs ys) ∙ parity-add (sum (map u xs)) (sum (map u ys)) a b p q

pub parity-one : (u : ℕ → ℕ) (j : ℕ) → u j < 2 → HasParity (sum (map u (j ∷ []))) (bit (u j))
parity-one u j lt = ap (λ r. r % 2) (let e : sum (map u (j ∷ [])) ≡ u j = omega arith in e) ∙ parity-bit (u j) lt

pub parity-members : (u : ℕ → ℕ) (p : ℕ → Bool) (k : ℕ) → ((j : ℕ) → j < k → u j < 2)
    → HasParity (sum (map u (members_below p k))) (odd_below k (λ j. p j && bit (u j)))
parity-members u p zero h = ap (λ r. sum (map u r) % 2) (members-none p)
parity-members u p (suc k) h = ap (λ r. sum (map u r) % 2) (members-suc p k)
    ∙ parity-append u (members_below p k) (cond (p k) (k ∷ []) []) (odd_below k (λ j. p j && bit (u j))) (p k && bit (u k))
    (parity-members u p k (λ j lt. h j (omega arith))) (go (p k))
  where
    go : (b : Bool) → HasParity (sum (map u (cond b (k ∷ []) []))) (b && bit (u k))
    go true = parity-one u k (h k (omega arith))
    go false = refl

-- ---- links
module _ (h : Hedge) (v : ℕ) (w : ℕ → Bool) where
  abbrev pub link_bit : ℕ → Bool
  link_bit j = differ (eqb v (slice_index h.links.found (suc j))) (eqb v (slice_index h.links.partner (suc j))) && w j

  at_last : (a c : ℕ) → at_vertex a (links_from h (suc a) (suc c)) w v ≡ differ (at_vertex a (links_from h (suc a) c) w v) (link_bit (a + c))
  at_last a zero = differ-false (link_bit a) ∙ ap link_bit (let e : a ≡ a + 0 = omega arith in e)
  at_last a (suc c) = ap (differ (link_bit a)) (at_last (suc a) c) ∙ sym
      (differ-assoc (link_bit a) (at_vertex (suc a) (links_from h (suc (suc a)) c) w v) (link_bit (suc a + c)))
      ∙ ap (λ k. differ (differ (link_bit a) (at_vertex (suc a) (links_from h (suc (suc a)) c) w v)) (link_bit k))
      (let e : suc a + c ≡ a + suc c = omega arith in e)

  pub at_range : (a c : ℕ) → odd_below (a + c) link_bit ≡ differ (odd_below a link_bit) (at_vertex a (links_from h (suc a) c) w v)
  at_range a zero = ap (λ k. odd_below k link_bit) (let e : a + 0 ≡ a = omega arith in e) ∙ sym (differ-false (odd_below a link_bit))
  at_range a (suc c) = ap (λ k. odd_below k link_bit) (let e : a + suc c ≡ suc (a + c) = omega arith in e)
      ∙ ap (λ r. differ r (link_bit (a + c))) (at_range a c) ∙ differ-assoc (odd_below a link_bit) (at_vertex a (links_from h (suc a) c) w v) (link_bit (a + c))
      ∙ ap (differ (odd_below a link_bit)) (sym (at_last a c))

pub odd-tail : (a c : ℕ) (p : ℕ → Bool) → ((j : ℕ) → a ≤ j → j < a + c → p j ≡ false) → odd_below (a + c) p ≡ odd_below a p
odd-tail a zero p h = ap (λ k. odd_below k p) (let e : a + 0 ≡ a = omega arith in e)
odd-tail a (suc c) p h = ap (λ k. odd_below k p) (let e : a + suc c ≡ suc (a + c) = omega arith in e)
    ∙ ap (differ (odd_below (a + c) p)) (h (a + c) (omega arith) (omega arith)) ∙ differ-false (odd_below (a + c) p)
    ∙ odd-tail a c p (λ j le lt. h j le (omega arith))
