-- A set that is made member by member.
use Rattle.std.proofs.Common.{ℕ, ◌+◌, ◌≡◌, ◌<◌, Bool, true, false, ◌||◌, ◌&&◌, ◌==◌, nat_lt, refl, sym, ap, ◌∙◌, arith}
use Rattle.std.proofs.lemmas.Bool.{lt-ltb, eqb-true}
use Rattle.mixed_graph.specs.Vocabulary.{has}
use Rattle.mixed_graph.proofs.MaskLaws.{has_none}
use Rattle.treated_models.specs.Vocabulary.{prime_of, primed_in}

-- the set has the numbers below n of which P holds
abbrev pub HasBelow : (ℕ → Bool) → (made n : ℕ) → Type 0
HasBelow P made n = (u : ℕ) → has made u ≡ (nat_lt u n && P u)

below_next : (u v : ℕ) → nat_lt u (v + 1) ≡ (nat_lt u v || (u == v))
below_next u v = grind arith

pub seen_more : (P : ℕ → Bool) (made made' v : ℕ) → HasBelow P made v → P v ≡ true → ((u : ℕ) → has made' u ≡ (has made u || (u == v)))
    → HasBelow P made' (v + 1)
seen_more P made made' v is e more u =
    more u ∙ ap (λ b. b || (u == v)) (is u) ∙ go (nat_lt u v) (u == v) refl ∙ sym (ap (λ b. b && P u) (below_next u v))
  where
    go : (a b : Bool) → (u == v) ≡ b → ((a && P u) || b) ≡ ((a || b) && P u)
    go a true same = let h : P u ≡ true = ap P (eqb-true u v same) ∙ e in bools a (P u) h
      where
        bools : (a p : Bool) → p ≡ true → ((a && p) || true) ≡ ((a || true) && p)
        bools a p h = grind (arith, h)
    go a false same = bools a (P u)
      where
        bools : (a p : Bool) → ((a && p) || false) ≡ ((a || false) && p)
        bools a p = grind arith

pub seen_skip : (P : ℕ → Bool) (made v : ℕ) → HasBelow P made v → P v ≡ false → HasBelow P made (v + 1)
seen_skip P made v is e u = is u ∙ go (nat_lt u v) (u == v) refl ∙ sym (ap (λ b. b && P u) (below_next u v))
  where
    go : (a b : Bool) → (u == v) ≡ b → (a && P u) ≡ ((a || b) && P u)
    go a true same = let h : P u ≡ false = ap P (eqb-true u v same) ∙ e in bools a (P u) h
      where
        bools : (a p : Bool) → p ≡ false → (a && p) ≡ ((a || true) && p)
        bools a p h = grind (arith, h)
    go a false same = bools a (P u)
      where
        bools : (a p : Bool) → (a && p) ≡ ((a || false) && p)
        bools a p = grind arith

pub seen_all : (P : ℕ → Bool) (made n : ℕ) → ((u : ℕ) → P u ≡ true → u < n) → HasBelow P made n → (u : ℕ) → has made u ≡ P u
seen_all P made n low is u = is u ∙ go (P u) refl
  where
    go : (b : Bool) → P u ≡ b → (nat_lt u n && b) ≡ b
    go true e = ap (λ a. a && true) (lt-ltb u n (low u e))
    go false e = bools (nat_lt u n)
      where
        bools : (a : Bool) → (a && false) ≡ false
        bools a = grind arith

pub seen_none : (P : ℕ → Bool) → HasBelow P 0 0
seen_none P u = has_none u ∙ bools (P u)
  where
    bools : (p : Bool) → false ≡ (nat_lt u 0 && p)
    bools p = grind arith

-- a member of x whose primed name is there is one of n vertices
pub primed_low : (n x : ℕ) (names : ℕ → Bool) (u : ℕ) → ((v : ℕ) → has x v ≡ true → v < n) → primed_in n x names u ≡ true → u < n
primed_low n x names u within e = within u (first (has x u) (names (prime_of n x u)) e)
  where
    first : (p q : Bool) → (p && q) ≡ true → p ≡ true
    first p q h = grind (arith, h)
