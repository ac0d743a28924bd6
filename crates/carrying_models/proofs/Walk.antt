-- One coin for each bidirected edge of a walk: the parities of all vertices of a set that holds the walk add up to none.
use Rattle.std.proofs.Common.{ℕ, zero, suc, ◌≡◌, ◌≢◌, ◌<◌, ◌≤◌, ◌⊎◌, inl, inr, Bool, true, false, refl, sym, ap, ap₂, ◌∙◌, ◌&&◌, ◌||◌, ◌==◌, eqb, eqb-true}
use Rattle.std.proofs.Common.{ne_eqb, IsTrue, arith}
use Rattle.mixed_graph.specs.Vocabulary.{MixedGraph, IsMixedGraph}
use Rattle.hedge.specs.Vocabulary.{IsLinked, at, by}
use Rattle.finite_models.specs.Vocabulary.{differ, odd_below}
use Rattle.finite_models.proofs.Bools.{not_both}
use Rattle.finite_models.proofs.SumLaws.{eqb-refl}
use Rattle.counter_models.proofs.ParityLaws.{differ-self, and-comm, and-differ, odd-congr, odd-differ, odd-false, odd-one, incidences}
use Rattle.carrying_models.proofs.Core.{Coins}

-- a walk along bidirected edges inside t
pub record EdgeWalk (g : MixedGraph) (t : ℕ → Bool) (v w : ℕ) : Type 0 where
  pub steps : ℕ
  pub visit : ℕ → ℕ
  pub begins : visit 0 ≡ v
  pub ends : visit steps ≡ w
  pub inside : (i : ℕ) → i ≤ steps → t (visit i) ≡ true
  pub edges : (i : ℕ) → i < steps → IsTrue (g.both (visit i) (visit (suc i)))

-- u, and then the visits of a walk
abbrev put_first : ℕ → (ℕ → ℕ) → ℕ → ℕ
put_first u visit zero = u
put_first u visit (suc i) = visit i

pub walk_of : (g : MixedGraph) (t : ℕ → Bool) (w : ℕ) → t w ≡ true → (v : ℕ) → IsLinked g t (λ u. u == w) v → EdgeWalk g t v w
walk_of g t w i v (at e) = record {
  steps = 0;
  visit = λ k. v;
  begins = refl;
  ends = eqb-true v w e;
  inside = λ k l. ap t (eqb-true v w e) ∙ i;
  edges = λ k l. absurd (omega (arith, l));
}
walk_of g t w i u (by {v = v} m e l) = longer (walk_of g t w i v l)
  where
    longer : EdgeWalk g t v w → EdgeWalk g t u w
    longer r = record {
      steps = suc r.steps;
      visit = put_first u r.visit;
      begins = refl;
      ends = r.ends;
      inside = inside;
      edges = edges;
    }
      where
        inside : (k : ℕ) → k ≤ suc r.steps → t (put_first u r.visit k) ≡ true
        inside zero k = m
        inside (suc k) le = r.inside k (omega (arith, le))

        edges : (k : ℕ) → k < suc r.steps → IsTrue (g.both (put_first u r.visit k) (r.visit k))
        edges zero lt = ap (g.both u) r.begins ∙ e
        edges (suc k) lt = r.edges k (omega (arith, lt))

cancel : (a b c : Bool) → differ (differ a b) (differ b c) ≡ differ a c
cancel true true true = refl
cancel true true false = refl
cancel true false true = refl
cancel true false false = refl
cancel false true true = refl
cancel false true false = refl
cancel false false true = refl
cancel false false false = refl

-- whether k is a member, as a parity
pub one_member : (n k : ℕ) (t : ℕ → Bool) → k < n → odd_below n (λ i. t i && eqb i k) ≡ t k
one_member n k t lt = odd-congr n (λ i. t i && eqb i k) (λ i. eqb i k && t i) (λ i l. and-comm (t i) (eqb i k)) ∙ odd-one n k t lt

module _ (g : MixedGraph) (ok : IsMixedGraph g) (t : ℕ → Bool) (v w : ℕ) (r : EdgeWalk g t v w) where
  -- the coin of an edge serves its two ends
  abbrev pub serves : ℕ → ℕ → Bool
  serves j q = differ (eqb q (r.visit j)) (eqb q (r.visit (suc j)))

  apart : (j : ℕ) → j < r.steps → eqb (r.visit j) (r.visit (suc j)) ≡ false
  apart j lt = ne_eqb (r.visit j) (r.visit (suc j)) (λ e. not_both (g.both (r.visit j) (r.visit j)) (ap (g.both (r.visit j)) e ∙ r.edges j lt)
      (ok.no_loop (r.visit j)))

  parts : (j q : ℕ) → serves j q ≡ true → (q ≡ r.visit j) ⊎ (q ≡ r.visit (suc j))
  parts j q e = go (eqb q (r.visit j)) (eqb q (r.visit (suc j))) refl refl e
    where
      go : (a b : Bool) → eqb q (r.visit j) ≡ a → eqb q (r.visit (suc j)) ≡ b → differ a b ≡ true → (q ≡ r.visit j) ⊎ (q ≡ r.visit (suc j))
      go true b p h s = inl (eqb-true q (r.visit j) p)
      go false true p h s = inr (eqb-true q (r.visit (suc j)) h)
      go false false p h s = absurd (grind (arith, s))

  first_low : (j : ℕ) → j < r.steps → r.visit j < g.vertices
  first_low j lt = ok.both_below (r.visit j) (r.visit (suc j)) (r.edges j lt)

  second_low : (j : ℕ) → j < r.steps → r.visit (suc j) < g.vertices
  second_low j lt = ok.both_below (r.visit (suc j)) (r.visit j) (ok.symmetric (r.visit j) (r.visit (suc j)) (r.edges j lt))

  pub walk_coins : Coins g
  walk_coins = record {
    count = r.steps;
    serves = serves;
    one = r.visit;
    other = λ j. r.visit (suc j);
    two = two;
    some = λ j lt. (r.visit j, ap₂ differ (eqb-refl (r.visit j)) (apart j lt));
    low = low;
    joined = joined;
  }
    where
      two : (j q : ℕ) → j < r.steps → serves j q ≡ (eqb q (r.visit j) || eqb q (r.visit (suc j)))
      two j q lt = go (eqb q (r.visit j)) (eqb q (r.visit (suc j))) refl refl
        where
          go : (a b : Bool) → eqb q (r.visit j) ≡ a → eqb q (r.visit (suc j)) ≡ b → differ a b ≡ (a || b)
          go true true h k = absurd (not_both (eqb q (r.visit (suc j))) k
              (ap (λ i. eqb i (r.visit (suc j))) (eqb-true q (r.visit j) h) ∙ apart j lt))
          go true false h k = refl
          go false true h k = refl
          go false false h k = refl

      low : (j q : ℕ) → j < r.steps → IsTrue (serves j q) → q < g.vertices
      low j q lt e = elim (parts j q e) [ inl a ↦ rw a (first_low j lt) | inr a ↦ rw a (second_low j lt) ]

      joined : (j a b : ℕ) → j < r.steps → IsTrue (serves j a) → IsTrue (serves j b) → a ≢ b → IsTrue (g.both a b)
      joined j a b lt e f ne = go (parts j a e) (parts j b f)
        where
          go : (a ≡ r.visit j) ⊎ (a ≡ r.visit (suc j)) → (b ≡ r.visit j) ⊎ (b ≡ r.visit (suc j)) → IsTrue (g.both a b)
          go (inl p) (inl q) = absurd (ne (p ∙ sym q))
          go (inl p) (inr q) = rw (p, q) (r.edges j lt)
          go (inr p) (inl q) = rw (p, q) (ok.symmetric (r.visit j) (r.visit (suc j)) (r.edges j lt))
          go (inr p) (inr q) = absurd (ne (p ∙ sym q))

  -- only the walk's two ends have an odd number of its coins
  odd_ends : (q n : ℕ) → odd_below n (λ j. serves j q) ≡ differ (eqb q (r.visit 0)) (eqb q (r.visit n))
  odd_ends q zero = sym (differ-self (eqb q (r.visit 0)))
  odd_ends q (suc n) = ap (λ b. differ b (serves n q)) (odd_ends q n) ∙ cancel (eqb q (r.visit 0)) (eqb q (r.visit n)) (eqb q (r.visit (suc n)))

  pub ends_alone : (q : ℕ) → odd_below walk_coins.count (λ j. walk_coins.serves j q) ≡ differ (eqb q v) (eqb q w)
  unfolding walk_coins
  ends_alone q = odd_ends q r.steps ∙ ap₂ (λ a b. differ (eqb q a) (eqb q b)) r.begins r.ends

  -- each coin counts at two members of t
  twice : (j : ℕ) → j < r.steps → odd_below g.vertices (λ q. t q && serves j q) ≡ false
  twice j lt =
      odd-congr g.vertices (λ q. t q && serves j q) (λ q. differ (t q && eqb q (r.visit j)) (t q && eqb q (r.visit (suc j))))
      (λ q l. and-differ (t q) (eqb q (r.visit j)) (eqb q (r.visit (suc j))))
      ∙ odd-differ g.vertices (λ q. t q && eqb q (r.visit j)) (λ q. t q && eqb q (r.visit (suc j)))
      ∙ ap₂ differ (one_member g.vertices (r.visit j) t (first_low j lt) ∙ r.inside j (omega (arith, lt)))
      (one_member g.vertices (r.visit (suc j)) t (second_low j lt) ∙ r.inside (suc j) lt)

  -- so the parities of all members of t, whatever the coins show, add up to none
  pub sum_even : (shown : ℕ → Bool) → odd_below g.vertices (λ q. t q && odd_below walk_coins.count (λ j. walk_coins.serves j q && shown j)) ≡ false
  unfolding walk_coins
  sum_even shown =
      incidences g.vertices r.steps t (λ q j. serves j q) shown
      ∙ odd-congr r.steps (λ j. odd_below g.vertices (λ q. t q && serves j q) && shown j) (λ j. false)
      (λ j lt. ap (λ b. b && shown j) (twice j lt)) ∙ odd-false r.steps
