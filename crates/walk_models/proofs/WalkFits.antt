-- The model of a walk fits the graph.
use Rattle.std.proofs.Common.{ℕ, zero, suc, ◌^◌, ◌≡◌, ◌≢◌, ◌<◌, ◌≤◌, ◌⊎◌, inl, inr, Bool, true, false, cond, eqb, ltb, ◌&&◌, ◌||◌, ◌==◌, bit_or}
use Rattle.std.proofs.Common.{nat_lt, refl, sym, ap, ap₂, ◌∙◌, subst, IsTrue, arith, lt-ltb, ltb-true, eqb-true}
use Rattle.mixed_graph.specs.Vocabulary.{has, MixedGraph, IsMixedGraph}
use Rattle.mixed_graph.proofs.Masks.{le_from_subset}
use Rattle.m_separation.specs.declared.marks.Mark.{Mark}
use Rattle.m_separation.specs.declared.marks.Mark.TheVariants.{Out, Into, Both}
use Rattle.m_separation.specs.Vocabulary.{IsJoined}
use Rattle.finite_models.specs.Vocabulary.{sum_below, FiniteModel, Fits, mask_of, differ, ServesTwo}
use Rattle.finite_models.proofs.SumLaws.{eqb-refl}
use Rattle.finite_models.proofs.Totals.{sum_below-positive}
use Rattle.finite_models.proofs.Bools.{and_first, and_second}
use Rattle.walk_models.specs.Visits.{Walk, IsWalkIn}
use Rattle.finite_models.proofs.Packed.{has-mask}
use Rattle.walk_models.specs.WalkModels.{coin, is_both, sent_on, sent_back, has_own, has_coin, bit_of, from_before, from_after, new_bit, walk_model}

pub mask-congr : (t r : ℕ → Bool) (n : ℕ) → ((i : ℕ) → i < n → t i ≡ r i) → mask_of t n ≡ mask_of r n
unfolding mask_of
mask-congr t r zero h = refl
mask-congr t r (suc n) h = ap₂ (λ a b. bit_or a (cond b (2 ^ n) 0)) (mask-congr t r n (λ i lt. h i (omega arith))) (h n (omega arith))

or_split : (p q : Bool) → (p || q) ≡ true → (p ≡ true) ⊎ (q ≡ true)
or_split true q e = inl refl
or_split false q e = inr e

pub when : (p a b : Bool) → (p ≡ true → a ≡ b) → (p && a) ≡ (p && b)
when true a b h = h refl
when false a b h = refl

module _ (g : MixedGraph) (ok : IsMixedGraph g) (p : Walk) (walk : IsWalkIn g p) (last many : ℕ) (some : 1 ≤ many) where
  abbrev m : FiniteModel
  m = walk_model g.vertices p last many

  weights : (j : ℕ) → j < suc p.steps → 1 ≤ sum_below (m.values j) (m.weight j)
  weights j lt = sum_below-positive (cond (has_coin p j) 2 1) (m.weight j) 0 (low (has_coin p j)) (one (eqb j last))
    where
      low : (b : Bool) → 0 < cond b 2 1
      low true = omega arith
      low false = omega arith

      one : (b : Bool) → 1 ≤ cond (b && (0 == 0)) many 1
      one true = some
      one false = omega arith

  far : (j : ℕ) → (ltb j p.steps && (is_both (p.mark j))) ≡ true → IsTrue (g.both (p.at j) (p.at (suc j)))
  far j e = go (p.mark j) (and_second (ltb j p.steps) (is_both (p.mark j)) e)
      (walk.joined j (ltb-true j p.steps (and_first (ltb j p.steps) (is_both (p.mark j)) e)))
    where
      go : (k : Mark) → is_both k ≡ true → IsJoined g (p.at j) k (p.at (suc j)) → IsTrue (g.both (p.at j) (p.at (suc j)))
      go Out b h = absurd (grind (arith, b))
      go Into b h = absurd (grind (arith, b))
      go Both b h = h

  parts : (j v : ℕ) → m.serves j v ≡ true → (v ≡ p.at j) ⊎ (((ltb j p.steps && is_both (p.mark j)) ≡ true) × (v ≡ p.at (suc j)))
  parts j v e = go (or_split (eqb v (p.at j)) ((ltb j p.steps && is_both (p.mark j)) && eqb v (p.at (suc j))) e)
    where
      go : (eqb v (p.at j) ≡ true) ⊎ (((ltb j p.steps && is_both (p.mark j)) && eqb v (p.at (suc j))) ≡ true)
          → (v ≡ p.at j) ⊎ (((ltb j p.steps && is_both (p.mark j)) ≡ true) × (v ≡ p.at (suc j)))
      go (inl a) = inl (eqb-true v (p.at j) a)
      go (inr a) = inr (
        and_first (ltb j p.steps && is_both (p.mark j)) (eqb v (p.at (suc j))) a,
        eqb-true v (p.at (suc j))
            (and_second (ltb j p.steps && is_both (p.mark j)) (eqb v (p.at (suc j))) a),
      )

  child_low : (j v : ℕ) → j < suc p.steps → m.serves j v ≡ true → v < g.vertices
  child_low j v lt e = go (parts j v e)
    where
      go : (v ≡ p.at j) ⊎ (((ltb j p.steps && is_both (p.mark j)) ≡ true) × (v ≡ p.at (suc j))) → v < g.vertices
      go (inl a) = rw a (walk.vertex j (omega (arith, lt)))
      go (inr a) = rw a.1 (walk.vertex (suc j) (let l = ltb-true j p.steps (and_first (ltb j p.steps) (is_both (p.mark j)) a.0) in omega (arith, l)))

  together : (j u v : ℕ) → j < suc p.steps → m.serves j u ≡ true → m.serves j v ≡ true → u ≢ v → IsTrue (g.both u v)
  together j u v lt e f ne = go (parts j u e) (parts j v f)
    where
      Part : ℕ → Type 0
      Part x = (x ≡ p.at j) ⊎ (((ltb j p.steps && is_both (p.mark j)) ≡ true) × (x ≡ p.at (suc j)))

      go : Part u → Part v → IsTrue (g.both u v)
      go (inl a) (inl b) = absurd (ne (a ∙ sym b))
      go (inl a) (inr b) = rw (a, b.1) (far j b.0)
      go (inr a) (inl b) = rw (a.1, b) (ok.symmetric (p.at j) (p.at (suc j)) (far j a.0))
      go (inr a) (inr b) = absurd (ne (a.1 ∙ sym b.1))

  serves_here : (j : ℕ) → m.serves j (p.at j) ≡ true
  serves_here j = rw (eqb-refl (p.at j)) refl

  serves_there : (j : ℕ) → j < p.steps → p.mark j ≡ Both → m.serves j (p.at (suc j)) ≡ true
  serves_there j lt e = rw (lt-ltb j p.steps lt, e, eqb-refl (p.at (suc j))) (go (eqb (p.at (suc j)) (p.at j)))
    where
      go : (b : Bool) → (b || (true && (true && true))) ≡ true
      go true = refl
      go false = refl

  module _ (s t u w : ℕ → ℕ) (i : ℕ) (le : i < suc p.steps) (parents : (q : ℕ) → IsTrue (g.arrow q (p.at i)) → s q ≡ t q)
      (served : (j : ℕ) → j < suc p.steps → m.serves j (p.at i) ≡ true → u j ≡ w j) where
    before_same : (k : ℕ) → i ≡ k → from_before p s u k ≡ from_before p t w k
    before_same zero e = refl
    before_same (suc k) e = go (p.mark k) refl (walk.joined k (omega (arith, e, le)))
      where
        go : (q : Mark) → p.mark k ≡ q → IsJoined g (p.at k) q (p.at (suc k)) → sent_on q (bit_of p s k) (coin u k) ≡ sent_on q (bit_of p t k) (coin w k)
        go Out f h = ap (λ r. has r k) (parents (p.at k) (rw e h))
        go Into f h = refl
        go Both f h =
            ap (λ r. r == 1) (served k (omega (arith, e, le)) (subst (λ r. m.serves k (p.at r) ≡ true) (sym e) (serves_there k (omega (arith, e, le)) f)))

    after_same : from_after p s u i ≡ from_after p t w i
    after_same = when (ltb i p.steps) (sent_back (p.mark i) (bit_of p s (suc i)) (coin u i)) (sent_back (p.mark i) (bit_of p t (suc i)) (coin w i))
        (λ l. go (p.mark i) (walk.joined i (ltb-true i p.steps l)))
      where
        go : (q : Mark) → IsJoined g (p.at i) q (p.at (suc i)) → sent_back q (bit_of p s (suc i)) (coin u i) ≡ sent_back q (bit_of p t (suc i)) (coin w i)
        go Out h = refl
        go Into h = ap (λ r. has r (suc i)) (parents (p.at (suc i)) h)
        go Both h = ap (λ r. r == 1) (served i le (serves_here i))

    new_same : new_bit p s u i ≡ new_bit p t w i
    new_same = ap₂ differ (before_same i refl) (ap₂ differ after_same (ap (λ r. has_own p i && (r == 1)) (served i le (serves_here i))))

  reads_own : (v : ℕ) → v < g.vertices → (s t u w : ℕ → ℕ) → ((q : ℕ) → IsTrue (g.arrow q v) → s q ≡ t q)
      → ((j : ℕ) → j < suc p.steps → IsTrue (m.serves j v) → u j ≡ w j) → m.mechanism v s u ≡ m.mechanism v t w
  reads_own v lt s t u w parents served = mask-congr (λ i. eqb v (p.at i) && new_bit p s u i) (λ i. eqb v (p.at i) && new_bit p t w i) (suc p.steps)
      (λ i le. when (eqb v (p.at i)) (new_bit p s u i) (new_bit p t w i) (λ e. let same = eqb-true v (p.at i) e in
      new_same s t u w i le (subst (λ x. (q : ℕ) → IsTrue (g.arrow q x) → s q ≡ t q) same parents)
      (subst (λ x. (j : ℕ) → j < suc p.steps → IsTrue (m.serves j x) → u j ≡ w j) same served)))

  pub low_value : (t : ℕ → Bool) (n : ℕ) → mask_of t n < suc (mask_of (λ i. true) n)
  low_value t n = let le = le_from_subset (mask_of t n) (mask_of (λ i. true) n)
      (λ v e. has-mask (λ i. true) n v ∙ and_second (t v) (nat_lt v n) (sym (has-mask t n v) ∙ e)) in omega (arith, le)

  pub walk_fits : Fits g (walk_model g.vertices p last many)
  walk_fits = record {
    vertices = refl;
    positive_size = λ v lt. omega arith;
    positive_weight = weights;
    some_child = λ j lt. (p.at j, serves_here j);
    child_below = child_low;
    joined = together;
    reads = reads_own;
    below = λ v lt s u hs hu. low_value (λ i. eqb v (p.at i) && new_bit p s u i) (suc p.steps);
  }

-- the coin of an edge serves its two ends, and that of a visit its vertex
pub walk_two : (n : ℕ) (p : Walk) (last many : ℕ) → ServesTwo (walk_model n p last many)
walk_two n p last many = record {
  one = p.at;
  other = λ j. cond (ltb j p.steps && is_both (p.mark j)) (p.at (suc j)) (p.at j);
  serves = λ j v lt. go j v (ltb j p.steps && is_both (p.mark j));
}
  where
    twice : (e : Bool) → (e || false) ≡ (e || e)
    twice true = refl
    twice false = refl

    go : (j v : ℕ) (c : Bool) → (eqb v (p.at j) || (c && eqb v (p.at (suc j)))) ≡ (eqb v (p.at j) || eqb v (cond c (p.at (suc j)) (p.at j)))
    go j v true = refl
    go j v false = twice (eqb v (p.at j))
