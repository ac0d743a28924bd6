-- An acyclic graph can't fail to have a rank: the number of proper ancestors.
use Rattle.std.proofs.Common.{ℕ, zero, suc, ◌+◌, ◌≡◌, ◌<◌, ◌≤◌, Bool, true, false, eqb, refl, sym, ap, ◌∙◌, ◌∷◌, [], ◌++◌, List, arith, eqb-true}
use Rattle.std.proofs.lemmas.Bool.{false_from_ne_true}
use Rattle.mixed_graph.specs.Vocabulary.{MixedGraph, IsMixedGraph, IsDirectedPath}
use Rattle.finite_models.specs.Sums.{sum_below}
use Rattle.finite_models.proofs.Indicators.{number}
use Rattle.finite_models.proofs.Solutions.{IsRanked}
use Rattle.finite_models.proofs.Tested.{Tests, tested_each, stable}

-- w leads to v by one arrow or more
pub record IsProperAncestor (g : MixedGraph) (w v : ℕ) : Type 0 where
  pub next : ℕ
  pub path : List ℕ
  pub leads : IsDirectedPath g w (next ∷ path) v

abbrev pub count_of : ℕ → (ℕ → Bool) → ℕ
count_of n p = sum_below n (λ i. number (p i))

count-le : (n : ℕ) (p q : ℕ → Bool) → ((i : ℕ) → i < n → p i ≡ true → q i ≡ true) → count_of n p ≤ count_of n q
count-le zero p q h = omega arith
count-le (suc n) p q h = omega (arith, count-le n p q (λ i lt e. h i (omega arith) e), at (p n) (q n) (h n (omega arith)))
  where
    at : (a b : Bool) → (a ≡ true → b ≡ true) → number a ≤ number b
    at true b h = rw (h refl) (omega arith)
    at false b h = omega arith

count-lt : (n : ℕ) (p q : ℕ → Bool) (k : ℕ) → ((i : ℕ) → i < n → p i ≡ true → q i ≡ true) → k < n → p k ≡ false → q k ≡ true → count_of n p < count_of n q
count-lt zero p q k h lt a b = absurd (omega arith)
count-lt (suc n) p q k h lt a b = go (eqb k n) refl (λ l. count-lt n p q k (λ i il e. h i (omega arith) e) l a b)
  where
    at : (a b : Bool) → (a ≡ true → b ≡ true) → number a ≤ number b
    at true b h = rw (h refl) (omega arith)
    at false b h = omega arith

    go : (c : Bool) → eqb k n ≡ c → (k < n → count_of n p < count_of n q) → count_of n p + number (p n) < count_of n q + number (q n)
    go true e ih =
        let pn : p n ≡ false = ap p (sym (eqb-true k n e)) ∙ a in let qn : q n ≡ true = ap q (sym (eqb-true k n e)) ∙ b in
        omega (arith, count-le n p q (λ i il e. h i (omega arith) e), ap number pn, ap number qn)
    go false e ih = omega (arith, ih (let d : k ≡ n → ⊥ = λ s. absurd (grind (arith, s, e)) in omega arith), at (p n) (q n) (h n (omega arith)))

count-all : (n : ℕ) → count_of n (λ i. true) ≡ n
count-all zero = refl
count-all (suc n) = omega (arith, count-all n)

path-append : (g : MixedGraph) (w : ℕ) (xs : List ℕ) (u v : ℕ) → IsDirectedPath g w xs u → g.arrow u v ≡ true → IsDirectedPath g w (xs ++ v ∷ []) v
path-append g w [] u v p a = (rw p a, refl)
path-append g w (x ∷ xs) u v p a = (p.0, path-append g x xs u v p.1 a)

module _ (g : MixedGraph) (ok : IsMixedGraph g) where
  further : (w u v : ℕ) → IsProperAncestor g w u → g.arrow u v ≡ true → IsProperAncestor g w v
  further w u v r a = record { next = r.next; path = r.path ++ v ∷ []; leads = path-append g w (r.next ∷ r.path) u v r.leads a }

  below_all : (t : Tests (IsProperAncestor g) g.vertices g.vertices) (v : ℕ) → v < g.vertices → t.test v v ≡ false
  below_all t v lt = false_from_ne_true (t.test v v) (λ e. let r = t.sound v v lt e in ok.acyclic v r.next r.path r.leads)

  ranks : (t : Tests (IsProperAncestor g) g.vertices g.vertices) → IsRanked g (λ u. count_of g.vertices (t.test u))
  ranks t = record {
    tail_below = ok.tail_below;
    rises = λ u v a. count-lt g.vertices (t.test u) (t.test v) u (λ w lt e. t.complete v w (ok.head_below u v a) lt
        (further w u v (t.sound u w (ok.tail_below u v a) e) a))
        (ok.tail_below u v a) (below_all t u (ok.tail_below u v a)) (t.complete v u (ok.head_below u v a) (ok.tail_below u v a)
        (record { next = v; path = []; leads = (a, refl) }));
    low = λ v lt. omega (arith, count-lt g.vertices (t.test v) (λ w. true) v (λ w l e. refl) lt (below_all t v lt) refl, count-all g.vertices);
  }

  -- an equation of numbers may be proved as if the graph had a rank
  pub with_rank : (a b : ℕ) → ((rank : ℕ → ℕ) → IsRanked g rank → a ≡ b) → a ≡ b
  with_rank a b h = stable a b (λ differ. tested_each (IsProperAncestor g) g.vertices g.vertices
      (λ t. differ (h (λ u. count_of g.vertices (t.test u)) (ranks t))))
