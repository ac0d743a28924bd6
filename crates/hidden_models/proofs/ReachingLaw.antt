-- Which observed vertices a cause reaches can be computed.
use Rattle.std.proofs.Common.{ℕ, zero, suc, ◌+◌, ◌≡◌, ◌<◌, ◌≤◌, Bool, true, false, not, eqb, ◌&&◌, ◌||◌, List, [], ◌∷◌, length, inl, inr, refl, sym}
use Rattle.std.proofs.Common.{subst, arith}
use Rattle.std.proofs.lemmas.Bool.{and_from, or_cases, or_left, or_right, eqb-true, eq-eqb, false_from_ne_true, not_from_false}
use Rattle.mixed_graph.specs.Vocabulary.{MixedGraph, IsMixedGraph, IsDirectedPath}
use Rattle.mixed_graph.proofs.Paths.{end_below}
use Rattle.finite_models.specs.Vocabulary.{FiniteModel, Fits, sum_below}
use Rattle.finite_models.proofs.Bools.{and_first, and_second}
use Rattle.finite_models.proofs.Factors.{any_below, any_below_from, any_below_gives}
use Rattle.finite_models.proofs.Indicators.{number}
use Rattle.finite_models.proofs.Ranks.{with_rank}
use Rattle.finite_models.proofs.Solutions.{IsRanked}
use Rattle.latent_projection.specs.Vocabulary.{AreBefore}
use Rattle.latent_projection.proofs.Treks.{Reaches, clash, here, longer}
use Rattle.hidden_models.proofs.FoldingLaw.{fold, TellsReached, KeepsCauses}

-- whether a directed path of at most k arrows leads from c to v, its vertices before v being hidden
abbrev pub reaches_in : MixedGraph → (ℕ → Bool) → ℕ → ℕ → ℕ → Bool
reaches_in g l zero c v = eqb c v
reaches_in g l (suc k) c v = eqb c v || (l c && any_below g.vertices (λ d. g.arrow c d && reaches_in g l k d v))

-- whether cause j reaches the observed vertex v
abbrev pub reached : MixedGraph → (ℕ → Bool) → FiniteModel → ℕ → ℕ → Bool
reached g l m j v = not (l v) && any_below g.vertices (λ c. m.serves j c && reaches_in g l g.vertices c v)

-- whether cause j reaches some observed vertex
abbrev pub reaches_some : MixedGraph → (ℕ → Bool) → FiniteModel → ℕ → Bool
reaches_some g l m j = any_below g.vertices (λ v. reached g l m j v)

-- a bit whose negation is true is false
pub observed_of : (b : Bool) → not b ≡ true → b ≡ false
observed_of true e = absurd (grind (arith, e))
observed_of false e = refl

number_true : (b : Bool) → number b ≡ 1 → b ≡ true
number_true true e = refl
number_true false e = absurd (omega arith)

module _ (g : MixedGraph) (l : ℕ → Bool) (ok : IsMixedGraph g) where
  way_of : (k c v : ℕ) → reaches_in g l k c v ≡ true → Reaches g l c v
  way_of zero c v e = subst (λ t. Reaches g l c t) (eqb-true c v e) (here g l c)
  way_of (suc k) c v e = elim (or_cases (eqb c v) (l c && any_below g.vertices (λ d. g.arrow c d && reaches_in g l k d v)) e) [
    | inl same ↦ subst (λ t. Reaches g l c t) (eqb-true c v same) (here g l c)
    | inr on ↦
        let w = any_below_gives g.vertices (λ d. g.arrow c d && reaches_in g l k d v)
        (and_second (l c) (any_below g.vertices (λ d. g.arrow c d && reaches_in g l k d v)) on) in
        longer g l c w.0 v (and_first (l c) (any_below g.vertices (λ d. g.arrow c d && reaches_in g l k d v)) on)
        (and_first (g.arrow c w.0) (reaches_in g l k w.0 v) w.2) (way_of k w.0 v (and_second (g.arrow c w.0) (reaches_in g l k w.0 v) w.2))
  ]

  found_in : (k c : ℕ) (xs : List ℕ) (v : ℕ) → length xs ≤ k → IsDirectedPath g c xs v → AreBefore l c xs → reaches_in g l k c v ≡ true
  found_in zero c [] v le p b = eq-eqb c v p
  found_in zero c (x ∷ xs) v le p b = absurd (omega arith)
  found_in (suc k) c [] v le p b = or_left (eqb c v) (l c && any_below g.vertices (λ d. g.arrow c d && reaches_in g l k d v)) (eq-eqb c v p)
  found_in (suc k) c (x ∷ xs) v le p b = or_right (eqb c v) (l c && any_below g.vertices (λ d. g.arrow c d && reaches_in g l k d v))
      (and_from (l c) (any_below g.vertices (λ d. g.arrow c d && reaches_in g l k d v)) b.0
      (any_below_from g.vertices (λ d. g.arrow c d && reaches_in g l k d v) x (ok.head_below c x p.0)
      (and_from (g.arrow c x) (reaches_in g l k x v) p.0 (found_in k x xs v (omega arith) p.1 b.1))))

  rises_by : (rank : ℕ → ℕ) → IsRanked g rank → (c : ℕ) (xs : List ℕ) (v : ℕ) → IsDirectedPath g c xs v → length xs + rank c ≤ rank v
  rises_by rank ranked c [] v p = subst (λ t. 0 + rank c ≤ rank t) p (omega arith)
  rises_by rank ranked c (x ∷ xs) v p = omega (arith, ranked.rises c x p.0, rises_by rank ranked x xs v p.1)

  short : (rank : ℕ → ℕ) → IsRanked g rank → (c : ℕ) (xs : List ℕ) (v : ℕ) → IsDirectedPath g c xs v → length xs ≤ g.vertices
  short rank ranked c [] v p = omega arith
  short rank ranked c (x ∷ xs) v p = omega (
    arith,
    rises_by rank ranked c (x ∷ xs) v p,
    ranked.low v (end_below g ok.head_below x xs v (ok.head_below c x p.0) p.1),
  )

  found : (c v : ℕ) → Reaches g l c v → reaches_in g l g.vertices c v ≡ true
  found c v w = number_true (reaches_in g l g.vertices c v) (with_rank g ok (number (reaches_in g l g.vertices c v)) 1
      (λ rank ranked. let e : reaches_in g l g.vertices c v ≡ true = found_in g.vertices c w.path v (short rank ranked c w.path v w.leads) w.leads w.before in
      rw e refl))

  module _ (m : FiniteModel) (fit : Fits g m) where
    child_of : (j v : ℕ) → reached g l m j v ≡ true → (c : ℕ) × (c < g.vertices) × ((m.serves j c && reaches_in g l g.vertices c v) ≡ true)
    child_of j v e = any_below_gives g.vertices (λ c. m.serves j c && reaches_in g l g.vertices c v)
        (and_second (not (l v)) (any_below g.vertices (λ c. m.serves j c && reaches_in g l g.vertices c v)) e)

    observed : (j v : ℕ) → reached g l m j v ≡ true → l v ≡ false
    observed j v e = observed_of (l v) (and_first (not (l v)) (any_below g.vertices (λ c. m.serves j c && reaches_in g l g.vertices c v)) e)

    -- what a cause reaches is a vertex of the graph
    pub reached_below : (j v : ℕ) → reached g l m j v ≡ true → v < g.vertices
    reached_below j v e =
        let w = child_of j v e in
        let r = way_of g.vertices w.0 v (and_second (m.serves j w.0) (reaches_in g l g.vertices w.0 v) w.2) in
        end_below g ok.head_below w.0 r.path v w.1 r.leads

    -- what is computed is exactly which observed vertices a cause reaches
    pub tells_reached : TellsReached g l m (reached g l m)
    tells_reached = record {
      observed = observed;
      sound = λ j v e. let w = child_of j v e in record {
        child = w.0;
        served = and_first (m.serves j w.0) (reaches_in g l g.vertices w.0 v) w.2;
        way = way_of g.vertices w.0 v (and_second (m.serves j w.0) (reaches_in g l g.vertices w.0 v) w.2);
      };
      complete = λ j v jl o r. and_from (not (l v)) (any_below g.vertices (λ c. m.serves j c && reaches_in g l g.vertices c v)) (not_from_false (l v) o)
          (any_below_from g.vertices (λ c. m.serves j c && reaches_in g l g.vertices c v) r.child
          (subst (λ n. r.child < n) fit.vertices (fit.child_below j r.child jl r.served))
          (and_from (m.serves j r.child) (reaches_in g l g.vertices r.child v) r.served (found r.child v r.way)));
    }

    some_value : (j : ℕ) → 1 ≤ sum_below (m.values j) (m.weight j) → 0 < m.values j
    some_value j h = go (m.values j) h
      where
        go : (k : ℕ) → 1 ≤ sum_below k (m.weight j) → 0 < k
        go zero h = absurd (omega arith)
        go (suc k) h = omega arith

    -- in the folded model the causes that serve an observed vertex are those that reach one
    pub keeps_causes : KeepsCauses (fold m l (reached g l m)) (λ v. not (l v)) (reaches_some g l m)
    keeps_causes = record {
      idle = λ i v il e. false_from_ne_true (reached g l m i v) (λ h. clash (reaches_some g l m i)
          (any_below_from g.vertices (reached g l m i) v (reached_below i v h) h) e);
      busy = λ i il e. let w = any_below_gives g.vertices (reached g l m i) e in
          (w.0, subst (λ n. w.0 < n) (sym fit.vertices) w.1, not_from_false (l w.0) (observed i w.0 w.2), w.2);
      valued = λ i il. some_value i (fit.positive_weight i il);
    }
