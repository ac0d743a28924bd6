-- Two interventions on one set, side by side: the model whose vertices have the values that they have under both.
use Rattle.std.proofs.Common.{ℕ, zero, suc, ◌+◌, ◌*◌, ◌/◌, ◌%◌, ◌≡◌, ◌<◌, ◌≤◌, Bool, true, false, cond, ◌&&◌, ◌||◌, refl, sym, ap, ap₂, ◌∙◌, arith}
use Rattle.std.proofs.lemmas.Bool.{and_from}
use Rattle.std.proofs.lemmas.Nat.{div-mul-add, mod-mul-add, div_below}
use Rattle.mixed_graph.specs.Vocabulary.{MixedGraph, IsMixedGraph}
use Rattle.m_separation.specs.Vocabulary.{IsSeparated}
use Rattle.do_rules.specs.Vocabulary.{cut_into}
use Rattle.do_rules.proofs.Altered.{ranked_into, follows_into}
use Rattle.do_rules.proofs.Fewer.{graph_into}
use Rattle.do_rules.proofs.Separation.{separated_independent}
use Rattle.finite_models.specs.Vocabulary.{sum_over, FiniteModel, IsAssignment, IsWorld, IsSolution, solution, agree, event_weight, world_weight, intervene}
use Rattle.finite_models.proofs.Bools.{and_first, and_second, same_truth}
use Rattle.finite_models.proofs.Following.{Follows}
use Rattle.finite_models.proofs.Solutions.{IsRanked, solution_is, solution_within, unique, agree_gives, agree_from}
use Rattle.finite_models.proofs.SumLaws.{over-congr_within}

-- the weight of the worlds with c
abbrev pub weight_where : FiniteModel → ((ℕ → ℕ) → Bool) → ℕ
weight_where m c = sum_over (λ j. true) m.values m.causes (λ u. cond (c u) (world_weight m u) 0) (λ j. 0)

-- two values below k as one below k * k
abbrev pub pair_of : (k a b : ℕ) → ℕ
pair_of k a b = a * k + b

pair_below : (k a b : ℕ) → a < k → b < k → a * k + b < k * k
pair_below zero a b p q = absurd (omega (arith, p))
pair_below (suc k) a b p q = go k a b (omega (arith, p)) q
  where
    go : (k a b : ℕ) → a ≤ k → b < suc k → a * suc k + b < suc k * suc k
    go k a b p q = let le = times (suc k) a k p in let e : suc k * suc k ≡ k * suc k + suc k = omega arith in omega (arith, le, e, q)
      where
        times : (c a b : ℕ) → a ≤ b → a * c ≤ b * c
        times zero a b h = omega arith
        times (suc c) a b h = let r = times c a b h in let l : a * suc c ≡ a * c + a = omega arith in let m : b * suc c ≡ b * c + b = omega arith in omega (arith, r, l, m, h)

pair_first : (k a b : ℕ) → b < k → pair_of k a b / k ≡ a
pair_first k a b lt = div-mul-add a k b lt

pair_second : (k a b : ℕ) → b < k → pair_of k a b % k ≡ b
pair_second k a b lt = mod-mul-add a k b lt

module _ (g : MixedGraph) (m : FiniteModel) (rank : ℕ → ℕ) (is_graph : IsMixedGraph g) (ranked : IsRanked g rank) (follows : Follows g m)
    (x : ℕ → Bool) (s o : ℕ → ℕ) (s_in : IsAssignment m.vertices m.size s) (o_in : IsAssignment m.vertices m.size o) where
  -- the first and the second of the values
  abbrev firsts : (ℕ → ℕ) → ℕ → ℕ
  firsts t p = t p / m.size p

  abbrev seconds : (ℕ → ℕ) → ℕ → ℕ
  seconds t p = t p % m.size p

  abbrev both_values : (ℕ → ℕ) → (ℕ → ℕ) → ℕ → ℕ
  both_values a b v = pair_of (m.size v) (a v) (b v)

  abbrev pub paired : FiniteModel
  paired = record (intervene m x s) {
    size = λ v. m.size v * m.size v;
    mechanism = λ v t u. pair_of (m.size v) ((intervene m x s).mechanism v (firsts t) u) ((intervene m x o).mechanism v (seconds t) u);
  }

  follows_s : Follows (cut_into g x) (intervene m x s)
  follows_s = follows_into g m x s s_in follows

  follows_o : Follows (cut_into g x) (intervene m x o)
  follows_o = follows_into g m x o o_in follows

  firsts_in : (t : ℕ → ℕ) → IsAssignment m.vertices (λ v. m.size v * m.size v) t → IsAssignment m.vertices m.size (firsts t)
  firsts_in t h v vl = div_below (t v) (m.size v) (m.size v) (follows.positive_size v vl) (h v vl)

  seconds_in : (t : ℕ → ℕ) → IsAssignment m.vertices m.size (seconds t)
  seconds_in t v vl = let p = follows.positive_size v vl in omega (arith, p)

  follows_paired : Follows (cut_into g x) paired
  follows_paired = record {
    vertices = follows_s.vertices;
    joined = follows_s.joined;
    reads = λ v vl a b u w hp hc. ap₂ (λ i j. pair_of (m.size v) i j)
        (follows_s.reads v vl (firsts a) (firsts b) u w (λ p e. ap (λ k. k / m.size p) (hp p e)) hc)
        (follows_o.reads v vl (seconds a) (seconds b) u w (λ p e. ap (λ k. k % m.size p) (hp p e)) hc);
    below = λ v vl t u ht hu. pair_below (m.size v) ((intervene m x s).mechanism v (firsts t) u) ((intervene m x o).mechanism v (seconds t) u)
        (follows_s.below v vl (firsts t) u (firsts_in t ht) hu) (follows_o.below v vl (seconds t) u (seconds_in t) hu);
    positive_size = λ v vl. let p = follows.positive_size v vl in let lt = pair_below (m.size v) 0 0 p p in omega (arith, lt);
  }

  rank_cut : IsRanked (cut_into g x) rank
  rank_cut = ranked_into g x rank ranked

  -- in each world its solution is the pair of the two
  solution_pair : (u : ℕ → ℕ) → IsWorld m u → (v : ℕ) → v < m.vertices
      → solution paired u v ≡ pair_of (m.size v) (solution (intervene m x s) u v) (solution (intervene m x o) u v)
  solution_pair u world v vl =
      unique (cut_into g x) paired rank rank_cut follows_paired u (solution paired u)
      (both_values (solution (intervene m x s) u) (solution (intervene m x o) u))
      (solution_is (cut_into g x) paired rank rank_cut follows_paired u) is_solution v vl
    where
      o_low : (p : ℕ) → p < m.vertices → solution (intervene m x o) u p < m.size p
      o_low = solution_within (cut_into g x) (intervene m x o) follows_o u world

      is_solution : IsSolution paired u (both_values (solution (intervene m x s) u) (solution (intervene m x o) u))
      is_solution w wl = ap₂ (λ i j. pair_of (m.size w) i j)
          (solution_is (cut_into g x) (intervene m x s) rank rank_cut follows_s u w wl
          ∙ follows_s.reads w wl (solution (intervene m x s) u) (firsts (both_values (solution (intervene m x s) u) (solution (intervene m x o) u))) u u
          (λ p e. sym (pair_first (m.size p) (solution (intervene m x s) u p) (solution (intervene m x o) u p)
          (o_low p (rw follows.vertices (rank_cut.tail_below p w e))))) (λ j jl q. refl))
          (solution_is (cut_into g x) (intervene m x o) rank rank_cut follows_o u w wl
          ∙ follows_o.reads w wl (solution (intervene m x o) u) (seconds (both_values (solution (intervene m x s) u) (solution (intervene m x o) u))) u u
          (λ p e. sym (pair_second (m.size p) (solution (intervene m x s) u p) (solution (intervene m x o) u p)
          (o_low p (rw follows.vertices (rank_cut.tail_below p w e))))) (λ j jl q. refl))

  -- the vertices of d have the values a under do(x) at s, and b under do(x) at o
  abbrev pub in_both : (d : ℕ → Bool) (a b : ℕ → ℕ) → (ℕ → ℕ) → Bool
  in_both d a b u = agree m.vertices d (solution (intervene m x s) u) a && agree m.vertices d (solution (intervene m x o) u) b

  paired_event : (d : ℕ → Bool) (a b : ℕ → ℕ) → IsAssignment m.vertices m.size b
      → event_weight paired d (both_values a b) ≡ weight_where m (in_both d a b)
  paired_event d a b b_in =
      over-congr_within (λ j. true) m.values m.causes (λ u. cond (agree m.vertices d (solution paired u) (both_values a b)) (world_weight m u) 0)
      (λ u. cond (in_both d a b u) (world_weight m u) 0) (λ j. 0)
      (λ u inside same. ap (λ c. cond c (world_weight m u) 0) (at u (λ j jl. inside j jl refl)))
    where
      at : (u : ℕ → ℕ) → IsWorld m u → agree m.vertices d (solution paired u) (both_values a b) ≡ in_both d a b u
      at u world = same_truth (agree m.vertices d (solution paired u) (both_values a b)) (in_both d a b u)
          (λ h. and_from (agree m.vertices d (solution (intervene m x s) u) a) (agree m.vertices d (solution (intervene m x o) u) b)
          (agree_from m.vertices d (solution (intervene m x s) u) a (λ v vl i. first v vl (pairs h v vl i)))
          (agree_from m.vertices d (solution (intervene m x o) u) b (λ v vl i. second v vl (pairs h v vl i))))
          (λ h. agree_from m.vertices d (solution paired u) (both_values a b) (λ v vl i. solution_pair u world v vl
          ∙ ap₂ (λ i j. pair_of (m.size v) i j)
          (agree_gives m.vertices d (solution (intervene m x s) u) a
          (and_first (agree m.vertices d (solution (intervene m x s) u) a) (agree m.vertices d (solution (intervene m x o) u) b) h) v vl i)
          (agree_gives m.vertices d (solution (intervene m x o) u) b
          (and_second (agree m.vertices d (solution (intervene m x s) u) a) (agree m.vertices d (solution (intervene m x o) u) b) h) v vl i)))
        where
          pairs : agree m.vertices d (solution paired u) (both_values a b) ≡ true → (v : ℕ) → v < m.vertices → d v ≡ true
              → pair_of (m.size v) (solution (intervene m x s) u v) (solution (intervene m x o) u v) ≡ pair_of (m.size v) (a v) (b v)
          pairs h v vl i = sym (solution_pair u world v vl) ∙ agree_gives m.vertices d (solution paired u) (both_values a b) h v vl i

          o_low : (p : ℕ) → p < m.vertices → solution (intervene m x o) u p < m.size p
          o_low = solution_within (cut_into g x) (intervene m x o) follows_o u world

          first : (v : ℕ) → v < m.vertices
              → pair_of (m.size v) (solution (intervene m x s) u v) (solution (intervene m x o) u v) ≡ pair_of (m.size v) (a v) (b v)
              → solution (intervene m x s) u v ≡ a v
          first v vl e = sym (pair_first (m.size v) (solution (intervene m x s) u v) (solution (intervene m x o) u v) (o_low v vl))
              ∙ ap (λ k. k / m.size v) e ∙ pair_first (m.size v) (a v) (b v) (b_in v vl)

          second : (v : ℕ) → v < m.vertices
              → pair_of (m.size v) (solution (intervene m x s) u v) (solution (intervene m x o) u v) ≡ pair_of (m.size v) (a v) (b v)
              → solution (intervene m x o) u v ≡ b v
          second v vl e = sym (pair_second (m.size v) (solution (intervene m x s) u v) (solution (intervene m x o) u v) (o_low v vl))
              ∙ ap (λ k. k % m.size v) e ∙ pair_second (m.size v) (a v) (b v) (b_in v vl)

  -- what d separates once the edges into x are cut is independent given d under both interventions together
  pub independent_pairs : (y z d : ℕ → Bool) → ((v : ℕ) → y v ≡ true → v < g.vertices) → ((v : ℕ) → z v ≡ true → v < g.vertices)
      → ((v : ℕ) → d v ≡ true → v < g.vertices) → ((v : ℕ) → y v ≡ true → d v ≡ false) → ((v : ℕ) → z v ≡ true → d v ≡ false)
      → IsSeparated (cut_into g x) y z d → (a b : ℕ → ℕ) → IsAssignment m.vertices m.size b
      → weight_where m (in_both (λ v. y v || (z v || d v)) a b) * weight_where m (in_both d a b)
      ≡ weight_where m (in_both (λ v. y v || d v) a b) * weight_where m (in_both (λ v. z v || d v) a b)
  independent_pairs y z d yl zl dl yd zd sep a b b_in =
      ap₂ (λ i j. i * j) (sym (paired_event (λ v. y v || (z v || d v)) a b b_in)) (sym (paired_event d a b b_in))
      ∙ separated_independent (cut_into g x) paired rank (graph_into g x is_graph) rank_cut follows_paired y z d yl zl dl yd zd sep (both_values a b)
      ∙ ap₂ (λ i j. i * j) (paired_event (λ v. y v || d v) a b b_in) (paired_event (λ v. z v || d v) a b b_in)
