-- A model whose mechanisms are tables with the values of another's has the same weights.
use Rattle.std.proofs.Common.{ℕ, zero, suc, ◌*◌, ◌≡◌, ◌<◌, ◌≤◌, Bool, true, not, cond, List, sym, ap, ap₂, ◌∙◌, subst, arith, get_or}
use Rattle.mixed_graph.specs.Vocabulary.{MixedGraph, IsMixedGraph}
use Rattle.finite_models.specs.Vocabulary.{product_below, sum_below, sum_over, FiniteModel, Fits, IsAssignment, solution, agree, intervene, weight_of, world_weight, total, table_index, table_value}
use Rattle.finite_models.proofs.Following.{Follows, follows_of, follows_intervene}
use Rattle.finite_models.proofs.Ranks.{with_rank}
use Rattle.finite_models.proofs.Solutions.{IsRanked, solution_is, solution_within, unique, agree_gives, agree_from}
use Rattle.finite_models.proofs.Bools.{same_truth}
use Rattle.finite_models.proofs.SumLaws.{sum_below-congr, product_below-congr}
use Rattle.finite_models.proofs.TableLaws.{table_reads}
use Rattle.prob_expr.proofs.Boxes.{assignment_set, sum_over_equal}
use Rattle.latent_projection.specs.Vocabulary.{observed_below, renumbered_set}
use Rattle.hidden_models.specs.Folding.{Folds, values_after}
use Rattle.hidden_models.proofs.Positions.{member_is}

-- the models have the same vertices, causes and values, and in range the mechanisms of m' are tables of those of m
pub record IsTabled (q : MixedGraph) (m m' : FiniteModel) : Type 0 where
  pub vertices : m'.vertices ≡ m.vertices
  pub sizes : (v : ℕ) → v < m.vertices → m'.size v ≡ m.size v
  pub causes : m'.causes ≡ m.causes
  pub values : (j : ℕ) → j < m.causes → m'.values j ≡ m.values j
  pub weights : (j : ℕ) → j < m.causes → (x : ℕ) → x < m.values j → m'.weight j x ≡ m.weight j x
  pub serves : (j v : ℕ) → j < m.causes → m'.serves j v ≡ m.serves j v
  pub outputs : ℕ → List ℕ
  pub looked_up : (v : ℕ) → v < m.vertices → (s u : ℕ → ℕ) → m'.mechanism v s u
      ≡ table_value (outputs v) (table_index m'.vertices m'.causes (λ p. q.arrow p v) (λ j. m'.serves j v) m'.size m'.values s u)
  pub agrees : (v : ℕ) → v < m.vertices → (s u : ℕ → ℕ) → IsAssignment m.vertices m.size s → IsAssignment m.causes m.values u → m'.mechanism v s u
      ≡ m.mechanism v s u

module _ (q : MixedGraph) (m m' : FiniteModel) (ok : IsMixedGraph q) (fit : Fits q m) (is : IsTabled q m m') where
  assigned : (s : ℕ → ℕ) → IsAssignment m'.vertices m'.size s → IsAssignment m.vertices m.size s
  assigned s h v vl = subst (λ n. s v < n) (is.sizes v vl) (h v (subst (λ n. v < n) (sym is.vertices) vl))

  assigned_back : (s : ℕ → ℕ) → IsAssignment m.vertices m.size s → IsAssignment m'.vertices m'.size s
  assigned_back s h v vl = let l : v < m.vertices = subst (λ n. v < n) is.vertices vl in subst (λ n. s v < n) (sym (is.sizes v l)) (h v l)

  world : (u : ℕ → ℕ) → IsAssignment m'.causes m'.values u → IsAssignment m.causes m.values u
  world u h j jl = subst (λ n. u j < n) (is.values j jl) (h j (subst (λ n. j < n) (sym is.causes) jl))

  world_back : (u : ℕ → ℕ) → IsAssignment m.causes m.values u → IsAssignment m'.causes m'.values u
  world_back u h j jl = let l : j < m.causes = subst (λ n. j < n) is.causes jl in subst (λ n. u j < n) (sym (is.values j l)) (h j l)

  pub tabled_fits : Fits q m'
  tabled_fits = record {
    vertices = is.vertices ∙ fit.vertices;
    positive_size = λ v vl. let l = low_v v vl in subst (λ n. 0 < n) (sym (is.sizes v l)) (fit.positive_size v l);
    positive_weight = λ j jl. let l = low_j j jl in subst (λ n. 1 ≤ n) (sym (sum_is j l)) (fit.positive_weight j l);
    some_child = λ j jl. let l = low_j j jl in let c = fit.some_child j l in (c.0, is.serves j c.0 l ∙ c.1);
    child_below = λ j v jl e. let l = low_j j jl in subst (λ n. v < n) (sym is.vertices) (fit.child_below j v l (sym (is.serves j v l) ∙ e));
    joined = λ j u v jl e f d. let l = low_j j jl in fit.joined j u v l (sym (is.serves j u l) ∙ e) (sym (is.serves j v l) ∙ f) d;
    reads = λ v vl s t u w hp hc. let l = low_v v vl in
        is.looked_up v l s u
        ∙ table_reads (is.outputs v) m'.vertices m'.causes (λ p. q.arrow p v) (λ j. m'.serves j v) m'.size m'.values s t u w (λ p pl e. hp p e)
        (λ j jl e. hc j jl e)
        ∙ sym (is.looked_up v l t w);
    below = λ v vl s u hs hu. let l = low_v v vl in
        let b : m.mechanism v s u < m.size v = fit.below v l s u (assigned s hs) (world u hu) in
        subst (λ n. m'.mechanism v s u < n) (sym (is.sizes v l)) (subst (λ n. n < m.size v) (sym (is.agrees v l s u (assigned s hs) (world u hu))) b);
  }
    where
      low_v : (v : ℕ) → v < m'.vertices → v < m.vertices
      low_v v vl = subst (λ n. v < n) is.vertices vl

      low_j : (j : ℕ) → j < m'.causes → j < m.causes
      low_j j jl = subst (λ n. j < n) is.causes jl

      sum_is : (j : ℕ) → j < m.causes → sum_below (m'.values j) (m'.weight j) ≡ sum_below (m.values j) (m.weight j)
      sum_is j jl = ap (λ n. sum_below n (m'.weight j)) (is.values j jl)
          ∙ sum_below-congr (m.values j) (m'.weight j) (m.weight j) (λ x xl. is.weights j jl x xl)

  -- a world weighs the same
  weighs : (u : ℕ → ℕ) → IsAssignment m.causes m.values u → world_weight m u ≡ world_weight m' u
  weighs u hu = product_below-congr m.causes (λ j. m.weight j (u j)) (λ j. m'.weight j (u j)) (λ j jl. sym (is.weights j jl (u j) (hu j jl)))
      ∙ ap (λ n. product_below n (λ j. m'.weight j (u j))) (sym is.causes)

  first_world : IsAssignment m.causes m.values (λ j. 0)
  first_world j jl = go (m.values j) (fit.positive_weight j jl)
    where
      go : (k : ℕ) → 1 ≤ sum_below k (m.weight j) → 0 < k
      go zero h = absurd (omega arith)
      go (suc k) h = omega arith

  over_worlds : (f h : (ℕ → ℕ) → ℕ) → ((u : ℕ → ℕ) → IsAssignment m.causes m.values u → f u ≡ h u)
      → sum_over (λ j. true) m.values m.causes f (λ j. 0) ≡ sum_over (λ j. true) m'.values m'.causes h (λ j. 0)
  over_worlds f h same =
      sum_over_equal (λ j. true) m.values (IsAssignment m.causes m.values) m.causes m'.values f h (λ j. 0) (λ j jl. sym (is.values j jl))
      (λ c i x lt ui xl p. assignment_set m.causes m.values c i x xl p) first_world same
      ∙ ap (λ n. sum_over (λ j. true) m'.values n h (λ j. 0)) (sym is.causes)

  pub tabled_total : total m ≡ total m'
  tabled_total = over_worlds (world_weight m) (world_weight m') weighs

  module _ (rank : ℕ → ℕ) (ranked : IsRanked q rank) (b a : ℕ → Bool) (s : ℕ → ℕ) (hs : IsAssignment m.vertices m.size s) where
    first_follows : Follows q (intervene m b s)
    first_follows = follows_intervene q m b s hs (follows_of q m fit)

    second_follows : Follows q (intervene m' b s)
    second_follows = follows_intervene q m' b s (assigned_back s hs) (follows_of q m' tabled_fits)

    same : (u : ℕ → ℕ) → IsAssignment m.causes m.values u → (v : ℕ) → v < m.vertices → solution (intervene m b s) u v ≡ solution (intervene m' b s) u v
    same u hu v vl =
        unique q (intervene m' b s) rank ranked second_follows u (solution (intervene m b s) u) (solution (intervene m' b s) u)
        (λ x xl. let l : x < m.vertices = subst (λ n. x < n) is.vertices xl in solution_is q (intervene m b s) rank ranked first_follows u x l
        ∙ ap (λ y. cond (b x) (s x) y) (sym (is.agrees x l (solution (intervene m b s) u) u (solution_within q (intervene m b s) first_follows u hu) hu)))
        (λ x xl. solution_is q (intervene m' b s) rank ranked second_follows u x xl) v (subst (λ n. v < n) (sym is.vertices) vl)

    same_agree : (u : ℕ → ℕ) → IsAssignment m.causes m.values u → agree m.vertices a (solution (intervene m b s) u) s
        ≡ agree m'.vertices a (solution (intervene m' b s) u) s
    same_agree u hu = same_truth (agree m.vertices a (solution (intervene m b s) u) s) (agree m'.vertices a (solution (intervene m' b s) u) s)
        (λ h. agree_from m'.vertices a (solution (intervene m' b s) u) s
        (λ v vl e. let l : v < m.vertices = subst (λ n. v < n) is.vertices vl in sym (same u hu v l)
        ∙ agree_gives m.vertices a (solution (intervene m b s) u) s h v l e))
        (λ h. agree_from m.vertices a (solution (intervene m b s) u) s
        (λ v vl e. same u hu v vl ∙ agree_gives m'.vertices a (solution (intervene m' b s) u) s h v (subst (λ n. v < n) (sym is.vertices) vl) e))

    tabled_weight_at : weight_of m b a s ≡ weight_of m' b a s
    tabled_weight_at = over_worlds (λ u. cond (agree m.vertices a (solution (intervene m b s) u) s) (world_weight m u) 0)
        (λ u. cond (agree m'.vertices a (solution (intervene m' b s) u) s) (world_weight m' u) 0)
        (λ u hu. ap₂ (λ c w. cond c w 0) (same_agree u hu) (weighs u hu))

  pub tabled_weight : (b a : ℕ → Bool) (s : ℕ → ℕ) → IsAssignment m.vertices m.size s → weight_of m b a s ≡ weight_of m' b a s
  tabled_weight b a s hs = with_rank q ok (weight_of m b a s) (weight_of m' b a s) (λ rank ranked. tabled_weight_at rank ranked b a s hs)

  -- so it folds what the model folds
  pub tabled_folds : (l : ℕ → Bool) (drawn : FiniteModel) → Folds l drawn m → Folds l drawn m'
  tabled_folds l drawn folds = record {
    vertices = is.vertices ∙ folds.vertices;
    sizes = λ k kl. let kl' = subst (λ n. k < n) is.vertices kl in is.sizes k kl' ∙ folds.sizes k kl';
    weights = λ b a bo ao s hs.
        ap (λ n. weight_of drawn b a s * n) (sym tabled_total) ∙ folds.weights b a bo ao s hs
        ∙ ap (λ n. n * total drawn) (tabled_weight (renumbered_set (observed_below l drawn.vertices) b) (renumbered_set (observed_below l drawn.vertices) a)
        (values_after l drawn.vertices s) (after s hs));
  }
    where
      after : (s : ℕ → ℕ) → IsAssignment drawn.vertices drawn.size s → IsAssignment m.vertices m.size (values_after l drawn.vertices s)
      after s hs k kl =
          let w = member_is (λ v. not (l v)) drawn.vertices k (subst (λ n. k < n) folds.vertices kl) in
          subst (λ n. s (get_or (observed_below l drawn.vertices) k 0) < n) (sym (folds.sizes k kl)) (hs (get_or (observed_below l drawn.vertices) k 0) w.below)
