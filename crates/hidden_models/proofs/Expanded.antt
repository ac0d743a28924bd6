-- A model of the observed graph in the old numbers, where the hidden vertices are there, without edges and with one value.
use Rattle.std.proofs.Common.{ℕ, ◌≡◌, ◌<◌, Bool, true, false, not, cond, ◌&&◌, ◌||◌, ◌==◌, ◌⊎◌, inl, inr, nat_lt, refl, sym, ap, ap₂, ◌∙◌, arith}
use Rattle.std.proofs.Common.{subst, eqb-true, eq-eqb}
use Rattle.std.proofs.lemmas.Bool.{or_cases, or_left, or_right, not_from_false, ltb-true, lt-ltb, false_from_ne_true}
use Rattle.mixed_graph.specs.Vocabulary.{MixedGraph, IsMixedGraph, Apart}
use Rattle.finite_models.specs.Vocabulary.{FiniteModel, Fits, IsAssignment, solution, IsSolution, agree, intervene, weight_of, world_weight, ServesTwo}
use Rattle.finite_models.proofs.Bools.{and_first, and_second, same_truth}
use Rattle.finite_models.proofs.Following.{Follows, follows_of, follows_intervene}
use Rattle.finite_models.proofs.Ranks.{with_rank}
use Rattle.finite_models.proofs.SumLaws.{over-congr}
use Rattle.finite_models.proofs.Solutions.{IsRanked, solution_is, unique, agree_gives, agree_from}
use Rattle.latent_projection.specs.Vocabulary.{observed_below, renumbered_set, renumbered}
use Rattle.latent_projection.proofs.Numbering.{IsMixedGraph-renumbered}
use Rattle.latent_projection.proofs.Treks.{clash}
use Rattle.hidden_models.specs.Folding.{values_after}
use Rattle.hidden_models.proofs.FoldingLaw.{position, member}
use Rattle.hidden_models.proofs.Positions.{position_lt, member_position, member_is}
use Rattle.hidden_models.proofs.ReachingLaw.{observed_of}

module _ (l : ℕ → Bool) (n : ℕ) where
  -- the new number of v, and the vertex with the new number i
  abbrev pub new : ℕ → ℕ
  new v = position (λ v. not (l v)) v

  abbrev pub old : ℕ → ℕ
  old i = member (λ v. not (l v)) n i

  pub new_lt : (v : ℕ) → v < n → l v ≡ false → new v < position (λ v. not (l v)) n
  new_lt v vl e = position_lt (λ v. not (l v)) v n vl (not_from_false (l v) e)

  pub old_new : (v : ℕ) → v < n → l v ≡ false → old (new v) ≡ v
  old_new v vl e = member_position (λ v. not (l v)) n v vl (not_from_false (l v) e)

  pub new_old : (i : ℕ) → i < position (λ v. not (l v)) n → new (old i) ≡ i
  new_old i il = (member_is (λ v. not (l v)) n i il).place

  pub old_lt : (i : ℕ) → i < position (λ v. not (l v)) n → old i < n
  old_lt i il = (member_is (λ v. not (l v)) n i il).below

  pub old_observed : (i : ℕ) → i < position (λ v. not (l v)) n → l (old i) ≡ false
  old_observed i il = observed_of (l (old i)) (member_is (λ v. not (l v)) n i il).inside

module _ (l : ℕ → Bool) (n : ℕ) (m : FiniteModel) (two : ServesTwo m) where
  abbrev pub expanded : FiniteModel
  expanded = record m {
    vertices = n;
    size = λ v. cond (l v) 1 (m.size (new l n v));
    serves = λ j v. v == old l n (two.one j) || v == old l n (two.other j);
    mechanism = λ v s u. cond (l v) 0 (m.mechanism (new l n v) (λ i. s (old l n i)) u);
  }

  pub two_expanded : ServesTwo expanded
  two_expanded = record { one = λ j. old l n (two.one j); other = λ j. old l n (two.other j); serves = λ j v jl. refl }

module _ (p : MixedGraph) (l : ℕ → Bool) (n : ℕ) (m : FiniteModel) (two : ServesTwo m) (ok : IsMixedGraph p) (pn : p.vertices ≡ n)
    (fit : Fits (renumbered p (observed_below l n)) m) where
  count : m.vertices ≡ position (λ v. not (l v)) n
  count = fit.vertices

  low : (i : ℕ) → i < m.vertices → i < position (λ v. not (l v)) n
  low i il = subst (λ k. i < k) count il

  high : (v : ℕ) → v < n → l v ≡ false → new l n v < m.vertices
  high v vl e = subst (λ k. new l n v < k) (sym count) (new_lt l n v vl e)

  -- an edge of the observed graph is one of the projection
  edge_of : (e : ℕ → ℕ → Bool) (a b : ℕ) → (nat_lt a (position (λ v. not (l v)) n) &&
      (nat_lt b (position (λ v. not (l v)) n) && e (old l n a) (old l n b))) ≡ true
      → (a < position (λ v. not (l v)) n) × (e (old l n a) (old l n b) ≡ true)
  edge_of e a b h = (
    ltb-true a (position (λ v. not (l v)) n) (and_first (nat_lt a (position (λ v. not (l v)) n))
        (nat_lt b (position (λ v. not (l v)) n) && e (old l n a) (old l n b)) h),
    and_second (nat_lt b (position (λ v. not (l v)) n)) (e (old l n a) (old l n b))
        (and_second (nat_lt a (position (λ v. not (l v)) n)) (nat_lt b (position (λ v. not (l v)) n) && e (old l n a) (old l n b)) h),
  )

  served : (j : ℕ) → j < m.causes → (m.serves j (two.one j) ≡ true) × (m.serves j (two.other j) ≡ true)
  served j jl = (
    two.serves j (two.one j) jl ∙ or_left (two.one j == two.one j) (two.one j == two.other j) (eq-eqb (two.one j) (two.one j) refl),
    two.serves j (two.other j) jl ∙ or_right (two.other j == two.one j) (two.other j == two.other j) (eq-eqb (two.other j) (two.other j) refl),
  )

  ends_joined : (j : ℕ) → j < m.causes → (old l n (two.one j) ≡ old l n (two.other j) → ⊥) → p.both (old l n (two.one j)) (old l n (two.other j)) ≡ true
  ends_joined j jl ne = (edge_of p.both (two.one j) (two.other j) (fit.joined j (two.one j) (two.other j) jl (served j jl).0 (served j jl).1
      (λ s. ne (ap (old l n) s)))).1

  joined : (j u v : ℕ) → j < m.causes → (u == old l n (two.one j) || u == old l n (two.other j)) ≡ true
      → (v == old l n (two.one j) || v == old l n (two.other j)) ≡ true → (u ≡ v → ⊥) → p.both u v ≡ true
  joined j u v jl e f ne = go (or_cases (u == old l n (two.one j)) (u == old l n (two.other j)) e)
      (or_cases (v == old l n (two.one j)) (v == old l n (two.other j)) f)
    where
      go : ((u == old l n (two.one j)) ≡ true) ⊎ ((u == old l n (two.other j)) ≡ true)
          → ((v == old l n (two.one j)) ≡ true) ⊎ ((v == old l n (two.other j)) ≡ true) → p.both u v ≡ true
      go (inl q) (inl r) = absurd (ne (eqb-true u (old l n (two.one j)) q ∙ sym (eqb-true v (old l n (two.one j)) r)))
      go (inr q) (inr r) = absurd (ne (eqb-true u (old l n (two.other j)) q ∙ sym (eqb-true v (old l n (two.other j)) r)))
      go (inl q) (inr r) = let a = eqb-true u (old l n (two.one j)) q in let b = eqb-true v (old l n (two.other j)) r in ap₂ p.both a b
          ∙ ends_joined j jl (λ s. ne (a ∙ s ∙ sym b))
      go (inr q) (inl r) = let a = eqb-true u (old l n (two.other j)) q in let b = eqb-true v (old l n (two.one j)) r in
          ap₂ p.both a b ∙ ok.symmetric (old l n (two.one j)) (old l n (two.other j)) (ends_joined j jl (λ s. ne (a ∙ sym s ∙ sym b)))

  -- a cause of v's new number is one of v
  served_old : (j v : ℕ) → j < m.causes → v < n → l v ≡ false → m.serves j (new l n v) ≡ true → (v == old l n (two.one j) || v == old l n (two.other j)) ≡ true
  served_old j v jl vl lv e = go (or_cases (new l n v == two.one j) (new l n v == two.other j) (sym (two.serves j (new l n v) jl) ∙ e))
    where
      go : ((new l n v == two.one j) ≡ true) ⊎ ((new l n v == two.other j) ≡ true) → (v == old l n (two.one j) || v == old l n (two.other j)) ≡ true
      go (inl q) = or_left (v == old l n (two.one j)) (v == old l n (two.other j))
          (eq-eqb v (old l n (two.one j)) (sym (old_new l n v vl lv) ∙ ap (old l n) (eqb-true (new l n v) (two.one j) q)))
      go (inr q) = or_right (v == old l n (two.one j)) (v == old l n (two.other j))
          (eq-eqb v (old l n (two.other j)) (sym (old_new l n v vl lv) ∙ ap (old l n) (eqb-true (new l n v) (two.other j) q)))

  child_below : (j v : ℕ) → j < m.causes → (v == old l n (two.one j) || v == old l n (two.other j)) ≡ true → v < n
  child_below j v jl e = go (or_cases (v == old l n (two.one j)) (v == old l n (two.other j)) e)
    where
      go : ((v == old l n (two.one j)) ≡ true) ⊎ ((v == old l n (two.other j)) ≡ true) → v < n
      go (inl q) = rw (eqb-true v (old l n (two.one j)) q) (old_lt l n (two.one j) (low (two.one j) (fit.child_below j (two.one j) jl (served j jl).0)))
      go (inr q) = rw (eqb-true v (old l n (two.other j)) q) (old_lt l n (two.other j) (low (two.other j) (fit.child_below j (two.other j) jl (served j jl).1)))

  reads : (v : ℕ) → v < n → (s t u w : ℕ → ℕ) → ((q : ℕ) → p.arrow q v ≡ true → s q ≡ t q)
      → ((j : ℕ) → j < m.causes → (v == old l n (two.one j) || v == old l n (two.other j)) ≡ true → u j ≡ w j)
      → (c : Bool) → l v ≡ c → cond (l v) 0 (m.mechanism (new l n v) (λ i. s (old l n i)) u) ≡ cond (l v) 0 (m.mechanism (new l n v) (λ i. t (old l n i)) w)
  reads v vl s t u w hp hc true e = rw e refl
  reads v vl s t u w hp hc false e = rw e (fit.reads (new l n v) (high v vl e) (λ i. s (old l n i)) (λ i. t (old l n i)) u w
      (λ i a. hp (old l n i) (ap (p.arrow (old l n i)) (sym (old_new l n v vl e)) ∙ (edge_of p.arrow i (new l n v) a).1))
      (λ j jl sv. hc j jl (served_old j v jl vl e sv)))

  values_below : (s : ℕ → ℕ) → IsAssignment n (λ v. cond (l v) 1 (m.size (new l n v))) s → IsAssignment m.vertices m.size (λ i. s (old l n i))
  values_below s hs i il =
      let e = old_observed l n i (low i il) in
      let h = hs (old l n i) (old_lt l n i (low i il)) in
      let h' : s (old l n i) < m.size (new l n (old l n i)) = rw e at h in
      subst (λ k. s (old l n i) < m.size k) (new_old l n i (low i il)) h'

  pub fits_expanded : Fits p (expanded l n m two)
  fits_expanded = record {
    vertices = sym pn;
    positive_size = λ v vl. positive v vl (l v) refl;
    positive_weight = fit.positive_weight;
    some_child = λ j jl. (
      old l n (two.one j),
      or_left (old l n (two.one j) == old l n (two.one j)) (old l n (two.one j) == old l n (two.other j))
          (eq-eqb (old l n (two.one j)) (old l n (two.one j)) refl),
    );
    child_below = child_below;
    joined = joined;
    reads = λ v vl s t u w hp hc. reads v vl s t u w hp hc (l v) refl;
    below = λ v vl s u hs hu. below v vl s u hs hu (l v) refl;
  }
    where
      positive : (v : ℕ) → v < n → (c : Bool) → l v ≡ c → 0 < cond (l v) 1 (m.size (new l n v))
      positive v vl true e = rw e (omega arith)
      positive v vl false e = rw e (fit.positive_size (new l n v) (high v vl e))

      below : (v : ℕ) → v < n → (s u : ℕ → ℕ) → IsAssignment n (λ v. cond (l v) 1 (m.size (new l n v))) s → IsAssignment m.causes m.values u
          → (c : Bool) → l v ≡ c → cond (l v) 0 (m.mechanism (new l n v) (λ i. s (old l n i)) u) < cond (l v) 1 (m.size (new l n v))
      below v vl s u hs hu true e = rw e (omega arith)
      below v vl s u hs hu false e = rw e (fit.below (new l n v) (high v vl e) (λ i. s (old l n i)) u (values_below s hs) hu)

  module _ (rank rank' : ℕ → ℕ) (ranked : IsRanked p rank) (ranked' : IsRanked (renumbered p (observed_below l n)) rank')
      (b a : ℕ → Bool) (bo : Apart b l) (ao : Apart a l) (s : ℕ → ℕ) (hs : IsAssignment n (λ v. cond (l v) 1 (m.size (new l n v))) s) where
    follows : Follows p (intervene (expanded l n m two) b s)
    follows = follows_intervene p (expanded l n m two) b s hs (follows_of p (expanded l n m two) fits_expanded)

    follows' : Follows (renumbered p (observed_below l n)) (intervene m (renumbered_set (observed_below l n) b) (values_after l n s))
    follows' = follows_intervene (renumbered p (observed_below l n)) m (renumbered_set (observed_below l n) b) (values_after l n s) (values_below s hs)
        (follows_of (renumbered p (observed_below l n)) m fit)

    none : (v : ℕ) → l v ≡ true → b v ≡ false
    none v e = false_from_ne_true (b v) (λ h. clash (l v) e (bo v h))

    set_at_new : (d : ℕ → Bool) (v : ℕ) → v < n → l v ≡ false → renumbered_set (observed_below l n) d (new l n v) ≡ d v
    set_at_new d v vl e = let lt : nat_lt (new l n v) (position (λ v. not (l v)) n) ≡ true = lt-ltb (new l n v) (position (λ v. not (l v)) n)
        (new_lt l n v vl e) in rw lt (ap d (old_new l n v vl e))

    module _ (u : ℕ → ℕ) where
      t : ℕ → ℕ
      t = solution (intervene m (renumbered_set (observed_below l n) b) (values_after l n s)) u

      t_is : (i : ℕ) → i < m.vertices → t i ≡ cond (renumbered_set (observed_below l n) b i) (s (old l n i)) (m.mechanism i t u)
      unfolding t
      t_is i il = solution_is (renumbered p (observed_below l n)) (intervene m (renumbered_set (observed_below l n) b)
          (values_after l n s)) rank' ranked' follows' u i il

      placed : ℕ → ℕ
      placed v = cond (l v) 0 (t (new l n v))

      placed_old : (i : ℕ) → i < position (λ v. not (l v)) n → t i ≡ placed (old l n i)
      unfolding placed
      placed_old i il = let e = old_observed l n i il in rw e (ap t (sym (new_old l n i il)))

      placed_is : IsSolution (intervene (expanded l n m two) b s) u placed
      unfolding placed
      placed_is v vl = go (l v) refl
        where
          go : (c : Bool) → l v ≡ c → placed v ≡ cond (b v) (s v) (cond (l v) 0 (m.mechanism (new l n v) (λ i. placed (old l n i)) u))
          go true e = rw (none v e, e) refl
          go false e = rw e (t_is (new l n v) (high v vl e)
              ∙ ap₂ (λ c x. cond c x (m.mechanism (new l n v) t u)) (set_at_new b v vl e) (ap s (old_new l n v vl e))
              ∙ ap (cond (b v) (s v)) (fit.reads (new l n v) (high v vl e) t (λ i. placed (old l n i)) u u
              (λ i q. placed_old i (edge_of p.arrow i (new l n v) q).0) (λ j jl q. refl)))

      at : (v : ℕ) → v < n → l v ≡ false → t (new l n v) ≡ solution (intervene (expanded l n m two) b s) u v
      unfolding placed
      at v vl e = (rw e refl) ∙ unique p (intervene (expanded l n m two) b s) rank ranked follows u placed
          (solution (intervene (expanded l n m two) b s) u) placed_is
          (λ x xl. solution_is p (intervene (expanded l n m two) b s) rank ranked follows u x xl) v vl

      pub agree_both : agree n a (solution (intervene (expanded l n m two) b s) u) s
          ≡ agree m.vertices (renumbered_set (observed_below l n) a) (solution (intervene m (renumbered_set (observed_below l n) b) (values_after l n s)) u)
          (values_after l n s)
      unfolding t
      agree_both = same_truth (agree n a (solution (intervene (expanded l n m two) b s) u) s)
          (agree m.vertices (renumbered_set (observed_below l n) a) t (values_after l n s))
          (λ h. agree_from m.vertices (renumbered_set (observed_below l n) a) t (values_after l n s)
          (λ i il e. there h i il (and_second (nat_lt i (position (λ v. not (l v)) n)) (a (old l n i)) e)))
          (λ h. agree_from n a (solution (intervene (expanded l n m two) b s) u) s (λ v vl e. back h v vl e (ao v e)))
        where
          there : agree n a (solution (intervene (expanded l n m two) b s) u) s ≡ true → (i : ℕ) → i < m.vertices → a (old l n i) ≡ true → t i ≡ s (old l n i)
          there h i il e = ap t (sym (new_old l n i (low i il))) ∙ at (old l n i) (old_lt l n i (low i il)) (old_observed l n i (low i il))
              ∙ agree_gives n a (solution (intervene (expanded l n m two) b s) u) s h (old l n i) (old_lt l n i (low i il)) e

          back : agree m.vertices (renumbered_set (observed_below l n) a) t (values_after l n s) ≡ true → (v : ℕ) → v < n → a v ≡ true → l v ≡ false
              → solution (intervene (expanded l n m two) b s) u v ≡ s v
          back h v vl e lv = sym (at v vl lv) ∙ agree_gives m.vertices (renumbered_set (observed_below l n) a) t (values_after l n s) h (new l n v)
              (high v vl lv) (set_at_new a v vl lv ∙ e) ∙ ap s (old_new l n v vl lv)

    expanded_weight : weight_of (expanded l n m two) b a s ≡ weight_of m (renumbered_set (observed_below l n) b) (renumbered_set (observed_below l n) a)
        (values_after l n s)
    expanded_weight = over-congr (λ j. true) m.values m.causes
        (λ u. cond (agree n a (solution (intervene (expanded l n m two) b s) u) s) (world_weight m u) 0)
        (λ u. cond (agree m.vertices (renumbered_set (observed_below l n) a)
        (solution (intervene m (renumbered_set (observed_below l n) b) (values_after l n s)) u) (values_after l n s)) (world_weight m u) 0)
        (λ j. 0) (λ u. ap (λ x. cond x (world_weight m u) 0) (agree_both u))

  -- events of observed vertices have the weights that they have in the new numbers
  pub expanded_weighs : (b a : ℕ → Bool) → Apart b l → Apart a l → (s : ℕ → ℕ) → IsAssignment n (λ v. cond (l v) 1 (m.size (new l n v))) s
      → weight_of (expanded l n m two) b a s ≡ weight_of m (renumbered_set (observed_below l n) b) (renumbered_set (observed_below l n) a) (values_after l n s)
  expanded_weighs b a bo ao s hs = with_rank p ok (weight_of (expanded l n m two) b a s)
      (weight_of m (renumbered_set (observed_below l n) b) (renumbered_set (observed_below l n) a) (values_after l n s))
      (λ rank ranked. with_rank (renumbered p (observed_below l n)) (IsMixedGraph-renumbered p (observed_below l n) ok) (weight_of (expanded l n m two) b a s)
      (weight_of m (renumbered_set (observed_below l n) b) (renumbered_set (observed_below l n) a) (values_after l n s))
      (λ rank' ranked'. expanded_weight rank rank' ranked ranked' b a bo ao s hs))

  -- and in each world an observed vertex has the value that it has there
  pub expanded_at : (b : ℕ → Bool) → Apart b l → (s : ℕ → ℕ) → IsAssignment n (λ v. cond (l v) 1 (m.size (new l n v))) s → (u : ℕ → ℕ) → (v : ℕ) → v < n
      → l v ≡ false → solution (intervene (expanded l n m two) b s) u v
      ≡ solution (intervene m (renumbered_set (observed_below l n) b) (values_after l n s)) u (new l n v)
  unfolding t
  expanded_at b bo s hs u v vl e = with_rank p ok (solution (intervene (expanded l n m two) b s) u v)
      (solution (intervene m (renumbered_set (observed_below l n) b) (values_after l n s)) u (new l n v))
      (λ rank ranked. with_rank (renumbered p (observed_below l n)) (IsMixedGraph-renumbered p (observed_below l n) ok)
      (solution (intervene (expanded l n m two) b s) u v)
      (solution (intervene m (renumbered_set (observed_below l n) b) (values_after l n s)) u (new l n v))
      (λ rank' ranked'. sym (at rank rank' ranked ranked' b (λ k. false) bo (λ k i. absurd (grind (arith, i))) s hs u v vl e)))
