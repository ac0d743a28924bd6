-- A model on some of the vertices with some of the causes, where the others matter to none of them.
use Rattle.std.proofs.Common.{ℕ, zero, suc, ◌≡◌, ◌<◌, ◌≤◌, Bool, true, false, not, cond, ◌&&◌, nat_lt, refl, sym, ap, ◌∙◌}
use Rattle.std.proofs.lemmas.Bool.{and_from, ltb-true, lt-ltb}
use Rattle.mixed_graph.specs.Vocabulary.{members_below, MixedGraph, IsMixedGraph}
use Rattle.finite_models.specs.Vocabulary.{set_at, sum_below, FiniteModel, Fits, IsAssignment, rounds, solution, agree, intervene}
use Rattle.finite_models.proofs.Bools.{and_first, and_second, same_truth}
use Rattle.finite_models.proofs.Following.{Follows, follows_intervene}
use Rattle.finite_models.proofs.SumLaws.{set_at-other}
use Rattle.finite_models.proofs.Solutions.{IsRanked, solution_is, unique, agree_gives, agree_from}
use Rattle.latent_projection.specs.Vocabulary.{renumbered}
use Rattle.latent_projection.proofs.Treks.{clash}
use Rattle.hidden_models.proofs.FoldingLaw.{position, member, kept, set_in, values_in, KeepsCauses}
use Rattle.hidden_models.proofs.Positions.{position_lt, member_position, member_is, IsMember, spread, spread_at}

module _ (p : MixedGraph) (m : FiniteModel) (o j : ℕ → Bool) (ok : IsMixedGraph p) (fit : Follows p m) (tail : (a b : ℕ) → p.arrow a b ≡ true → o a ≡ true)
    (keeps : KeepsCauses m o j) where
  below_p : (q v : ℕ) → p.arrow q v ≡ true → q < m.vertices
  below_p q v e = rw fit.vertices (ok.tail_below q v e)

  -- ---- the graph
  edge_of : (e : ℕ → ℕ → Bool) (a b : ℕ) → (nat_lt a (position o m.vertices)
      && (nat_lt b (position o m.vertices) && e (member o m.vertices a) (member o m.vertices b))) ≡ true
      → (a < position o m.vertices) × (b < position o m.vertices) × (e (member o m.vertices a) (member o m.vertices b) ≡ true)
  edge_of e a b h = let r = and_second (nat_lt a (position o m.vertices))
      (nat_lt b (position o m.vertices) && e (member o m.vertices a) (member o m.vertices b)) h in (
        ltb-true a (position o m.vertices) (and_first (nat_lt a (position o m.vertices))
            (nat_lt b (position o m.vertices) && e (member o m.vertices a) (member o m.vertices b)) h),
        ltb-true b (position o m.vertices) (and_first (nat_lt b (position o m.vertices)) (e (member o m.vertices a) (member o m.vertices b)) r),
        and_second (nat_lt b (position o m.vertices)) (e (member o m.vertices a) (member o m.vertices b)) r,
      )

  edge_from : (e : ℕ → ℕ → Bool) (a b : ℕ) → a < position o m.vertices → b < position o m.vertices → e (member o m.vertices a) (member o m.vertices b) ≡ true
      → (nat_lt a (position o m.vertices) && (nat_lt b (position o m.vertices) && e (member o m.vertices a) (member o m.vertices b))) ≡ true
  edge_from e a b x y h = and_from (nat_lt a (position o m.vertices)) (nat_lt b (position o m.vertices) && e (member o m.vertices a) (member o m.vertices b))
      (lt-ltb a (position o m.vertices) x)
      (and_from (nat_lt b (position o m.vertices)) (e (member o m.vertices a) (member o m.vertices b)) (lt-ltb b (position o m.vertices) y) h)

  -- ---- the model fits it
  pub follows_kept : Follows (renumbered p (members_below o m.vertices)) (kept m o j)
  follows_kept = record {
    vertices = refl;
    joined = λ i u v il eu ev ne.
        let fu = ltb-true u (position o m.vertices) (and_first (nat_lt u (position o m.vertices)) (m.serves (member j m.causes i) (member o m.vertices u))
        eu) in
        let fv = ltb-true v (position o m.vertices) (and_first (nat_lt v (position o m.vertices)) (m.serves (member j m.causes i) (member o m.vertices v))
        ev) in
        edge_from p.both u v fu fv (fit.joined (member j m.causes i) (member o m.vertices u) (member o m.vertices v) (member_is j m.causes i il).below
        (and_second (nat_lt u (position o m.vertices)) (m.serves (member j m.causes i) (member o m.vertices u)) eu)
        (and_second (nat_lt v (position o m.vertices)) (m.serves (member j m.causes i) (member o m.vertices v)) ev)
        (λ s. ne (sym (member_is o m.vertices u fu).place ∙ ap (position o) s ∙ (member_is o m.vertices v fv).place)));
    reads = reads;
    below = λ v vl s u hs hu. fit.below (member o m.vertices v) (member_is o m.vertices v vl).below (values_in o s) (values_in j u)
        (λ x xl. value o m.vertices m.size s x xl (fit.positive_size x xl) hs (o x) refl)
        (λ i il. value j m.causes m.values u i il (keeps.valued i il) hu (j i) refl);
    positive_size = λ v vl. fit.positive_size (member o m.vertices v) (member_is o m.vertices v vl).below;
  }
    where
      value : (k : ℕ → Bool) (n : ℕ) (size : ℕ → ℕ) (s : ℕ → ℕ) (x : ℕ) → x < n → 0 < size x → IsAssignment (position k n) (λ i. size (member k n i)) s
          → (c : Bool) → k x ≡ c → values_in k s x < size x
      value k n size s x xl pos h false e = rw e pos
      value k n size s x xl pos h true e = rw e (let f : s (position k x) < size (member k n (position k x)) = h (position k x) (position_lt k x n xl e) in
          rw (member_position k n x xl e) at f)

      reads : (v : ℕ) → v < position o m.vertices → (s t u w : ℕ → ℕ)
          → ((q : ℕ) → (nat_lt q (position o m.vertices) && (nat_lt v (position o m.vertices) && p.arrow (member o m.vertices q) (member o m.vertices v)))
          ≡ true → s q ≡ t q)
          → ((i : ℕ) → i < position j m.causes → (nat_lt v (position o m.vertices) && m.serves (member j m.causes i) (member o m.vertices v)) ≡ true → u i
          ≡ w i)
          → m.mechanism (member o m.vertices v) (values_in o s) (values_in j u) ≡ m.mechanism (member o m.vertices v) (values_in o t) (values_in j w)
      reads v vl s t u w hp hc = fit.reads (member o m.vertices v) (member_is o m.vertices v vl).below (values_in o s) (values_in o t) (values_in j u)
          (values_in j w)
          (λ q a. let oq = tail q (member o m.vertices v) a in let ql = below_p q (member o m.vertices v) a in
          rw oq (hp (position o q) (edge_from p.arrow (position o q) v (position_lt o q m.vertices ql oq) vl (rw (member_position o m.vertices q ql oq) a))))
          (λ i il sv. cause i il sv (j i) refl)
        where
          cause : (i : ℕ) → i < m.causes → m.serves i (member o m.vertices v) ≡ true → (c : Bool) → j i ≡ c → values_in j u i ≡ values_in j w i
          cause i il sv false e = rw e refl
          cause i il sv true e = rw e (hc (position j i) (position_lt j i m.causes il e)
              (and_from (nat_lt v (position o m.vertices)) (m.serves (member j m.causes (position j i)) (member o m.vertices v))
              (lt-ltb v (position o m.vertices) vl) (rw (member_position j m.causes i il e) sv)))

  pub fits_kept : ((i : ℕ) → i < m.causes → 1 ≤ sum_below (m.values i) (m.weight i)) → Fits (renumbered p (members_below o m.vertices)) (kept m o j)
  fits_kept weights = record {
    vertices = follows_kept.vertices;
    positive_size = follows_kept.positive_size;
    positive_weight = λ i il. weights (member j m.causes i) (member_is j m.causes i il).below;
    some_child = λ i il.
        let w = member_is j m.causes i il in
        let v = keeps.busy (member j m.causes i) w.below w.inside in (
          position o v.0,
          and_from (nat_lt (position o v.0) (position o m.vertices)) (m.serves (member j m.causes i) (member o m.vertices (position o v.0)))
              (lt-ltb (position o v.0) (position o m.vertices) (position_lt o v.0 m.vertices v.1 v.2)) (rw (member_position o m.vertices v.0 v.1 v.2) v.3),
        );
    child_below = λ i v il e. ltb-true v (position o m.vertices) (and_first (nat_lt v (position o m.vertices))
        (m.serves (member j m.causes i) (member o m.vertices v)) e);
    joined = follows_kept.joined;
    reads = follows_kept.reads;
    below = follows_kept.below;
  }

  -- ---- the weights
  module _ (rank rank' : ℕ → ℕ) (ranked : IsRanked p rank) (ranked' : IsRanked (renumbered p (members_below o m.vertices)) rank') (b a : ℕ → Bool) (s : ℕ → ℕ)
      (hs : IsAssignment (position o m.vertices) (λ v. m.size (member o m.vertices v)) s) where
    pub within : IsAssignment m.vertices m.size (values_in o s)
    within x xl = go (o x) refl
      where
        go : (c : Bool) → o x ≡ c → values_in o s x < m.size x
        go false e = rw e (fit.positive_size x xl)
        go true e = rw e (let f : s (position o x) < m.size (member o m.vertices (position o x)) = hs (position o x) (position_lt o x m.vertices xl e) in
            rw (member_position o m.vertices x xl e) at f)

    pub follows_b : Follows p (intervene m (set_in o b) (values_in o s))
    follows_b = follows_intervene p m (set_in o b) (values_in o s) within fit

    pub follows_b' : Follows (renumbered p (members_below o m.vertices)) (intervene (kept m o j) b s)
    follows_b' = follows_intervene (renumbered p (members_below o m.vertices)) (kept m o j) b s hs follows_kept

    -- a cause outside j is read by none
    pub round_ignores : (u : ℕ → ℕ) (i x : ℕ) → i < m.causes → j i ≡ false → (k v : ℕ) → v < m.vertices
        → rounds (intervene m (set_in o b) (values_in o s)) k (set_at u i x) v ≡ rounds (intervene m (set_in o b) (values_in o s)) k u v
    round_ignores u i x il e zero v vl = refl
    round_ignores u i x il e (suc k) v vl =
        follows_b.reads v vl (rounds (intervene m (set_in o b) (values_in o s)) k (set_at u i x)) (rounds (intervene m (set_in o b) (values_in o s)) k u)
        (set_at u i x) u
        (λ q a'. round_ignores u i x il e k q (below_p q v a'))
        (λ i' il' sv. set_at-other u i x i' (λ same. clash (m.serves i v) (rw same at (and_first (m.serves i' v) (not (set_in o b v)) sv))
        (keeps.idle i v il e)))

    module _ (c : ℕ → ℕ) where
      u : ℕ → ℕ
      u = spread j m.causes (λ i. 0) c

      x : ℕ → ℕ
      x = solution (intervene m (set_in o b) (values_in o s)) (spread j m.causes (λ i. 0) c)

      x_is : (v : ℕ) → v < position o m.vertices → x (member o m.vertices v)
          ≡ cond (b v) (s v) (m.mechanism (member o m.vertices v) (values_in o (λ v. x (member o m.vertices v))) (values_in j c))
      unfolding x
      x_is v vl =
          solution_is p (intervene m (set_in o b) (values_in o s)) rank ranked follows_b (spread j m.causes (λ i. 0) c) (member o m.vertices v) w.below
          ∙ rw (w.inside, w.place) (ap (λ y. cond (b v) (s v) y) (fit.reads (member o m.vertices v) w.below x (values_in o (λ v. x (member o m.vertices v)))
          (spread j m.causes (λ i. 0) c) (values_in j c)
          (λ q e. let oq = tail q (member o m.vertices v) e in rw oq (rw (member_position o m.vertices q (below_p q (member o m.vertices v) e) oq) refl))
          (λ i il sv. cause i il sv (j i) refl)))
        where
          w : IsMember o m.vertices v
          w = member_is o m.vertices v vl

          cause : (i : ℕ) → i < m.causes → m.serves i (member o m.vertices v) ≡ true → (d : Bool) → j i ≡ d → spread j m.causes (λ i. 0) c i ≡ values_in j c i
          cause i il sv false e = clash (m.serves i (member o m.vertices v)) sv (keeps.idle i (member o m.vertices v) il e)
          cause i il sv true e = rw e (spread_at j m.causes (λ i. 0) c i il e)

      same_solution : (v : ℕ) → v < position o m.vertices → x (member o m.vertices v) ≡ solution (intervene (kept m o j) b s) c v
      same_solution v vl =
          unique (renumbered p (members_below o m.vertices)) (intervene (kept m o j) b s) rank' ranked' follows_b' c (λ v. x (member o m.vertices v))
          (solution (intervene (kept m o j) b s) c)
          x_is
          (λ v vl. solution_is (renumbered p (members_below o m.vertices)) (intervene (kept m o j) b s) rank' ranked' follows_b' c v vl) v vl

      pub same_agree : agree m.vertices (set_in o a) (solution (intervene m (set_in o b) (values_in o s)) (spread j m.causes (λ i. 0) c)) (values_in o s)
          ≡ agree (position o m.vertices) a (solution (intervene (kept m o j) b s) c) s
      unfolding x
      same_agree = same_truth (agree m.vertices (set_in o a) x (values_in o s)) (agree (position o m.vertices) a (solution (intervene (kept m o j) b s) c) s)
          (λ h. agree_from (position o m.vertices) a (solution (intervene (kept m o j) b s) c) s (λ v vl e. sym (same_solution v vl) ∙ there h v vl e))
          (λ h. agree_from m.vertices (set_in o a) x (values_in o s) (λ v vl e. back h v vl (and_first (o v) (a (position o v)) e)
          (and_second (o v) (a (position o v)) e)))
        where
          there : agree m.vertices (set_in o a) x (values_in o s) ≡ true → (v : ℕ) → v < position o m.vertices → a v ≡ true → x (member o m.vertices v) ≡ s v
          there h v vl e = let w = member_is o m.vertices v vl in
              agree_gives m.vertices (set_in o a) x (values_in o s) h (member o m.vertices v) w.below (rw (w.inside, w.place) e) ∙ rw (w.inside, w.place) refl

          back : agree (position o m.vertices) a (solution (intervene (kept m o j) b s) c) s ≡ true → (v : ℕ) → v < m.vertices → o v ≡ true → a (position o v)
              ≡ true → x v ≡ values_in o s v
          back h v vl ov e = ap x (sym (member_position o m.vertices v vl ov)) ∙ same_solution (position o v) (position_lt o v m.vertices vl ov)
              ∙ agree_gives (position o m.vertices) a (solution (intervene (kept m o j) b s) c) s h (position o v) (position_lt o v m.vertices vl ov) e
              ∙ rw ov refl
