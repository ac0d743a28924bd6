-- The folded model follows the projection, and gives observed events the same weights.
use Rattle.std.proofs.Common.{ℕ, zero, suc, ◌≡◌, ◌<◌, ◌≤◌, Bool, true, false, not, cond, List, [], ◌∷◌, ◌⊎◌, inl, inr, refl, sym, ap, ◌∙◌, arith}
use Rattle.std.proofs.lemmas.Bool.{cases_eq}
use mathlib.Core.Path.{fun_ext}
use Rattle.mixed_graph.specs.Vocabulary.{MixedGraph, IsMixedGraph, IsDirectedPath, Apart}
use Rattle.finite_models.specs.Vocabulary.{FiniteModel, IsAssignment, rounds, solution, IsSolution, agree, intervene, weight_of, world_weight}
use Rattle.finite_models.proofs.Following.{Follows, follows_intervene}
use Rattle.finite_models.proofs.SumLaws.{over-congr_within}
use Rattle.finite_models.proofs.Solutions.{IsRanked, solution_is, solution_within, unique, agree_same}
use Rattle.finite_models.proofs.Ranks.{with_rank}
use Rattle.latent_projection.specs.Vocabulary.{AreBefore}
use Rattle.latent_projection.proofs.Treks.{Reaches, LeadsOn, IsTrek, fork, edge, ProjectsByTreks, clash, here, longer}
use Rattle.hidden_models.proofs.FoldingLaw.{filled, fold, IsReached, TellsReached}

module _ (g p : MixedGraph) (l : ℕ → Bool) (m : FiniteModel) (r : ℕ → ℕ → Bool) (ok : IsMixedGraph g) (is : ProjectsByTreks g l p) (fit : Follows g m)
    (tells : TellsReached g l m r) where
  -- ---- it fits
  led_from : (q d v : ℕ) → g.arrow q d ≡ true → Reaches g l d v → LeadsOn g l q v
  led_from q d v a w = record { next = d; first = a; rest = w }

  joined_by : (j u v : ℕ) → j < m.causes → r j u ≡ true → r j v ≡ true → (u ≡ v → ⊥) → p.both u v ≡ true
  joined_by j u v jl e f ne = is.trek_back u v (tells.observed j u e) (tells.observed j v f) ne (go (tells.sound j u e) (tells.sound j v f))
    where
      latent_top : (c : ℕ) (xs ys : List ℕ) → IsDirectedPath g c xs u → IsDirectedPath g c ys v → AreBefore l c xs → AreBefore l c ys → l c ≡ true
      latent_top c [] [] x y b b' = absurd (ne (sym x ∙ y))
      latent_top c [] (z ∷ zs) x y b b' = b'.0
      latent_top c (z ∷ zs) ys x y b b' = b.0

      go : IsReached g l m j u → IsReached g l m j v → IsTrek g l u v
      go x y = pick (cases_eq x.child y.child)
        where
          pick : (x.child ≡ y.child) ⊎ (x.child ≡ y.child → ⊥) → IsTrek g l u v
          pick (inl s) = let w : Reaches g l x.child v = rw s y.way in
              fork x.child (latent_top x.child x.way.path w.path x.way.leads w.leads x.way.before w.before) x.way w
          pick (inr d) = edge x.child y.child (fit.joined j x.child y.child jl x.served y.served d) x.way y.way

  module _ (v : ℕ) (lv : l v ≡ false) (s t u w : ℕ → ℕ) (hp : (q : ℕ) → p.arrow q v ≡ true → s q ≡ t q)
      (hc : (j : ℕ) → j < m.causes → r j v ≡ true → u j ≡ w j) where
    -- what is filled in at q depends on the values that the projection lets v read
    same_round : (k q d : ℕ) → g.arrow q d ≡ true → Reaches g l d v → rounds (intervene m (λ v. not (l v)) s) k u q
        ≡ rounds (intervene m (λ v. not (l v)) t) k w q
    same_round zero q d a way = refl
    same_round (suc k) q d a way = go (l q) refl (same_round k)
      where
        go : (c : Bool) → l q ≡ c
            → ((q' d' : ℕ) → g.arrow q' d' ≡ true → Reaches g l d' v → rounds (intervene m (λ v. not (l v)) s) k u q'
            ≡ rounds (intervene m (λ v. not (l v)) t) k w q')
            → cond (not (l q)) (s q) (m.mechanism q (rounds (intervene m (λ v. not (l v)) s) k u) u)
            ≡ cond (not (l q)) (t q) (m.mechanism q (rounds (intervene m (λ v. not (l v)) t) k w) w)
        go false e ih = rw e (hp q (is.led_back q v e lv (led_from q d v a way)))
        go true e ih = rw e (fit.reads q (rw fit.vertices (ok.tail_below q d a)) (rounds (intervene m (λ v. not (l v)) s) k u)
            (rounds (intervene m (λ v. not (l v)) t) k w) u w
            (λ q' a'. ih q' q a' (longer g l q d v e a way))
            (λ j jl sv. hc j jl (tells.complete j v jl lv (record { child = q; served = sv; way = longer g l q d v e a way }))))

    same_value : v < m.vertices → m.mechanism v (filled m l s u) u ≡ m.mechanism v (filled m l t w) w
    same_value vl = fit.reads v vl (filled m l s u) (filled m l t w) u w
        (λ q a. same_round m.vertices q v a (here g l v))
        (λ j jl sv. hc j jl (tells.complete j v jl lv (record { child = v; served = sv; way = here g l v })))

  filled_round : (s u : ℕ → ℕ) → IsAssignment m.vertices (λ v. cond (l v) 1 (m.size v)) s → IsAssignment m.causes m.values u → (k : ℕ)
      → IsAssignment m.vertices m.size (rounds (intervene m (λ v. not (l v)) s) k u)
  filled_round s u hs hu zero v vl = fit.positive_size v vl
  filled_round s u hs hu (suc k) v vl = go (filled_round s u hs hu k) (l v) refl (hs v vl)
    where
      go : IsAssignment m.vertices m.size (rounds (intervene m (λ v. not (l v)) s) k u) → (c : Bool) → l v ≡ c → s v < cond (l v) 1 (m.size v)
          → cond (not (l v)) (s v) (m.mechanism v (rounds (intervene m (λ v. not (l v)) s) k u) u) < m.size v
      go ih true e h = rw e (fit.below v vl (rounds (intervene m (λ v. not (l v)) s) k u) u ih hu)
      go ih false e h = rw e (rw e at h)

  -- with the hidden mechanisms put into the observed ones, a model follows the latent projection
  pub fold_follows : Follows p (fold m l r)
  fold_follows = record {
    vertices = fit.vertices ∙ sym is.vertices;
    joined = joined_by;
    reads = λ v vl s t u w hp hc. reads v vl s t u w hp hc (l v) refl;
    below = λ v vl s u hs hu. below v vl s u hs hu (l v);
    positive_size = λ v vl. positive (l v) (m.size v) (fit.positive_size v vl);
  }
    where
      reads : (v : ℕ) → v < m.vertices → (s t u w : ℕ → ℕ) → ((q : ℕ) → p.arrow q v ≡ true → s q ≡ t q) → ((j : ℕ) → j < m.causes → r j v ≡ true → u j ≡ w j)
          → (c : Bool) → l v ≡ c → cond (l v) 0 (m.mechanism v (filled m l s u) u) ≡ cond (l v) 0 (m.mechanism v (filled m l t w) w)
      reads v vl s t u w hp hc true e = rw e refl
      reads v vl s t u w hp hc false e = rw e (same_value v e s t u w hp hc vl)

      below : (v : ℕ) → v < m.vertices → (s u : ℕ → ℕ) → IsAssignment m.vertices (λ v. cond (l v) 1 (m.size v)) s → IsAssignment m.causes m.values u
          → (c : Bool) → cond c 0 (m.mechanism v (filled m l s u) u) < cond c 1 (m.size v)
      below v vl s u hs hu true = omega arith
      below v vl s u hs hu false = fit.below v vl (filled m l s u) u (filled_round s u hs hu m.vertices) hu

      positive : (c : Bool) (n : ℕ) → 0 < n → 0 < cond c 1 n
      positive true n h = omega arith
      positive false n h = h

  -- ---- it weighs the same
  -- what is filled in depends on the observed values alone
  filled_same : (s t u : ℕ → ℕ) → ((v : ℕ) → l v ≡ false → s v ≡ t v) → (k : ℕ) → rounds (intervene m (λ v. not (l v)) s) k u
      ≡ rounds (intervene m (λ v. not (l v)) t) k u
  filled_same s t u h zero = refl
  filled_same s t u h (suc k) = fun_ext (λ v. go (filled_same s t u h k) v (l v) refl)
    where
      go : rounds (intervene m (λ v. not (l v)) s) k u ≡ rounds (intervene m (λ v. not (l v)) t) k u → (v : ℕ) (c : Bool) → l v ≡ c
          → cond (not (l v)) (s v) (m.mechanism v (rounds (intervene m (λ v. not (l v)) s) k u) u)
          ≡ cond (not (l v)) (t v) (m.mechanism v (rounds (intervene m (λ v. not (l v)) t) k u) u)
      go ih v true e = rw e (ap (λ x. m.mechanism v x u) ih)
      go ih v false e = rw e (h v e)

  module _ (rank : ℕ → ℕ) (ranked : IsRanked g rank) where
    reach_rises : (v : ℕ) (xs : List ℕ) (t : ℕ) → IsDirectedPath g v xs t → rank v ≤ rank t
    reach_rises v [] t q = omega (arith, ap rank q)
    reach_rises v (x ∷ xs) t q = omega (arith, ranked.rises v x q.0, reach_rises x xs t q.1)

    pub ranked_projection : IsRanked p rank
    ranked_projection = record {
      tail_below = λ u v e. let d = is.led u v e in rw is.vertices (ok.tail_below u d.next d.first);
      rises = λ u v e. let d = is.led u v e in omega (arith, ranked.rises u d.next d.first, reach_rises d.next d.rest.path v d.rest.leads);
      low = λ v vl. rw is.vertices (ranked.low v (rw (sym is.vertices) vl));
    }

    module _ (b a : ℕ → Bool) (bo : Apart b l) (ao : Apart a l) (s : ℕ → ℕ) (hs : IsAssignment m.vertices (λ v. cond (l v) 1 (m.size v)) s) where
      within : IsAssignment m.vertices m.size s
      within v vl = go (l v) (hs v vl) (fit.positive_size v vl)
        where
          go : (c : Bool) → s v < cond c 1 (m.size v) → 0 < m.size v → s v < m.size v
          go true h q = omega arith
          go false h q = h

      none : (v : ℕ) → l v ≡ true → b v ≡ false
      none v e = go (b v) refl
        where
          go : (c : Bool) → b v ≡ c → b v ≡ false
          go true h = clash (l v) e (bo v h)
          go false h = h

      module _ (u : ℕ → ℕ) (hu : IsAssignment m.causes m.values u) where
        t : ℕ → ℕ
        t = solution (intervene m b s) u

        t_is : (v : ℕ) → v < m.vertices → t v ≡ cond (b v) (s v) (m.mechanism v t u)
        unfolding t
        t_is v vl = solution_is g (intervene m b s) rank ranked (follows_intervene g m b s within fit) u v vl

        t_within : IsAssignment m.vertices m.size t
        unfolding t
        t_within = solution_within g (intervene m b s) (follows_intervene g m b s within fit) u hu

        -- filling in the latent values gives them back
        refilled : (v : ℕ) → v < m.vertices → filled m l t u v ≡ t v
        refilled v vl =
            unique g (intervene m (λ v. not (l v)) t) rank ranked (follows_intervene g m (λ v. not (l v)) t t_within fit) u (filled m l t u) t
            (λ x xl. solution_is g (intervene m (λ v. not (l v)) t) rank ranked (follows_intervene g m (λ v. not (l v)) t t_within fit) u x xl)
            (λ x xl. go x (l x) refl (t_is x xl))
            v vl
          where
            go : (x : ℕ) (c : Bool) → l x ≡ c → t x ≡ cond (b x) (s x) (m.mechanism x t u) → t x ≡ cond (not (l x)) (t x) (m.mechanism x t u)
            go x false e h = rw e refl
            go x true e h = rw e (rw (none x e) at h)

        hidden : ℕ → ℕ
        hidden v = cond (l v) 0 (t v)

        hidden_same : (v : ℕ) → l v ≡ false → t v ≡ hidden v
        unfolding hidden
        hidden_same v e = rw e refl

        hidden_is : IsSolution (intervene (fold m l r) b s) u hidden
        unfolding hidden
        hidden_is v vl = go (l v) refl
          where
            value : m.mechanism v (filled m l hidden u) u ≡ m.mechanism v t u
            value = ap (λ x. m.mechanism v x u) (sym (filled_same t hidden u hidden_same m.vertices))
                ∙ fit.reads v vl (filled m l t u) t u u (λ q e. refilled q (rw fit.vertices (ok.tail_below q v e))) (λ j jl e. refl)

            go : (c : Bool) → l v ≡ c → cond (l v) 0 (t v) ≡ cond (b v) (s v) (cond (l v) 0 (m.mechanism v (filled m l hidden u) u))
            go true e = rw (none v e, e) refl
            go false e = rw e (t_is v vl ∙ ap (λ x. cond (b v) (s v) x) (sym value))

        -- the observed vertices have in each world the same values
        pub same_agree : agree m.vertices a (solution (intervene m b s) u) s ≡ agree m.vertices a (solution (intervene (fold m l r) b s) u) s
        unfolding t hidden
        same_agree = agree_same m.vertices a a (solution (intervene m b s) u) (solution (intervene (fold m l r) b s) u) s
            (λ h v vl e. sym (at v vl (ao v e)) ∙ h v vl e) (λ h v vl e. at v vl (ao v e) ∙ h v vl e)
          where
            fits : Follows p (intervene (fold m l r) b s)
            fits = follows_intervene p (fold m l r) b s hs fold_follows

            at : (v : ℕ) → v < m.vertices → l v ≡ false → solution (intervene m b s) u v ≡ solution (intervene (fold m l r) b s) u v
            at v vl e = hidden_same v e ∙ unique p (intervene (fold m l r) b s) rank ranked_projection fits u hidden (solution (intervene (fold m l r) b s) u)
                hidden_is (λ x xl. solution_is p (intervene (fold m l r) b s) rank ranked_projection fits u x xl) v vl

      pub fold_weight : weight_of m b a s ≡ weight_of (fold m l r) b a s
      fold_weight = over-congr_within (λ j. true) m.values m.causes
          (λ u. cond (agree m.vertices a (solution (intervene m b s) u) s) (world_weight m u) 0)
          (λ u. cond (agree m.vertices a (solution (intervene (fold m l r) b s) u) s) (world_weight m u) 0)
          (λ j. 0)
          (λ u inside same. ap (λ x. cond x (world_weight m u) 0) (same_agree u (λ j jl. inside j jl refl)))

pub fold_weighs : (g p : MixedGraph) (l : ℕ → Bool) (m : FiniteModel) (r : ℕ → ℕ → Bool) → IsMixedGraph g → ProjectsByTreks g l p → Follows g m
    → TellsReached g l m r
    → (b a : ℕ → Bool) → Apart b l → Apart a l → (s : ℕ → ℕ) → IsAssignment m.vertices (λ v. cond (l v) 1 (m.size v)) s → weight_of m b a s
    ≡ weight_of (fold m l r) b a s
fold_weighs g p l m r ok is fit tells b a bo ao s hs =
    with_rank g ok (weight_of m b a s) (weight_of (fold m l r) b a s) (λ rank ranked. fold_weight g p l m r ok is fit tells rank ranked b a bo ao s hs)
