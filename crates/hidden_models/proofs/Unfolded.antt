-- A model with a hidden vertex put back gives the events of the other vertices the same weights.
use Rattle.std.proofs.Common.{ℕ, ◌≡◌, ◌<◌, Bool, true, false, cond, ◌&&◌, ◌==◌, ◌⊎◌, inl, inr, refl, sym, ap, ap₂, ◌∙◌, arith, eqb-true, eq-eqb, ne_eqb}
use Rattle.std.proofs.lemmas.Bool.{or_cases}
use Rattle.std.proofs.lemmas.Nat.{div-mul-add, mod-mul-add}
use Rattle.mixed_graph.specs.Vocabulary.{MixedGraph, IsMixedGraph}
use Rattle.finite_models.specs.Vocabulary.{radix, radix_range, FiniteModel, Fits, IsAssignment, solution, IsSolution, agree, intervene, weight_of, sum_worlds, world_weight, ServesTwo}
use Rattle.finite_models.proofs.Following.{Follows, follows_of, follows_intervene}
use Rattle.finite_models.proofs.Ranks.{with_rank}
use Rattle.finite_models.proofs.SumLaws.{over-congr_within}
use Rattle.finite_models.proofs.Solutions.{IsRanked, solution_is, solution_within, unique, agree_same}
use Rattle.finite_models.proofs.TableLaws.{radix-lt}
use Rattle.latent_projection.specs.Vocabulary.{without}
use Rattle.latent_projection.proofs.Treks.{clash, left_true, right_true}
use Rattle.hidden_models.specs.Digits.{digits}
use Rattle.hidden_models.proofs.DigitLaws.{digits_radix}
use Rattle.hidden_models.proofs.Unfold.{serves_at, code, codes, parent_in, cause_in, seen, heard, put_back, arrow_of, fits_back, same_code, no_self}

-- the weight of the worlds in which a has under do(b) the values s, and a' has under do(b') the values t
abbrev pub two_weight : FiniteModel → (b a b' a' : ℕ → Bool) → (s t : ℕ → ℕ) → ℕ
two_weight m b a b' a' s t = sum_worlds m (λ u. cond (agree m.vertices a (solution (intervene m b s) u) s
    && agree m.vertices a' (solution (intervene m b' t) u) t) (world_weight m u) 0)

module _ (g : MixedGraph) (k : ℕ) (m : FiniteModel) (two : ServesTwo m) (ok : IsMixedGraph g) (kl : k < m.vertices) (fit : Fits (without g k) m) where
  -- ---- what a code holds
  module _ (s u : ℕ → ℕ) (hs : IsAssignment m.vertices m.size s) (hu : IsAssignment m.causes m.values u) where
    rest_lt : radix m.causes (λ j. serves_at g k m two j k) m.values u < radix_range m.causes (λ j. serves_at g k m two j k) m.values
    rest_lt = radix-lt m.causes (λ j. serves_at g k m two j k) m.values u (λ j jl e. hu j jl)

    parent_back : (p : ℕ) → g.arrow p k ≡ true → parent_in g k m two (code g k m two s u) p ≡ s p
    parent_back p a =
        ap (λ i. digits m.vertices (λ p. g.arrow p k) m.size i p) (div-mul-add (radix m.vertices (λ p. g.arrow p k) m.size s)
        (radix_range m.causes (λ j. serves_at g k m two j k) m.values) (radix m.causes (λ j. serves_at g k m two j k) m.values u) rest_lt)
        ∙ digits_radix m.vertices (λ p. g.arrow p k) m.size s (λ q ql e. hs q ql) p (rw fit.vertices (ok.tail_below p k a)) a

    cause_back : (j : ℕ) → j < m.causes → serves_at g k m two j k ≡ true → cause_in g k m two (code g k m two s u) j ≡ u j
    cause_back j jl a =
        ap (λ i. digits m.causes (λ j. serves_at g k m two j k) m.values i j)
        (mod-mul-add (radix m.vertices (λ p. g.arrow p k) m.size s) (radix_range m.causes (λ j. serves_at g k m two j k) m.values)
        (radix m.causes (λ j. serves_at g k m two j k) m.values u) rest_lt)
        ∙ digits_radix m.causes (λ j. serves_at g k m two j k) m.values u (λ i il e. hu i il) j jl a

  module _ (rank : ℕ → ℕ) (ranked : IsRanked g rank) where
    ranked_without : IsRanked (without g k) rank
    ranked_without = record {
      tail_below = λ u v e. let r = arrow_of g k u v e in tail u v (or_cases (g.arrow u v) (g.arrow u k && g.arrow k v) r.either);
      rises = λ u v e. let r = arrow_of g k u v e in rise u v (or_cases (g.arrow u v) (g.arrow u k && g.arrow k v) r.either);
      low = ranked.low;
    }
      where
        tail : (u v : ℕ) → (g.arrow u v ≡ true) ⊎ ((g.arrow u k && g.arrow k v) ≡ true) → u < g.vertices
        tail u v (inl e) = ok.tail_below u v e
        tail u v (inr e) = ok.tail_below u k (left_true (g.arrow u k) (g.arrow k v) e)

        rise : (u v : ℕ) → (g.arrow u v ≡ true) ⊎ ((g.arrow u k && g.arrow k v) ≡ true) → rank u < rank v
        rise u v (inl e) = ranked.rises u v e
        rise u v (inr e) = omega (
          arith,
          ranked.rises u k (left_true (g.arrow u k) (g.arrow k v) e),
          ranked.rises k v
              (right_true (g.arrow u k) (g.arrow k v) e),
        )

    module _ (b a : ℕ → Bool) (bk : b k ≡ false) (ak : a k ≡ false) (s : ℕ → ℕ) (hs : IsAssignment m.vertices m.size s)
        (hs' : IsAssignment m.vertices (λ v. cond (v == k) (codes g k m two) (m.size v)) s) where
      follows : Follows (without g k) (intervene m b s)
      follows = follows_intervene (without g k) m b s hs (follows_of (without g k) m fit)

      follows' : Follows g (intervene (put_back g k m two) b s)
      follows' = follows_intervene g (put_back g k m two) b s hs' (follows_of g (put_back g k m two) (fits_back g k m two ok kl fit))

      module _ (u : ℕ → ℕ) (hu : IsAssignment m.causes m.values u) where
        t : ℕ → ℕ
        t = solution (intervene m b s) u

        t_is : (v : ℕ) → v < m.vertices → t v ≡ cond (b v) (s v) (m.mechanism v t u)
        unfolding t
        t_is v vl = solution_is (without g k) (intervene m b s) rank ranked_without follows u v vl

        t_within : IsAssignment m.vertices m.size t
        unfolding t
        t_within = solution_within (without g k) (intervene m b s) follows u hu

        -- the solution with the code at k
        coded : ℕ → ℕ
        coded v = cond (v == k) (code g k m two t u) (t v)

        coded_other : (v : ℕ) → (v == k) ≡ false → coded v ≡ t v
        unfolding coded
        coded_other v e = rw e refl

        coded_k : coded k ≡ code g k m two t u
        unfolding coded
        coded_k = let e : (k == k) ≡ true = eq-eqb k k refl in rw e refl

        seen_back : (v p : ℕ) → (without g k).arrow p v ≡ true → t p ≡ seen g k m two v coded p
        seen_back v p a = let r = arrow_of g k p v a in go (ne_eqb p k r.tail) (g.arrow k v && g.arrow p k) refl
          where
            go : (p == k) ≡ false → (c : Bool) → (g.arrow k v && g.arrow p k) ≡ c
                → t p ≡ cond (p == k) 0 (cond (g.arrow k v && g.arrow p k) (parent_in g k m two (coded k) p) (coded p))
            go n true e = rw (n, e) (sym (ap (λ i. parent_in g k m two i p) coded_k ∙ parent_back t u t_within hu p (right_true (g.arrow k v) (g.arrow p k) e)))
            go n false e = rw (n, e) (sym (coded_other p n))

        heard_back : (v j : ℕ) → j < m.causes → u j ≡ heard g k m two v coded u j
        heard_back v j jl = go (g.arrow k v && serves_at g k m two j k) refl
          where
            go : (c : Bool) → (g.arrow k v && serves_at g k m two j k) ≡ c
                → u j ≡ cond (g.arrow k v && serves_at g k m two j k) (cause_in g k m two (coded k) j) (u j)
            go true e = rw e (sym (ap (λ i. cause_in g k m two i j) coded_k
                ∙ cause_back t u t_within hu j jl (right_true (g.arrow k v) (serves_at g k m two j k) e)))
            go false e = rw e refl

        coded_is : IsSolution (intervene (put_back g k m two) b s) u coded
        coded_is v vl = go (v == k) refl
          where
            at_k : (v ≡ k) → coded v ≡ cond (b v) (s v) (code g k m two coded u)
            at_k q = ap coded q ∙ coded_k ∙ same_code g k m two ok kl fit t coded u u (λ p a. sym (coded_other p (no_self g k m two ok kl fit p a)))
                (λ j jl a. refl)
                ∙ sym (ap (λ c. cond c (s v) (code g k m two coded u)) (ap b q ∙ bk))

            go : (c : Bool) → (v == k) ≡ c → coded v ≡ cond (b v) (s v)
                (cond (v == k) (code g k m two coded u) (m.mechanism v (seen g k m two v coded) (heard g k m two v coded u)))
            go true e = rw e (at_k (eqb-true v k e))
            go false e = rw e (coded_other v e ∙ t_is v vl ∙ ap (cond (b v) (s v))
                (fit.reads v vl t (seen g k m two v coded) u (heard g k m two v coded u) (seen_back v) (λ j jl q. heard_back v j jl)))

        -- another vertex has its value with k put back too
        pub back_at : (v : ℕ) → v < m.vertices → (v == k) ≡ false → solution (intervene m b s) u v ≡ solution (intervene (put_back g k m two) b s) u v
        unfolding t
        back_at v vl e = sym (coded_other v e) ∙ unique g (intervene (put_back g k m two) b s) rank ranked follows' u coded
            (solution (intervene (put_back g k m two) b s) u)
            coded_is (λ x xl. solution_is g (intervene (put_back g k m two) b s) rank ranked follows' u x xl) v vl

        pub back_agree : agree m.vertices a (solution (intervene m b s) u) s ≡ agree m.vertices a (solution (intervene (put_back g k m two) b s) u) s
        back_agree = agree_same m.vertices a a (solution (intervene m b s) u) (solution (intervene (put_back g k m two) b s) u) s
            (λ h v vl e. sym (back_at v vl (not_k v e)) ∙ h v vl e) (λ h v vl e. back_at v vl (not_k v e) ∙ h v vl e)
          where
            not_k : (v : ℕ) → a v ≡ true → (v == k) ≡ false
            not_k v e = ne_eqb v k (λ q. clash (a k) (ap a (sym q) ∙ e) ak)

      pub back_weight : weight_of m b a s ≡ weight_of (put_back g k m two) b a s
      back_weight = over-congr_within (λ j. true) m.values m.causes
          (λ u. cond (agree m.vertices a (solution (intervene m b s) u) s) (world_weight m u) 0)
          (λ u. cond (agree m.vertices a (solution (intervene (put_back g k m two) b s) u) s) (world_weight m u) 0)
          (λ j. 0)
          (λ u inside same. ap (λ x. cond x (world_weight m u) 0) (back_agree u (λ j jl. inside j jl refl)))

  -- events of the other vertices have the same weights, under interventions on them
  pub back_weighs : (b a : ℕ → Bool) → b k ≡ false → a k ≡ false → (s : ℕ → ℕ) → IsAssignment m.vertices m.size s
      → IsAssignment m.vertices (λ v. cond (v == k) (codes g k m two) (m.size v)) s
      → weight_of m b a s ≡ weight_of (put_back g k m two) b a s
  back_weighs b a bk ak s hs hs' = with_rank g ok (weight_of m b a s) (weight_of (put_back g k m two) b a s)
      (λ rank ranked. back_weight rank ranked b a bk ak s hs hs')

  -- and so have events of two worlds
  pub back_two : (b a b' a' : ℕ → Bool) → b k ≡ false → a k ≡ false → b' k ≡ false → a' k ≡ false → (s t : ℕ → ℕ)
      → IsAssignment m.vertices m.size s → IsAssignment m.vertices (λ v. cond (v == k) (codes g k m two) (m.size v)) s
      → IsAssignment m.vertices m.size t → IsAssignment m.vertices (λ v. cond (v == k) (codes g k m two) (m.size v)) t
      → two_weight m b a b' a' s t ≡ two_weight (put_back g k m two) b a b' a' s t
  back_two b a b' a' bk ak bk' ak' s t hs hs' ht ht' = with_rank g ok (two_weight m b a b' a' s t) (two_weight (put_back g k m two) b a b' a' s t)
      (λ rank ranked.
      over-congr_within (λ j. true) m.values m.causes
      (λ u. cond (agree m.vertices a (solution (intervene m b s) u) s && agree m.vertices a' (solution (intervene m b' t) u) t) (world_weight m u) 0)
      (λ u. cond (agree m.vertices a (solution (intervene (put_back g k m two) b s) u) s
      && agree m.vertices a' (solution (intervene (put_back g k m two) b' t) u) t) (world_weight m u) 0) (λ j. 0)
      (λ u inside same. ap (λ x. cond x (world_weight m u) 0) (ap₂ (λ x y. x && y)
      (back_agree rank ranked b a bk ak s hs hs' u (λ j jl. inside j jl refl))
      (back_agree rank ranked b' a' bk' ak' t ht ht' u (λ j jl. inside j jl refl)))))
