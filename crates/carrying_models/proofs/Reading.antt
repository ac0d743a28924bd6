-- What members of y and z read in the model that carries coins.
use Rattle.std.proofs.Common.{ℕ, ◌+◌, ◌-◌, ◌≡◌, ◌<◌, Bool, true, false, cond, sym, ap, subst, ◌∙◌, ◌&&◌, ◌||◌, eqb}
use Rattle.std.proofs.Common.{List, lt-ltb, le-ltb, ltb, arith}
use Rattle.std.proofs.lemmas.Bool.{and_parts, and_from, cond-false}
use Rattle.mixed_graph.specs.Vocabulary.{has, MixedGraph, IsMixedGraph, IsDirectedPath}
use Rattle.finite_models.specs.Vocabulary.{FiniteModel, IsAssignment, solution, intervene}
use Rattle.finite_models.proofs.Factors.{any_below, any_below_from, any_below_gives}
use Rattle.finite_models.proofs.Following.{Follows, follows_of}
use Rattle.finite_models.proofs.Solutions.{IsRanked, solution_is}
use Rattle.do_rules.specs.Vocabulary.{cut_out}
use Rattle.nested_models.specs.Nested.{nested}
use Rattle.nested_models.proofs.Worlds.{done, nest, set_m}
use Rattle.carrying_models.proofs.Channels.{IsCarried, one_source, carries, only_there, begins_there}
use Rattle.carrying_models.proofs.Core.{Coins, core, own, many, value, begins_by, shut_by, are_carried, core_fits}

module _ (g : MixedGraph) (ok : IsMixedGraph g) (rank : ℕ → ℕ) (ranked : IsRanked g rank) (c : Coins g) (x m : ℕ → Bool) (p : ℕ) where
  abbrev both : ℕ → Bool
  both v = x v || m v

  first_kind : (i : ℕ) → i < g.vertices → ltb i g.vertices ≡ true
  first_kind i il = lt-ltb i g.vertices il

  -- the first kind, where the values s solve outside x
  module _ (f : ℕ → Bool) (s u : ℕ → ℕ) (solves : (q : ℕ) → q < g.vertices → x q ≡ false → s q ≡ value g c x m p (own g c x m p f s u q) s q) (i : ℕ)
      (il : i < g.vertices) where
    carried_first : IsCarried g x (λ q. eqb q i && own g c x m p f s u q) (λ q. has (s q) i)
    carried_first = subst (λ b. IsCarried g (shut_by g c x m p b) (λ q. begins_by g c x m p b (ltb i (g.vertices + g.vertices)) i (i - g.vertices)
        (i - (g.vertices + g.vertices)) (own g c x m p f s u q) s q) (λ q. has (s q) i))
        (first_kind i il)
        (are_carried g c x m p f s u i (omega (arith, il))
        (λ q ql free. solves q ql (subst (λ b. shut_by g c x m p b q ≡ false) (first_kind i il) free)))

    pub read_first : (path : List ℕ) (e : ℕ) → IsDirectedPath (cut_out g x) i path e → x e ≡ false → has (s e) i ≡ own g c x m p f s u i
    read_first path e l free = one_source g ok rank ranked x (own g c x m p f s u) (λ q. has (s q) i) i carried_first path e il l free

  -- the second kind, where they solve outside x and m
  module _ (f : ℕ → Bool) (s u : ℕ → ℕ) (solves : (q : ℕ) → q < g.vertices → both q ≡ false → s q ≡ value g c x m p (own g c x m p f s u q) s q) (i : ℕ)
      (il : i < g.vertices) where
    abbrev bits_by : (b d : Bool) (l j k n : ℕ) → Type 0
    bits_by b d l j k n =
        IsCarried g (shut_by g c x m p b) (λ q. begins_by g c x m p b d l j k (own g c x m p f s u q) s q) (λ q. has (s q) n)

    carried_at : (n : ℕ) → n < many g c x m p → ltb n g.vertices ≡ false
        → bits_by false (ltb n (g.vertices + g.vertices)) n (n - g.vertices) (n - (g.vertices + g.vertices)) n
    carried_at n nl far = subst (λ b. bits_by b (ltb n (g.vertices + g.vertices)) n (n - g.vertices) (n - (g.vertices + g.vertices)) n) far
        (are_carried g c x m p f s u n nl (λ q ql free. solves q ql (subst (λ b. shut_by g c x m p b q ≡ false) far free)))

    carried_second : IsCarried g both (λ q. eqb q i && own g c x m p f s u q) (λ q. has (s q) (g.vertices + i))
    carried_second =
        let n = g.vertices + i in
        let back : n - g.vertices ≡ i = omega arith in
        subst (λ j. bits_by false true n j (n - (g.vertices + g.vertices)) n) back
        (subst (λ d. bits_by false d n (n - g.vertices) (n - (g.vertices + g.vertices)) n) (lt-ltb n (g.vertices + g.vertices) (omega (arith, il)))
        (carried_at n (omega (arith, il)) (le-ltb n g.vertices (omega arith))))

    carried_third : IsCarried g both (λ q. any_below g.vertices (λ r. (g.arrow r q && m r) && has (s r) i)) (λ q. has (s q) ((g.vertices + g.vertices) + i))
    carried_third =
        let n = (g.vertices + g.vertices) + i in
        let back : n - (g.vertices + g.vertices) ≡ i = omega arith in
        subst (λ k. bits_by false false n (n - g.vertices) k n) back
        (subst (λ d. bits_by false d n (n - g.vertices) (n - (g.vertices + g.vertices)) n) (le-ltb n (g.vertices + g.vertices) (omega arith))
        (carried_at n (omega (arith, il)) (le-ltb n g.vertices (omega arith))))

  module _ (f : ℕ → Bool) (arrows : (i : ℕ) → f i ≡ true → g.arrow p i ≡ true) where
    abbrev w : FiniteModel
    w = core g c x m p f

    follows : Follows g w
    follows = follows_of g w (core_fits g c x m p f arrows)

    -- at the end of a path outside x the first kind is the own bit of its beginning
    pub read_plain : (u : ℕ → ℕ) (i : ℕ) → i < g.vertices → (path : List ℕ) (e : ℕ) → IsDirectedPath (cut_out g x) i path e → x e ≡ false
        → has (solution w u e) i ≡ own g c x m p f (solution w u) u i
    read_plain u i il = read_first f (solution w u) u (λ q ql free. solution_is g w rank ranked follows u q ql) i il

    module _ (m_x : (v : ℕ) → m v ≡ true → x v ≡ false) (s t : ℕ → ℕ) (hs : IsAssignment w.vertices w.size s) (ht : IsAssignment w.vertices w.size t)
        (u : ℕ → ℕ) (inside : IsAssignment w.causes w.values u) where
      abbrev there : ℕ → ℕ
      there = nested w x m s t u

      abbrev other : ℕ → ℕ
      other = solution (intervene w x t) u

      there_solves : (q : ℕ) → q < g.vertices → both q ≡ false → there q ≡ w.mechanism q there u
      there_solves q ql free = nest g ok w rank ranked follows x m m_x s t hs ht u inside q ql
          ∙ cond-false (both q) (cond (m q) (other q) (s q)) (w.mechanism q there u) free

      other_solves : (q : ℕ) → q < g.vertices → x q ≡ false → other q ≡ w.mechanism q other u
      other_solves q ql free = done g ok w rank ranked follows x t ht u q ql ∙ cond-false (x q) (t q) (w.mechanism q other u) free

      mediator : (r : ℕ) → r < g.vertices → m r ≡ true → there r ≡ other r
      mediator = set_m g ok w rank ranked follows x m m_x s t hs ht u inside

      -- at the end of a path past m the second kind is the own bit of its beginning, in the nested world
      pub read_past : (i : ℕ) → i < g.vertices → (path : List ℕ) (e : ℕ) → IsDirectedPath (cut_out g both) i path e → both e ≡ false
          → has (there e) (g.vertices + i) ≡ own g c x m p f there u i
      read_past i il path e l free =
          one_source g ok rank ranked both (own g c x m p f there u) (λ q. has (there q) (g.vertices + i)) i (carried_second f there u there_solves i il)
          path e il l free

      -- at the end of one through m the third kind is that in the world that m is taken from
      pub read_through : (i : ℕ) → i < g.vertices → (path : List ℕ) (r : ℕ) → IsDirectedPath (cut_out g x) i path r → m r ≡ true
          → (q : ℕ) → g.arrow r q ≡ true → (rest : List ℕ) (e : ℕ) → IsDirectedPath (cut_out g both) q rest e → both e ≡ false
          → has (there e) ((g.vertices + g.vertices) + i) ≡ own g c x m p f other u i
      read_through i il path r l member q a rest e k free =
          carries g ok both (λ q. any_below g.vertices (λ r. (g.arrow r q && m r) && has (there r) i)) (λ q. has (there q) ((g.vertices + g.vertices) + i))
          (carried_third f there u there_solves i il) rank ranked (own g c x m p f other u i) only q rest e (ok.head_below r q a) k free
          (λ o. any_below_from g.vertices (λ r. (g.arrow r q && m r) && has (there r) i) r (ok.tail_below r q a)
          (and_from (g.arrow r q && m r) (has (there r) i) (and_from (g.arrow r q) (m r) a member)
          (ap (λ n. has n i) (mediator r (ok.tail_below r q a) member)
          ∙ read_first f other u other_solves i il path r l (m_x r member) ∙ o)))
        where
          only : (q : ℕ) → q < g.vertices → any_below g.vertices (λ r. (g.arrow r q && m r) && has (there r) i) ≡ true → own g c x m p f other u i ≡ true
          only q ql h =
              let r = any_below_gives g.vertices (λ r. (g.arrow r q && m r) && has (there r) i) h in
              let b = and_parts (g.arrow r.0 q && m r.0) (has (there r.0) i) r.2 in
              let member = (and_parts (g.arrow r.0 q) (m r.0) b.0).1 in
              begins_there g ok x (λ q. eqb q i && own g c x m p f other u q) (λ q. has (other q) i) (carried_first f other u other_solves i il)
              rank ranked (own g c x m p f other u i) (only_there g.vertices i (own g c x m p f other u)) r.0 r.1 (m_x r.0 member)
              (ap (λ n. has n i) (sym (mediator r.0 r.1 member)) ∙ b.1)
