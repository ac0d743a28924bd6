-- A world of the model whose arrows out of x carry two values, beside the nested world.
use Rattle.std.proofs.Common.{ℕ, zero, suc, ◌≡◌, ◌<◌, Bool, true, false, cond, eqb, not, refl, sym, ap, ◌∙◌, ◌||◌, ◌∷◌, arith}
use Rattle.std.proofs.lemmas.Bool.{and_from, cond-false, cond-true, false_from_ne_true, not_from_false, or_left, or_right}
use Rattle.mixed_graph.specs.Vocabulary.{MixedGraph, IsMixedGraph, IsAncestor, IsDescendant}
use Rattle.mixed_graph.proofs.Paths.{ancestor_member, ancestor_parent, end_below}
use Rattle.finite_models.specs.Vocabulary.{FiniteModel, IsAssignment, IsSolution, solution, intervene}
use Rattle.finite_models.proofs.Bools.{not_both, or_false}
use Rattle.finite_models.proofs.Following.{Follows, intervene_alike}
use Rattle.finite_models.proofs.Solutions.{IsRanked, solution_is, solution_within, unique}
use Rattle.finite_models.proofs.SumLaws.{eqb-refl}
use Rattle.do_rules.specs.Vocabulary.{cut_into, cut_out}
use Rattle.do_rules.proofs.Altered.{ranked_into, ranked_out, follows_into}
use Rattle.nested_models.specs.Nested.{nested, held_apart, TellsApart, LeadsPast, LeadsThrough}
use Rattle.nested_models.proofs.Apart.{carried, follows_apart}

module _ (g : MixedGraph) (ok : IsMixedGraph g) (w : FiniteModel) (rank : ℕ → ℕ) (ranked : IsRanked g rank) (follows : Follows g w) where
  -- under do(x) a vertex of x has its value, and any other computes its own
  pub done : (x : ℕ → Bool) (s : ℕ → ℕ) → IsAssignment w.vertices w.size s → (u : ℕ → ℕ) → IsSolution (intervene w x s) u (solution (intervene w x s) u)
  done x s within u = solution_is (cut_into g x) (intervene w x s) rank (ranked_into g x rank ranked) (follows_into g w x s within follows) u

  parent_low : (p v : ℕ) → g.arrow p v ≡ true → p < w.vertices
  parent_low p v a = rw follows.vertices (ranked.tail_below p v a)

  -- no parent of what leads to z is in x, where z has no descendant of x
  clear : (x z : ℕ → Bool) → ((v : ℕ) → z v ≡ true → IsDescendant g x v → ⊥) → (p v : ℕ) → g.arrow p v ≡ true → IsAncestor g z v → x p ≡ false
  clear x z none p v a l = false_from_ne_true (x p) (λ e. none l.end l.inside (record {
    vertex = end_below g ok.head_below v l.path l.end l.vertex l.leads;
    path = v ∷ l.path;
    start = p;
    leads = (a, l.leads);
    inside = e;
  }))

  -- what leads to it has its value under do(x) too
  pub unmoved : (x z : ℕ → Bool) → ((v : ℕ) → z v ≡ true → IsDescendant g x v → ⊥) → (s : ℕ → ℕ) → IsAssignment w.vertices w.size s → (u : ℕ → ℕ)
      → (n v : ℕ) → v < w.vertices → rank v < n → IsAncestor g z v → x v ≡ false → solution (intervene w x s) u v ≡ solution w u v
  unmoved x z none s within u zero v il lt l o = absurd (omega arith)
  unmoved x z none s within u (suc n) v il lt l o =
      done x s within u v il ∙ cond-false (x v) (s v) (w.mechanism v (solution (intervene w x s) u) u) o
      ∙ follows.reads v il (solution (intervene w x s) u) (solution w u) u u
      (λ p a. let r = ranked.rises p v a in unmoved x z none s within u n p (parent_low p v a) (omega arith)
      (ancestor_parent g z p v (ranked.tail_below p v a) a l) (clear x z none p v a l))
      (λ j jl q. refl)
      ∙ sym (solution_is g w rank ranked follows u v il)

  module _ (x m : ℕ → Bool) (m_x : (v : ℕ) → m v ≡ true → x v ≡ false) (s t : ℕ → ℕ) (hs : IsAssignment w.vertices w.size s)
      (ht : IsAssignment w.vertices w.size t) (u : ℕ → ℕ) (inside : IsAssignment w.causes w.values u) where
    -- the world that m is taken from
    abbrev pub other : ℕ → ℕ
    other = solution (intervene w x t) u

    -- what x and m are set to
    abbrev pub values : ℕ → ℕ
    values v = cond (m v) (other v) (s v)

    other_within : IsAssignment w.vertices w.size other
    other_within = solution_within (cut_into g x) (intervene w x t) (follows_into g w x t ht follows) u inside

    pub values_within : IsAssignment w.vertices w.size values
    values_within v il = go (m v)
      where
        go : (c : Bool) → cond c (other v) (s v) < w.size v
        go true = other_within v il
        go false = hs v il

    pub nest : IsSolution (intervene w (λ v. x v || m v) values) u (nested w x m s t u)
    nest = done (λ v. x v || m v) values values_within u

    pub set_x : (v : ℕ) → v < w.vertices → x v ≡ true → nested w x m s t u v ≡ s v
    set_x v il e =
        nest v il ∙ cond-true (x v || m v) (values v) (w.mechanism v (nested w x m s t u) u) (or_left (x v) (m v) e)
        ∙ cond-false (m v) (other v) (s v) (off (m v) refl)
      where
        off : (c : Bool) → m v ≡ c → m v ≡ false
        off true q = absurd (not_both (x v) e (m_x v q))
        off false q = q

    pub set_m : (v : ℕ) → v < w.vertices → m v ≡ true → nested w x m s t u v ≡ other v
    set_m v il e =
        nest v il ∙ cond-true (x v || m v) (values v) (w.mechanism v (nested w x m s t u) u) (or_right (x v) (m v) e)
        ∙ cond-true (m v) (other v) (s v) e

    -- where both values of x are one, the nested world is that under do(x)
    pub one_value : ((v : ℕ) → x v ≡ true → s v ≡ t v) → (v : ℕ) → v < w.vertices → nested w x m s t u v ≡ solution (intervene w x s) u v
    one_value same v il = unique (cut_into g (λ v. x v || m v)) (intervene w (λ v. x v || m v) values) rank (ranked_into g (λ v. x v || m v) rank ranked)
        (follows_into g w (λ v. x v || m v) values values_within follows) u (nested w x m s t u) (solution (intervene w x s) u) nest
        (λ v il. at v (x v) (m v) refl refl (done x s hs u v il)) v il
      where
        alike : (v : ℕ) → other v ≡ solution (intervene w x s) u v
        alike v = ap (λ n. solution n u v) (sym (intervene_alike w x s t same))

        at : (v : ℕ) (b c : Bool) → x v ≡ b → m v ≡ c
            → solution (intervene w x s) u v ≡ cond (x v) (s v) (w.mechanism v (solution (intervene w x s) u) u)
            → solution (intervene w x s) u v ≡ cond (x v || m v) (values v) (w.mechanism v (solution (intervene w x s) u) u)
        at v b true p q h =
            sym (alike v) ∙ sym (cond-true (m v) (other v) (s v) q)
            ∙ sym (cond-true (x v || m v) (values v) (w.mechanism v (solution (intervene w x s) u) u) (or_right (x v) (m v) q))
        at v true false p q h =
            h ∙ cond-true (x v) (s v) (w.mechanism v (solution (intervene w x s) u) u) p ∙ sym (cond-false (m v) (other v) (s v) q)
            ∙ sym (cond-true (x v || m v) (values v) (w.mechanism v (solution (intervene w x s) u) u) (or_left (x v) (m v) p))
        at v false false p q h =
            h ∙ cond-false (x v) (s v) (w.mechanism v (solution (intervene w x s) u) u) p
            ∙ sym (cond-false (x v || m v) (values v) (w.mechanism v (solution (intervene w x s) u) u) (or_false (x v) (m v) p ∙ q))

    module _ (y k : ℕ → Bool) (tells : TellsApart g x m y k) where
      -- the world with two values
      abbrev pub both : ℕ → ℕ
      both = solution (held_apart w x k s t) u

      apart : IsSolution (held_apart w x k s t) u both
      apart = solution_is (cut_out g x) (held_apart w x k s t) rank (ranked_out g x rank ranked) (follows_apart g w x k s t hs ht follows) u

      kept : (a : ℕ → Bool) (p v : ℕ) → g.arrow p v ≡ true → a p ≡ false → (cut_out g a).arrow p v ≡ true
      kept a p v e q = and_from (g.arrow p v) (not (a p)) e (not_from_false (a p) q)

      low_in : (p v : ℕ) → g.arrow p v ≡ true → p < g.vertices
      low_in p v a = ranked.tail_below p v a

      -- what leads to y through m reads the second value
      through : (n v : ℕ) → v < w.vertices → rank v < n → x v ≡ false → LeadsThrough g x m y v → both v ≡ other v
      through zero v il lt o l = absurd (omega arith)
      through (suc n) v il lt o l =
          apart v il
          ∙ follows.reads v il (λ p. carried g w x k s t hs ht v p (both p)) other u u
          (λ p a. let r = ranked.rises p v a in reads p a (through n p (parent_low p v a) (omega arith)) (x p) refl) (λ j jl q. refl)
          ∙ sym (done x t ht u v il ∙ cond-false (x v) (t v) (w.mechanism v other u) o)
        where
          reads : (p : ℕ) → g.arrow p v ≡ true → (x p ≡ false → LeadsThrough g x m y p → both p ≡ other p) → (c : Bool) → x p ≡ c
              → carried g w x k s t hs ht v p (both p) ≡ other p
          reads p a ih true q =
              cond-true (x p) (cond (k v) (t p) (s p)) (both p) q ∙ cond-true (k v) (t p) (s p) (tells.through p v a q l)
              ∙ sym (done x t ht u p (parent_low p v a) ∙ cond-true (x p) (t p) (w.mechanism p other u) q)
          reads p a ih false q =
              cond-false (x p) (cond (k v) (t p) (s p)) (both p) q
              ∙ ih q (record {
                mediator = l.mediator;
                member = l.member;
                leads = ancestor_parent (cut_out g x) (λ i. eqb i l.mediator) p v (low_in p v a) (kept x p v a q) l.leads;
                child = l.child;
                acts = l.acts;
                past = l.past;
              })

      -- and what leads there past it the first
      past : (n v : ℕ) → v < w.vertices → rank v < n → x v ≡ false → m v ≡ false → LeadsPast g x m y v → both v ≡ nested w x m s t u v
      past zero v il lt o i l = absurd (omega arith)
      past (suc n) v il lt o i l =
          apart v il
          ∙ follows.reads v il (λ p. carried g w x k s t hs ht v p (both p)) (nested w x m s t u) u u
          (λ p a. let r = ranked.rises p v a in reads p a (past n p (parent_low p v a) (omega arith)) (x p) (m p) refl refl) (λ j jl q. refl)
          ∙ sym (nest v il ∙ cond-false (x v || m v) (values v) (w.mechanism v (nested w x m s t u) u) (or_false (x v) (m v) o ∙ i))
        where
          reads : (p : ℕ) → g.arrow p v ≡ true → (x p ≡ false → m p ≡ false → LeadsPast g x m y p → both p ≡ nested w x m s t u p) → (b c : Bool)
              → x p ≡ b → m p ≡ c → carried g w x k s t hs ht v p (both p) ≡ nested w x m s t u p
          reads p a ih true c q e =
              cond-true (x p) (cond (k v) (t p) (s p)) (both p) q ∙ cond-false (k v) (t p) (s p) (tells.past p v a q l)
              ∙ sym (set_x p (parent_low p v a) q)
          reads p a ih false true q e =
              cond-false (x p) (cond (k v) (t p) (s p)) (both p) q
              ∙ through (suc (rank p)) p (parent_low p v a) (omega arith) q (record {
                mediator = p;
                member = e;
                leads = ancestor_member (cut_out g x) (λ i. eqb i p) p (low_in p v a) (eqb-refl p);
                child = v;
                acts = a;
                past = l;
              })
              ∙ sym (set_m p (parent_low p v a) e)
          reads p a ih false false q e =
              cond-false (x p) (cond (k v) (t p) (s p)) (both p) q
              ∙ ih q e (ancestor_parent (cut_out g (λ i. x i || m i)) y p v (low_in p v a) (kept (λ i. x i || m i) p v a (or_false (x p) (m p) q ∙ e)) l)

      pub outcome : (v : ℕ) → v < w.vertices → y v ≡ true → x v ≡ false → m v ≡ false → both v ≡ nested w x m s t u v
      outcome v il e o i = past (suc (rank v)) v il (omega arith) o i
          (ancestor_member (cut_out g (λ p. x p || m p)) y v (let h : v < g.vertices = rw (sym follows.vertices) il in h) e)

      -- what leads to z has its value
      pub given : (z : ℕ → Bool) → ((v : ℕ) → z v ≡ true → IsDescendant g x v → ⊥) → (n v : ℕ) → v < w.vertices → rank v < n → IsAncestor g z v
          → both v ≡ solution w u v
      given z none zero v il lt l = absurd (omega arith)
      given z none (suc n) v il lt l =
          apart v il
          ∙ follows.reads v il (λ p. carried g w x k s t hs ht v p (both p)) (solution w u) u u
          (λ p a. let r = ranked.rises p v a in cond-false (x p) (cond (k v) (t p) (s p)) (both p) (clear x z none p v a l)
          ∙ given z none n p (parent_low p v a) (omega arith) (ancestor_parent g z p v (low_in p v a) a l))
          (λ j jl q. refl)
          ∙ sym (solution_is g w rank ranked follows u v il)
