-- The separations that the identification procedure needs.
use Rattle.std.proofs.Common.{ℕ, ◌≡◌, Bool, true, false, eqb, not, refl, ◌||◌, ◌&&◌, ◌⊎◌, inl, inr, arith, eqb-true, eq-eqb}
use Rattle.identification_theory.proofs.Bools.{and_l, and_r, both_true, or_l, or_r, or_e, not_e, clash, decide}
use Rattle.identification_theory.proofs.Front.{separated_by, closed_above, front}
use Rattle.m_separation.specs.declared.marks.Mark.TheVariants.{Both, Into, Out}
use Rattle.m_separation.specs.declared.marks.Mark.{Mark}
use Rattle.m_separation.specs.Vocabulary.{IsJoined, IsPassed, IsSeparated, heads_first, heads_second}
use Rattle.mixed_graph.specs.Vocabulary.{IsAncestor, MixedGraph}
use Rattle.do_rules.specs.Vocabulary.{cut_into, cut_out}

-- A place v in a factor: in U, A holds its members' parents; T is a district of A (it is linked to no other member of A); v is in T.
pub record IsPlace (g : MixedGraph) (Prior U A T : ℕ → Bool) (v : ℕ) : Type 0 where
  pub a_in : (u : ℕ) → A u ≡ true → U u ≡ true
  pub a_closed : (p u : ℕ) → g.arrow p u ≡ true → U p ≡ true → A u ≡ true → A p ≡ true
  pub t_in : (u : ℕ) → T u ≡ true → A u ≡ true
  pub t_closed : (u w : ℕ) → g.both u w ≡ true → T u ≡ true → A w ≡ true → T w ≡ true
  pub v_in : T v ≡ true
  -- in U, the vertices before v hold their parents and those of v; and not v
  pub prior_closed : (p u : ℕ) → g.arrow p u ≡ true → U p ≡ true → U u ≡ true → Prior u ≡ true → Prior p ≡ true
  pub prior_v : (p : ℕ) → g.arrow p v ≡ true → U p ≡ true → Prior p ≡ true
  pub not_self : Prior v ≡ true → ⊥

module _ (g : MixedGraph) (Prior U A T : ℕ → Bool) (v : ℕ) (k : IsPlace g Prior U A T v) where
  -- up to v
  Upto : ℕ → Type 0
  Upto u = (Prior u ≡ true) ⊎ (u ≡ v)

  earlier : (p u : ℕ) → g.arrow p u ≡ true → U p ≡ true → U u ≡ true → Upto u → Prior p ≡ true
  unfolding Upto
  earlier p u a ip iu (inl b) = k.prior_closed p u a ip iu b
  earlier p u a ip iu (inr e) = k.prior_v p (rw e at a) ip

  no_child : (u : ℕ) → g.arrow v u ≡ true → A u ≡ true → Upto u → ⊥
  no_child u a i c = k.not_self (earlier v u a (k.a_in v (k.t_in v k.v_in)) (k.a_in u i) c)

  at_v : (u : ℕ) → Upto u → (Prior u ≡ true → ⊥) → u ≡ v
  unfolding Upto
  at_v u (inl b) n = absurd (n b)
  at_v u (inr e) n = e

  upto_or_not : (u : ℕ) → Upto u ⊎ (Upto u → ⊥)
  unfolding Upto
  upto_or_not u = go (decide (Prior u)) (decide (eqb u v))
    where
      go : (Prior u ≡ true) ⊎ (Prior u ≡ false) → (eqb u v ≡ true) ⊎ (eqb u v ≡ false) → ((Prior u ≡ true) ⊎ (u ≡ v)) ⊎ ((Prior u ≡ true) ⊎ (u ≡ v) → ⊥)
      go (inl b) e = inl (inl b)
      go (inr b) (inl e) = inl (inr (eqb-true u v e))
      go (inr b) (inr e) = inr none
        where
          none : (Prior u ≡ true) ⊎ (u ≡ v) → ⊥
          none (inl c) = clash (Prior u) c b
          none (inr s) = absurd (grind (arith, s, e))

  -- ---- the vertices outside T that come after v, or lie outside A: no action on them changes v, all others held
  module _ (X O W Z Y E : ℕ → Bool)
      (x_rest : (p u : ℕ) → g.arrow p u ≡ true → U p ≡ false → X p ≡ true)
      (x_before : (u : ℕ) → A u ≡ true → T u ≡ false → Prior u ≡ true → X u ≡ true)
      (w_is : (u : ℕ) → T u ≡ true → Prior u ≡ true → W u ≡ true)
      (w_in : (u : ℕ) → W u ≡ true → (T u ≡ true) × (Prior u ≡ true))
      (o_out : (u : ℕ) → O u ≡ true → (T u ≡ false) × (X u ≡ false)) where
    D1 : ℕ → Type 0
    D1 u = (T u ≡ true) × Upto u

    P1 : ℕ → Type 0
    P1 u = (X u ≡ true) ⊎ D1 u

    parent1 : (p u : ℕ) → g.arrow p u ≡ true → D1 u → (X p ≡ true) ⊎ ((T p ≡ true) × (Prior p ≡ true))
    unfolding D1
    parent1 p u a d = by_u (decide (U p))
      where
        by_t : A p ≡ true → (T p ≡ true) ⊎ (T p ≡ false) → (X p ≡ true) ⊎ ((T p ≡ true) × (Prior p ≡ true))
        by_t i (inl t) = inr (t, earlier p u a (k.a_in p i) (k.a_in u (k.t_in u d.0)) d.1)
        by_t i (inr t) = inl (x_before p i t (earlier p u a (k.a_in p i) (k.a_in u (k.t_in u d.0)) d.1))

        by_u : (U p ≡ true) ⊎ (U p ≡ false) → (X p ≡ true) ⊎ ((T p ≡ true) × (Prior p ≡ true))
        by_u (inl i) = by_t (k.a_closed p u a i (k.t_in u d.0)) (decide (T p))
        by_u (inr o) = inl (x_rest p u a o)

    closed1 : (p u : ℕ) → (g.arrow p u && not (X u)) ≡ true → P1 u → P1 p
    unfolding P1 D1 Upto
    closed1 p u a (inl x) = absurd (clash (X u) x (not_e (X u) (and_r (g.arrow p u) (not (X u)) a)))
    closed1 p u a (inr d) = go (parent1 p u (and_l (g.arrow p u) (not (X u)) a) d)
      where
        go : (X p ≡ true) ⊎ ((T p ≡ true) × (Prior p ≡ true)) → (X p ≡ true) ⊎ ((T p ≡ true) × ((Prior p ≡ true) ⊎ (p ≡ v)))
        go (inl x) = inl x
        go (inr t) = inr (t.0, inl t.1)

    given1 : (u : ℕ) → W u ≡ true → P1 u
    unfolding P1 D1 Upto
    given1 u e = let r = w_in u e in inr (r.0, inl r.1)

    -- none of them is an ancestor of W, so the rule takes away all arrowheads at them
    pub later_not_above : (u : ℕ) → O u ≡ true → IsAncestor (cut_into g X) W u → ⊥
    unfolding P1 D1
    later_not_above u o a = go (closed_above (cut_into g X) P1 W closed1 given1 u a)
      where
        go : (X u ≡ true) ⊎ D1 u → ⊥
        go (inl x) = clash (X u) x (o_out u o).1
        go (inr d) = clash (T u) d.0 (o_out u o).0

    pub later_removed : ((u : ℕ) → O u ≡ true → Z u ≡ true) → ((u : ℕ) → Y u ≡ true → u ≡ v) → ((u : ℕ) → E u ≡ true → (X u || W u) ≡ true)
        → ((u : ℕ) → (X u || W u) ≡ true → E u ≡ true)
        → IsSeparated (cut_into (cut_into g X) Z) Y O E
    unfolding P1 D1 Upto
    later_removed z_all y_v e_in e_is = front h v P1 D1 Y O E (record {
      closed = λ p u a q. closed1 p u (arrow p u a) q;
      childless = λ u a q. childless u a q;
      start = (k.v_in, inr refl);
      linked = linked;
      parents = λ p u a d. parents p u (parent1 p u (edge p u a) d);
      others = λ u d e. at_v u d.1 (λ b. clash (E u) (e_is u (or_r (X u) (W u) (w_is u d.0 b))) e);
      given = λ u e. given u (or_e (X u) (W u) (e_in u e));
      off = λ e. clash (T v) k.v_in (o_out v e).0;
      no_arrow = λ p u a n o. clash (Z u) (z_all u o) (not_e (Z u) (and_r (g.arrow p u && not (X u)) (not (Z u)) a));
      no_both = λ p u b n o. clash (Z u) (z_all u o) (not_e (Z u) (and_r (not (Z p)) (not (Z u))
          (and_r (g.both p u && (not (X p) && not (X u))) (not (Z p) && not (Z u)) b)));
    }) y_v
      where
        h : MixedGraph
        h = cut_into (cut_into g X) Z

        arrow : (p u : ℕ) → ((g.arrow p u && not (X u)) && not (Z u)) ≡ true → (g.arrow p u && not (X u)) ≡ true
        arrow p u a = and_l (g.arrow p u && not (X u)) (not (Z u)) a

        edge : (p u : ℕ) → ((g.arrow p u && not (X u)) && not (Z u)) ≡ true → g.arrow p u ≡ true
        edge p u a = and_l (g.arrow p u) (not (X u)) (arrow p u a)

        childless : (u : ℕ) → ((g.arrow v u && not (X u)) && not (Z u)) ≡ true → (X u ≡ true) ⊎ ((T u ≡ true) × Upto u) → ⊥
        childless u a (inl x) = clash (X u) x (not_e (X u) (and_r (g.arrow v u) (not (X u)) (arrow v u a)))
        childless u a (inr d) = no_child u (edge v u a) (k.t_in u d.0) d.1

        linked : (u w : ℕ) → h.both u w ≡ true → (T u ≡ true) × Upto u → ((T w ≡ true) × Upto w) ⊎ (P1 w → ⊥)
        linked u w b d = go (decide (T w)) (upto_or_not w)
          where
            not_x : X w ≡ true → ⊥
            not_x x = clash (X w) x (not_e (X w) (and_r (not (X u)) (not (X w))
                (and_r (g.both u w) (not (X u) && not (X w)) (and_l (g.both u w && (not (X u) && not (X w))) (not (Z u) && not (Z w)) b))))

            out : ((T w ≡ true) × Upto w → ⊥) → (X w ≡ true) ⊎ ((T w ≡ true) × Upto w) → ⊥
            out n (inl x) = not_x x
            out n (inr q) = n q

            go : (T w ≡ true) ⊎ (T w ≡ false) → Upto w ⊎ (Upto w → ⊥) → ((T w ≡ true) × Upto w) ⊎ ((X w ≡ true) ⊎ ((T w ≡ true) × Upto w) → ⊥)
            go (inl t) (inl q) = inl (t, q)
            go (inl t) (inr n) = inr (out (λ q. n q.1))
            go (inr t) q = inr (out (λ r. clash (T w) r.0 t))

        parents : (p u : ℕ) → (X p ≡ true) ⊎ ((T p ≡ true) × (Prior p ≡ true)) → E p ≡ true
        parents p u (inl x) = e_is p (or_l (X p) (W p) x)
        parents p u (inr t) = e_is p (or_r (X p) (W p) (w_is p t.0 t.1))

        given : (u : ℕ) → (X u ≡ true) ⊎ (W u ≡ true) → P1 u
        given u (inl x) = inl x
        given u (inr e) = given1 u e

  -- ---- the vertices of A before v outside D: D is linked to nothing else of A up to v, and what is given holds D's other members and its parents
  module _ (h : MixedGraph) (X Y O E : ℕ → Bool) (D : ℕ → Type 0)
      (arrow_is : (p u : ℕ) → h.arrow p u ≡ true → (g.arrow p u ≡ true) × (X u ≡ false))
      (both_is : (u w : ℕ) → h.both u w ≡ true → (g.both u w ≡ true) × (X w ≡ false))
      (x_rest : (p u : ℕ) → g.arrow p u ≡ true → U p ≡ false → X p ≡ true)
      (d_in : (u : ℕ) → D u → (A u ≡ true) × ((Prior u ≡ true) ⊎ (u ≡ v)))
      (d_v : D v)
      (d_closed : (u w : ℕ) → g.both u w ≡ true → D u → A w ≡ true → (Prior w ≡ true) ⊎ (w ≡ v) → D w)
      (e_in : (u : ℕ) → E u ≡ true → (X u ≡ true) ⊎ ((A u ≡ true) × (Prior u ≡ true)))
      (e_d : (u : ℕ) → D u → Prior u ≡ true → E u ≡ true)
      (e_parent : (p u : ℕ) → h.arrow p u ≡ true → D u → E p ≡ true)
      (o_in : (u : ℕ) → O u ≡ true → (A u ≡ true) × (Prior u ≡ true))
      (y_v : (u : ℕ) → Y u ≡ true → u ≡ v) where
    P2 : ℕ → Type 0
    P2 u = (X u ≡ true) ⊎ ((A u ≡ true) × Upto u)

    closed2 : (p u : ℕ) → h.arrow p u ≡ true → P2 u → P2 p
    unfolding P2 Upto
    closed2 p u a (inl x) = absurd (clash (X u) x (arrow_is p u a).1)
    closed2 p u a (inr d) = go (decide (U p))
      where
        go : (U p ≡ true) ⊎ (U p ≡ false) → (X p ≡ true) ⊎ ((A p ≡ true) × ((Prior p ≡ true) ⊎ (p ≡ v)))
        go (inl i) = inr (k.a_closed p u (arrow_is p u a).0 i d.0, inl (earlier p u (arrow_is p u a).0 i (k.a_in u d.0) d.1))
        go (inr o) = inl (x_rest p u (arrow_is p u a).0 o)

    linked2 : (u w : ℕ) → h.both u w ≡ true → D u → (D w) ⊎ (P2 w → ⊥)
    unfolding P2 Upto
    linked2 u w b d = go (decide (A w)) (upto_or_not w)
      where
        out : ((A w ≡ true) × Upto w → ⊥) → (X w ≡ true) ⊎ ((A w ≡ true) × Upto w) → ⊥
        out n (inl x) = clash (X w) x (both_is u w b).1
        out n (inr q) = n q

        go : (A w ≡ true) ⊎ (A w ≡ false) → Upto w ⊎ (Upto w → ⊥) → (D w) ⊎ ((X w ≡ true) ⊎ ((A w ≡ true) × Upto w) → ⊥)
        go (inl t) (inl q) = inl (d_closed u w (both_is u w b).0 d t q)
        go (inl t) (inr n) = inr (out (λ q. n q.1))
        go (inr t) q = inr (out (λ r. clash (A w) r.0 t))

    childless2 : (u : ℕ) → h.arrow v u ≡ true → P2 u → ⊥
    unfolding P2 Upto
    childless2 u a (inl x) = clash (X u) x (arrow_is v u a).1
    childless2 u a (inr d) = no_child u (arrow_is v u a).0 d.0 d.1

    given2 : (u : ℕ) → (X u ≡ true) ⊎ ((A u ≡ true) × (Prior u ≡ true)) → P2 u
    unfolding P2 Upto
    given2 u (inl x) = inl x
    given2 u (inr r) = inr (r.0, inl r.1)

    in_p : (u : ℕ) → O u ≡ true → P2 u
    unfolding P2 Upto
    in_p u o = inr ((o_in u o).0, inl (o_in u o).1)

    pub earlier_apart : IsSeparated h Y O E
    unfolding Upto
    earlier_apart = front h v P2 D Y O E (record {
      closed = closed2;
      childless = childless2;
      start = d_v;
      linked = linked2;
      parents = e_parent;
      others = λ u d e. at_v u (d_in u d).1 (λ b. clash (E u) (e_d u d b) e);
      given = λ u e. given2 u (e_in u e);
      off = λ o. k.not_self (o_in v o).1;
      no_arrow = λ p u a n o. n (in_p u o);
      no_both = λ p u b n o. n (in_p u o);
    }) y_v

  -- rule 2: observed or set, the members of A before v outside T
  module _ (X B W Y E : ℕ → Bool)
      (x_rest : (p u : ℕ) → g.arrow p u ≡ true → U p ≡ false → X p ≡ true)
      (b_all : (u : ℕ) → A u ≡ true → T u ≡ false → Prior u ≡ true → B u ≡ true)
      (b_in : (u : ℕ) → B u ≡ true → (A u ≡ true) × (Prior u ≡ true))
      (w_is : (u : ℕ) → T u ≡ true → Prior u ≡ true → W u ≡ true)
      (w_in : (u : ℕ) → W u ≡ true → (T u ≡ true) × (Prior u ≡ true))
      (e_is : (u : ℕ) → E u ≡ (X u || W u))
      (y_v : (u : ℕ) → Y u ≡ true → u ≡ v) where
    pub earlier_exchanged : IsSeparated (cut_out (cut_into g X) B) Y B E
    unfolding Upto
    earlier_exchanged = earlier_apart (cut_out (cut_into g X) B) X Y B E (λ u. (T u && (Prior u || eqb u v)) ≡ true)
        (λ p u a. let q = and_l (g.arrow p u && not (X u)) (not (B p)) a in
        (and_l (g.arrow p u) (not (X u)) q, not_e (X u) (and_r (g.arrow p u) (not (X u)) q)))
        (λ u w b. (and_l (g.both u w) (not (X u) && not (X w)) b, not_e (X w) (and_r (not (X u)) (not (X w)) (and_r (g.both u w) (not (X u) && not (X w)) b))))
        x_rest
        d_in
        (both_true (T v) (Prior v || eqb v v) k.v_in (or_r (Prior v) (eqb v v) (eq-eqb v v refl)))
        (λ u w b d a q. both_true (T w) (Prior w || eqb w v) (k.t_closed u w b (and_l (T u) (Prior u || eqb u v) d) a) (upto_test w q))
        (λ u e. given u (or_e (X u) (W u) (rw (e_is u) at e)))
        (λ u d b. rw (e_is u) (or_r (X u) (W u) (w_is u (and_l (T u) (Prior u || eqb u v) d) b)))
        parent
        b_in
        y_v
      where
        upto_test : (w : ℕ) → (Prior w ≡ true) ⊎ (w ≡ v) → (Prior w || eqb w v) ≡ true
        upto_test w (inl b) = or_l (Prior w) (eqb w v) b
        upto_test w (inr e) = or_r (Prior w) (eqb w v) (eq-eqb w v e)

        upto_of : (u : ℕ) → (Prior u ≡ true) ⊎ (eqb u v ≡ true) → (Prior u ≡ true) ⊎ (u ≡ v)
        upto_of u (inl b) = inl b
        upto_of u (inr e) = inr (eqb-true u v e)

        d_in : (u : ℕ) → (T u && (Prior u || eqb u v)) ≡ true → (A u ≡ true) × ((Prior u ≡ true) ⊎ (u ≡ v))
        d_in u d = (k.t_in u (and_l (T u) (Prior u || eqb u v) d), upto_of u (or_e (Prior u) (eqb u v) (and_r (T u) (Prior u || eqb u v) d)))

        given : (u : ℕ) → (X u ≡ true) ⊎ (W u ≡ true) → (X u ≡ true) ⊎ ((A u ≡ true) × (Prior u ≡ true))
        given u (inl x) = inl x
        given u (inr w) = inr (k.t_in u (w_in u w).0, (w_in u w).1)

        parent : (p u : ℕ) → ((g.arrow p u && not (X u)) && not (B p)) ≡ true → (T u && (Prior u || eqb u v)) ≡ true → E p ≡ true
        parent p u a d = by_u (decide (U p))
          where
            a0 : g.arrow p u ≡ true
            a0 = and_l (g.arrow p u) (not (X u)) (and_l (g.arrow p u && not (X u)) (not (B p)) a)

            before : U p ≡ true → Prior p ≡ true
            before i = earlier p u a0 i (k.a_in u (d_in u d).0) (d_in u d).1

            by_t : Prior p ≡ true → A p ≡ true → (T p ≡ true) ⊎ (T p ≡ false) → E p ≡ true
            by_t b i (inl t) = rw (e_is p) (or_r (X p) (W p) (w_is p t b))
            by_t b i (inr t) = absurd (clash (B p) (b_all p i t b) (not_e (B p) (and_r (g.arrow p u && not (X u)) (not (B p)) a)))

            by_u : (U p ≡ true) ⊎ (U p ≡ false) → E p ≡ true
            by_u (inl i) = by_t (before i) (k.a_closed p u a0 i (d_in u d).0) (decide (T p))
            by_u (inr o) = rw (e_is p) (or_l (X p) (W p) (x_rest p u a0 o))

  -- rule 1: nothing more of A before v matters once D's other members and their parents are observed
  module _ (X M Z Y E : ℕ → Bool) (D : ℕ → Type 0)
      (x_rest : (p u : ℕ) → g.arrow p u ≡ true → U p ≡ false → X p ≡ true)
      (d_in : (u : ℕ) → D u → (A u ≡ true) × ((Prior u ≡ true) ⊎ (u ≡ v)))
      (d_v : D v)
      (d_closed : (u w : ℕ) → g.both u w ≡ true → D u → A w ≡ true → (Prior w ≡ true) ⊎ (w ≡ v) → D w)
      (m_in : (u : ℕ) → M u ≡ true → (A u ≡ true) × (Prior u ≡ true))
      (m_d : (u : ℕ) → D u → Prior u ≡ true → M u ≡ true)
      (m_parent : (p u : ℕ) → g.arrow p u ≡ true → D u → A p ≡ true → Prior p ≡ true → M p ≡ true)
      (z_in : (u : ℕ) → Z u ≡ true → (A u ≡ true) × (Prior u ≡ true))
      (e_is : (u : ℕ) → E u ≡ (X u || M u))
      (y_v : (u : ℕ) → Y u ≡ true → u ≡ v) where
    pub rest_apart : IsSeparated (cut_into g X) Y Z E
    unfolding Upto
    rest_apart = earlier_apart (cut_into g X) X Y Z E D
        (λ p u a. (and_l (g.arrow p u) (not (X u)) a, not_e (X u) (and_r (g.arrow p u) (not (X u)) a)))
        (λ u w b. (and_l (g.both u w) (not (X u) && not (X w)) b, not_e (X w) (and_r (not (X u)) (not (X w)) (and_r (g.both u w) (not (X u) && not (X w)) b))))
        x_rest d_in d_v d_closed
        (λ u e. given u (or_e (X u) (M u) (rw (e_is u) at e)))
        (λ u d b. rw (e_is u) (or_r (X u) (M u) (m_d u d b)))
        (λ p u a d. parent p u (and_l (g.arrow p u) (not (X u)) a) d)
        z_in y_v
      where
        given : (u : ℕ) → (X u ≡ true) ⊎ (M u ≡ true) → (X u ≡ true) ⊎ ((A u ≡ true) × (Prior u ≡ true))
        given u (inl x) = inl x
        given u (inr w) = inr (m_in u w)

        parent : (p u : ℕ) → g.arrow p u ≡ true → D u → E p ≡ true
        parent p u a d = by_u (decide (U p))
          where
            by_u : (U p ≡ true) ⊎ (U p ≡ false) → E p ≡ true
            by_u (inl i) = rw (e_is p) (or_r (X p) (M p) (m_parent p u a d (k.a_closed p u a i (d_in u d).0)
                (earlier p u a i (k.a_in u (d_in u d).0) (d_in u d).1)))
            by_u (inr o) = rw (e_is p) (or_l (X p) (M p) (x_rest p u a o))

-- ---- rule 3 with nothing observed: actions on z do not change y where K holds y and the parents of its members outside x, and z is apart from K
module _ (g : MixedGraph) (X Z Y E : ℕ → Bool) (K : ℕ → Type 0)
    (y_in : (u : ℕ) → Y u ≡ true → K u)
    (k_closed : (p u : ℕ) → g.arrow p u ≡ true → X p ≡ false → K u → K p)
    (z_out : (u : ℕ) → Z u ≡ true → K u → ⊥)
    (e_is : (u : ℕ) → E u ≡ X u) where
  Route : Bool → ℕ → Type 0
  Route true u = (Z u ≡ true → ⊥) × (E u ≡ false)
  Route false u = (E u ≡ true) ⊎ K u

  no_x : (u : ℕ) → IsAncestor (cut_into (cut_into g X) Z) E u → E u ≡ true
  no_x u a = closed_above (cut_into (cut_into g X) Z) (λ w. E w ≡ true) E
      (λ p w b e. absurd (clash (X w) (rw (e_is w) at e) (not_e (X w) (and_r (g.arrow p w) (not (X w)) (and_l (g.arrow p w && not (X w)) (not (Z w)) b)))))
      (λ w e. e) u a

  headed : (p u : ℕ) → X u ≡ false → Z u ≡ false → Route true u
  unfolding Route
  headed p u x z = (λ e. clash (Z u) e z, rw (e_is u) x)

  along : (u : ℕ) (m : Mark) (w : ℕ) → (heads_first m ≡ true → (E u ≡ true) ⊎ K u) → IsJoined (cut_into (cut_into g X) Z) u m w → Route (heads_second m) w
  unfolding Route
  along u Out w r j = headed u w (not_e (X w) (and_r (g.arrow u w) (not (X w)) (and_l (g.arrow u w && not (X w)) (not (Z w)) j)))
      (not_e (Z w) (and_r (g.arrow u w && not (X w)) (not (Z w)) j))
  along u Into w r j = go (decide (X w)) (r refl)
    where
      q : (g.arrow w u && not (X u)) ≡ true
      q = and_l (g.arrow w u && not (X u)) (not (Z u)) j

      go : (X w ≡ true) ⊎ (X w ≡ false) → (E u ≡ true) ⊎ K u → (E w ≡ true) ⊎ K w
      go (inl x) i = inl (rw (e_is w) x)
      go (inr x) (inl i) = absurd (clash (X u) (rw (e_is u) at i) (not_e (X u) (and_r (g.arrow w u) (not (X u)) q)))
      go (inr x) (inr i) = inr (k_closed w u (and_l (g.arrow w u) (not (X u)) q) x i)
  along u Both w r j = let q = and_l (g.both u w && (not (X u) && not (X w))) (not (Z u) && not (Z w)) j in
      headed u w (not_e (X w) (and_r (not (X u)) (not (X w)) (and_r (g.both u w) (not (X u) && not (X w)) q)))
      (not_e (Z w) (and_r (not (Z u)) (not (Z w)) (and_r (g.both u w && (not (X u) && not (X w))) (not (Z u) && not (Z w)) j)))

  next3 : (h : Bool) (u : ℕ) (m : Mark) (w : ℕ) → Route h u → IsPassed (cut_into (cut_into g X) Z) E u h (heads_first m)
      → IsJoined (cut_into (cut_into g X) Z) u m w → Route (heads_second m) w
  unfolding Route
  next3 true u Out w i p j = along u Out w (λ e. absurd (grind (arith, e))) j
  next3 true u Into w i p j = absurd (clash (E u) (no_x u p) i.1)
  next3 true u Both w i p j = absurd (clash (E u) (no_x u p) i.1)
  next3 false u m w i p j = along u m w (λ e. i) j

  final3 : (h : Bool) (u : ℕ) → Route h u → Z u ≡ true → E u ≡ false → ⊥
  unfolding Route
  final3 true u i z o = i.0 z
  final3 false u (inl e) z o = clash (E u) e o
  final3 false u (inr q) z o = z_out u z q

  pub actions_apart : IsSeparated (cut_into (cut_into g X) Z) Y Z E
  unfolding Route
  actions_apart = separated_by (cut_into (cut_into g X) Z) Y Z E Route (record {
    first = λ v m u y j. along v m u (λ e. inr (y_in v y)) j;
    next = next3;
    final = final3;
    apart = λ u y z. z_out u z (y_in u y);
  })
