-- Links, and the side of a vertex when one more is given no more.
use Rattle.std.proofs.Common.{ℕ, ◌≡◌, Bool, true, false, not, ◌&&◌, ◌||◌, ◌==◌, ◌↔◌, ◌⊎◌, ◌^◌, ◌<◌, inl, inr, refl, sym}
use Rattle.std.proofs.Common.{subst, ◌∙◌, arith, eqb-true, eq-eqb, IsTrue}
use Rattle.std.specs.Bool.{OnTrue, OnFalse}
use Rattle.std.proofs.lemmas.Bool.{cases_Bool, or_cases, or_left, or_right, and_parts, and_from, both_ways}
use Rattle.mixed_graph.specs.Vocabulary.{has, MixedGraph, IsMixedGraph}
use Rattle.mixed_graph.proofs.Masks.{has-zero, some_member}
use Rattle.mixed_graph.specs.Reached.{Reached}
use Rattle.implications.specs.Separable.{only}
use Rattle.implications.specs.Links.{is_link, IsSide, IsNextTo}
use Rattle.implications.proofs.Thinning.{rest_of, rest_itself}

pub reached_inside : (step : ℕ → ℕ → Bool) (from s : ℕ → Bool) (v : ℕ) → Reached step from s v → s v ≡ true
reached_inside step from s v (Reached.start e i) = i
reached_inside step from s v (Reached.next r l i) = i

turned : (b c p q m n : Bool) → (b ≡ true → c ≡ true) → (b || ((p && m) || (q && n))) ≡ true → (c || ((q && n) || (p && m))) ≡ true
turned b true p q m n s h = refl
turned true false p q m n s h = absurd (both_ways false refl (s refl))
turned false false true true true n s h = or_right n true refl
turned false false true true false n s h = or_left n false h
turned false false true false m n s h = grind (arith, h)
turned false false false true m n s h = or_left n false h
turned false false false false m n s h = absurd (both_ways false refl h)

more : (b p q i j k l : Bool) → (i ≡ false → k ≡ false) → (j ≡ false → l ≡ false) → (b || ((p && not i) || (q && not j))) ≡ true
    → (b || ((p && not k) || (q && not l))) ≡ true
more true p q i j k l e f h = refl
more false p q i j k l e f h = grind (arith, e, f, h)

new : (b p q i j e f : Bool) → (b || ((p && not (i && not e)) || (q && not (j && not f)))) ≡ true
    → ((b || ((p && not i) || (q && not j))) ≡ true) ⊎ (((e ≡ true) × (p ≡ true)) ⊎ ((f ≡ true) × (q ≡ true)))
new true p q i j e f h = inl refl
new false true q i j true f h = inr (inl (refl, refl))
new false true q false j false f h = inl refl
new false true true true j false true h = inr (inr (refl, refl))
new false true true true false false false h = inl refl
new false true true true true false false h = absurd (both_ways false refl h)
new false true false true j false f h = absurd (both_ways false refl h)
new false false true i j e true h = inr (inr (refl, refl))
new false false true i false e false h = inl refl
new false false true i true e false h = absurd (both_ways false refl h)
new false false false i j e f h = absurd (both_ways false refl h)

pub rest_false : (w : ℕ → Bool) (v u : ℕ) → w u ≡ false → rest_of w v u ≡ false
rest_false w v u e = go (w u) e
  where
    go : (t : Bool) → t ≡ false → (t && not (u == v)) ≡ false
    go true e = absurd (both_ways true e refl)
    go false e = refl

-- the vertices one link away, by rows of edges
module _ (g : MixedGraph) (w from tails spouses above parents children result : ℕ → Bool) (u : ℕ)
    (spouses_are : IsTrue (spouses u) ↔ ((v : ℕ) × IsTrue (from v) × IsTrue (g.both v u)))
    (above_are : IsTrue (above u) ↔ ((v : ℕ) × IsTrue (from v) × IsTrue (g.arrow u v)))
    (children_are : IsTrue (children u) ↔ ((v : ℕ) × IsTrue (tails v) × IsTrue (g.arrow v u)))
    (parents_are : parents u ≡ (above u && not (w u))) (tails_are : (v : ℕ) → tails v ≡ (from v && not (w v)))
    (result_is : result u ≡ ((spouses u || parents u) || children u)) where
  linked_from : result u ≡ true → (v : ℕ) × IsTrue (from v) × IsTrue (is_link g w v u)
  linked_from e = go (or_cases (spouses u || parents u) (children u) (sym result_is ∙ e))
    where
      out : (v : ℕ) → g.arrow v u ≡ true → not (w v) ≡ true → is_link g w v u ≡ true
      out v h o = or_right (g.both v u) ((g.arrow v u && not (w v)) || (g.arrow u v && not (w u)))
          (or_left (g.arrow v u && not (w v)) (g.arrow u v && not (w u)) (and_from (g.arrow v u) (not (w v)) h o))

      into : (v : ℕ) → g.arrow u v ≡ true → not (w u) ≡ true → is_link g w v u ≡ true
      into v h o = or_right (g.both v u) ((g.arrow v u && not (w v)) || (g.arrow u v && not (w u)))
          (or_right (g.arrow v u && not (w v)) (g.arrow u v && not (w u)) (and_from (g.arrow u v) (not (w u)) h o))

      first : (spouses u ≡ true) ⊎ (parents u ≡ true) → (v : ℕ) × IsTrue (from v) × IsTrue (is_link g w v u)
      first (inl h) = let k = spouses_are.0 h in (k.0, k.1, or_left (g.both k.0 u) ((g.arrow k.0 u && not (w k.0)) || (g.arrow u k.0 && not (w u))) k.2)
      first (inr h) = let p = and_parts (above u) (not (w u)) (sym parents_are ∙ h) in let k = above_are.0 p.0 in (k.0, k.1, into k.0 k.2 p.1)

      go : ((spouses u || parents u) ≡ true) ⊎ (children u ≡ true) → (v : ℕ) × IsTrue (from v) × IsTrue (is_link g w v u)
      go (inl h) = first (or_cases (spouses u) (parents u) h)
      go (inr h) = let k = children_are.0 h in let p = and_parts (from k.0) (not (w k.0)) (sym (tails_are k.0) ∙ k.1) in (k.0, p.0, out k.0 k.2 p.1)

  linked_to : (v : ℕ) → from v ≡ true → is_link g w v u ≡ true → result u ≡ true
  linked_to v i l = go (or_cases (g.both v u) ((g.arrow v u && not (w v)) || (g.arrow u v && not (w u))) l)
    where
      edge : ((g.arrow v u && not (w v)) ≡ true) ⊎ ((g.arrow u v && not (w u)) ≡ true) → result u ≡ true
      edge (inl h) = let p = and_parts (g.arrow v u) (not (w v)) h in
          result_is ∙ or_right (spouses u || parents u) (children u) (children_are.1 (v, tails_are v ∙ and_from (from v) (not (w v)) i p.1, p.0))
      edge (inr h) = let p = and_parts (g.arrow u v) (not (w u)) h in
          result_is ∙ or_left (spouses u || parents u) (children u) (or_right (spouses u) (parents u)
          (parents_are ∙ and_from (above u) (not (w u)) (above_are.1 (v, i, p.0)) p.1))

      go : (g.both v u ≡ true) ⊎ (((g.arrow v u && not (w v)) || (g.arrow u v && not (w u))) ≡ true) → result u ≡ true
      go (inl h) = result_is ∙ or_left (spouses u || parents u) (children u) (or_left (spouses u) (parents u) (spouses_are.1 (v, i, h)))
      go (inr h) = edge (or_cases (g.arrow v u && not (w v)) (g.arrow u v && not (w u)) h)

  pub linked_is : IsTrue (result u) ↔ ((v : ℕ) × IsTrue (from v) × IsTrue (is_link g w v u))
  linked_is = (linked_from, λ k. linked_to k.0 k.1 k.2)

-- whether v or a child of it is on the side, by the mask of what is
module _ (g : MixedGraph) (side : ℕ → Bool) (v near : ℕ) (near_is : (c : ℕ) → has near c ≡ ((g.arrow v c || (c == v)) && side c)) where
  pub next_from : (near ≡ 0 → ⊥) → near < 2 ^ 64 → IsNextTo g side v
  next_from some small = let m = some_member near some small in
      let p = and_parts (g.arrow v m.0 || (m.0 == v)) (side m.0) (sym (near_is m.0) ∙ m.1) in (m.0, p.1, p.0)

  pub away_from : near ≡ 0 → IsNextTo g side v → ⊥
  away_from none n = both_ways (has near n.0) (rw none (has-zero n.0))
      (near_is n.0 ∙ and_from (g.arrow v n.0 || (n.0 == v)) (side n.0) n.2 n.1)

  module _ (empty : Bool) (is : IsTrue empty ↔ (near ≡ 0)) where
    pub next_on : near < 2 ^ 64 → OnTrue (not empty) (IsNextTo g side v)
    next_on small = go empty refl
      where
        go : (t : Bool) → empty ≡ t → OnTrue (not t) (IsNextTo g side v)
        go true e = tt
        go false e = next_from (λ z. both_ways empty e (is.1 z)) small

    pub away_on : OnFalse (not empty) (IsNextTo g side v → ⊥)
    away_on = go empty refl
      where
        go : (t : Bool) → empty ≡ t → OnFalse (not t) (IsNextTo g side v → ⊥)
        go true e = away_from (is.0 e)
        go false e = tt

module _ (g : MixedGraph) (ok : IsMixedGraph g) where
  pub link_turned : (w : ℕ → Bool) (u v : ℕ) → is_link g w u v ≡ true → is_link g w v u ≡ true
  link_turned w u v h = turned (g.both u v) (g.both v u) (g.arrow u v) (g.arrow v u) (not (w u)) (not (w v)) (ok.symmetric u v) h

  -- where links lead from both ends to one vertex, they lead from one end to the other
  pub along : (s w : ℕ → Bool) (a b v : ℕ) → Reached (is_link g w) (only a) s v → Reached (is_link g w) (only b) s v → Reached (is_link g w) (only b) s a
  along s w a b v (Reached.start e i) k = subst (λ x. Reached (is_link g w) (only b) s x) (eqb-true v a e) k
  along s w a b v (Reached.next {u} r l i) k =
      along s w a b u r (Reached.next k (link_turned w u v l) (reached_inside (is_link g w) (only a) s u r))

  pub swapped : (s w : ℕ → Bool) (a b : ℕ) → s a ≡ true → Reached (is_link g w) (only b) s a → Reached (is_link g w) (only a) s b
  swapped s w a b i r = along s w b a a r (Reached.start (eq-eqb a a refl) i)

  module _ (s w : ℕ → Bool) (a v : ℕ) where
    link_more : (u x : ℕ) → is_link g w u x ≡ true → is_link g (rest_of w v) u x ≡ true
    link_more u x h = more (g.both u x) (g.arrow u x) (g.arrow x u) (w u) (w x) (rest_of w v u) (rest_of w v x) (rest_false w v u) (rest_false w v x) h

    link_new : (u x : ℕ) → is_link g (rest_of w v) u x ≡ true
        → (is_link g w u x ≡ true) ⊎ ((((u == v) ≡ true) × (g.arrow u x ≡ true)) ⊎ (((x == v) ≡ true) × (g.arrow x u ≡ true)))
    link_new u x h = new (g.both u x) (g.arrow u x) (g.arrow x u) (w u) (w x) (u == v) (x == v) h

    kept_on : (x : ℕ) → Reached (is_link g w) (only a) s x → Reached (is_link g (rest_of w v)) (only a) s x
    kept_on x (Reached.start e i) = Reached.start e i
    kept_on x (Reached.next {u} r l i) = Reached.next (kept_on u r) (link_more u x l) i

    module _ (side : ℕ → Bool) (is : IsSide g s w a side) where
      pub untouched : (IsNextTo g side v → ⊥) → (x : ℕ) → Reached (is_link g (rest_of w v)) (only a) s x → Reached (is_link g w) (only a) s x
      untouched away x (Reached.start e i) = Reached.start e i
      untouched away x (Reached.next {u} r l i) = go (untouched away u r) (link_new u x l)
        where
          go : Reached (is_link g w) (only a) s u
              → (is_link g w u x ≡ true) ⊎ ((((u == v) ≡ true) × (g.arrow u x ≡ true)) ⊎ (((x == v) ≡ true) × (g.arrow x u ≡ true)))
              → Reached (is_link g w) (only a) s x
          go k (inl m) = Reached.next k m i
          go k (inr (inl (e, p))) = absurd (away (u, (is u).1 k, or_right (g.arrow v u) (u == v) e))
          go k (inr (inr (e, q))) = absurd (away (u, (is u).1 k, or_left (g.arrow v u) (u == v) (subst (λ y. g.arrow y u ≡ true) (eqb-true x v e) q)))

      -- nothing changes where v isn't next to the side
      pub same_side : (IsNextTo g side v → ⊥) → IsSide g s (rest_of w v) a side
      same_side away x = ((λ e. kept_on x ((is x).0 e)), (λ r. (is x).1 (untouched away x r)))

      module _ (next : IsNextTo g side v) (sv : s v ≡ true) where
        pub joins : Reached (is_link g (rest_of w v)) (only a) s v
        joins = go (or_cases (g.arrow v next.0) (next.0 == v) next.2)
          where
            here : Reached (is_link g (rest_of w v)) (only a) s next.0
            here = kept_on next.0 ((is next.0).0 next.1)

            link : g.arrow v next.0 ≡ true → is_link g (rest_of w v) next.0 v ≡ true
            link e = let r : rest_of w v v ≡ false = rest_itself w v in by (g.both next.0 v) (g.arrow next.0 v && not (rest_of w v next.0)) (g.arrow v next.0)
                (rest_of w v v) e r
              where
                by : (b p q r : Bool) → q ≡ true → r ≡ false → (b || (p || (q && not r))) ≡ true
                by b p true false e f = or_right b (p || true) (or_right p true refl)
                by b p true true e f = absurd (both_ways true f refl)
                by b p false r e f = absurd (both_ways false refl e)

            go : (g.arrow v next.0 ≡ true) ⊎ ((next.0 == v) ≡ true) → Reached (is_link g (rest_of w v)) (only a) s v
            go (inl e) = Reached.next here (link e) sv
            go (inr e) = subst (λ y. Reached (is_link g (rest_of w v)) (only a) s y) (eqb-true next.0 v e) here

        module _ (one free more result : ℕ → Bool) (one_is : (x : ℕ) → one x ≡ (x == v))
            (free_is : (x : ℕ) → free x ≡ ((s x && not (side x)) || one x))
            (more_is : (x : ℕ) → IsTrue (more x) ↔ Reached (is_link g (rest_of w v)) one free x)
            (result_is : (x : ℕ) → result x ≡ (side x || more x)) where
          at_v : (x : ℕ) → one x ≡ true → x ≡ v
          at_v x e = eqb-true x v (sym (one_is x) ∙ e)

          free_in : (x : ℕ) → free x ≡ true → s x ≡ true
          free_in x e = go (or_cases (s x && not (side x)) (one x) (sym (free_is x) ∙ e))
            where
              first : (p q : Bool) → (p && q) ≡ true → p ≡ true
              first true q h = refl
              first false q h = absurd (both_ways false refl h)

              go : ((s x && not (side x)) ≡ true) ⊎ (one x ≡ true) → s x ≡ true
              go (inl h) = first (s x) (not (side x)) h
              go (inr h) = rw (at_v x h) sv

          more_sound : (x : ℕ) → Reached (is_link g (rest_of w v)) one free x → Reached (is_link g (rest_of w v)) (only a) s x
          more_sound x (Reached.start e i) = subst (λ y. Reached (is_link g (rest_of w v)) (only a) s y) (sym (at_v x e)) joins
          more_sound x (Reached.next {u} r l i) = Reached.next (more_sound u r) l (free_in x i)

          one_v : one v ≡ true
          one_v = one_is v ∙ eq-eqb v v refl

          free_v : free v ≡ true
          free_v = free_is v ∙ or_right (s v && not (side v)) (one v) one_v

          more_v : Reached (is_link g (rest_of w v)) one free v
          more_v = Reached.start one_v free_v

          whole : (x : ℕ) → Reached (is_link g (rest_of w v)) (only a) s x → result x ≡ true
          whole x (Reached.start e i) = result_is x ∙ or_left (side x) (more x) ((is x).1 (Reached.start e i))
          whole x (Reached.next {u} r l i) = go (whole u r) (cases_Bool (side x))
            where
              outside : side x ≡ false → free x ≡ true
              outside e = free_is x ∙ or_left (s x && not (side x)) (one x) (both (s x) (side x) i e)
                where
                  both : (p q : Bool) → p ≡ true → q ≡ false → (p && not q) ≡ true
                  both true false e f = refl
                  both true true e f = absurd (both_ways true f refl)
                  both false q e f = absurd (both_ways false refl e)

              beyond : side x ≡ false → Reached (is_link g (rest_of w v)) one free u → result x ≡ true
              beyond e m = result_is x ∙ or_right (side x) (more x) ((more_is x).1 (Reached.next m l (outside e)))

              from_side : side x ≡ false → side u ≡ true
                  → (is_link g w u x ≡ true) ⊎ ((((u == v) ≡ true) × (g.arrow u x ≡ true)) ⊎ (((x == v) ≡ true) × (g.arrow x u ≡ true)))
                  → result x ≡ true
              from_side e k (inl m) = absurd (both_ways (side x) e ((is x).1 (Reached.next ((is u).0 k) m i)))
              from_side e k (inr (inl (q, p))) = beyond e (subst (λ y. Reached (is_link g (rest_of w v)) one free y) (sym (eqb-true u v q)) more_v)
              from_side e k (inr (inr (q, p))) = result_is x ∙ or_right (side x) (more x)
                  ((more_is x).1 (subst (λ y. Reached (is_link g (rest_of w v)) one free y) (sym (eqb-true x v q)) more_v))

              go : result u ≡ true → (side x ≡ true) ⊎ (side x ≡ false) → result x ≡ true
              go k (inl e) = result_is x ∙ or_left (side x) (more x) e
              go k (inr e) = by (or_cases (side u) (more u) (sym (result_is u) ∙ k))
                where
                  by : (side u ≡ true) ⊎ (more u ≡ true) → result x ≡ true
                  by (inl k) = from_side e k (link_new u x l)
                  by (inr m) = beyond e ((more_is u).0 m)

          -- v joins the side that it is next to, with what links reach from it
          pub grown_side : IsSide g s (rest_of w v) a result
          grown_side x = ((λ e. back (or_cases (side x) (more x) (sym (result_is x) ∙ e))), whole x)
            where
              back : (side x ≡ true) ⊎ (more x ≡ true) → Reached (is_link g (rest_of w v)) (only a) s x
              back (inl e) = kept_on x ((is x).0 e)
              back (inr e) = more_sound x ((more_is x).0 e)
