-- Links from one end of a pair to the other make an open walk, which needs no refutation.
use Rattle.std.proofs.Common.{ℕ, ◌≡◌, ◌<◌, Bool, true, false, not, ◌&&◌, ◌||◌, ◌⊎◌, inl, inr, refl, List, [], ◌∷◌, eqb-true, eq-eqb}
use Rattle.std.proofs.lemmas.Bool.{or_cases, and_parts, both_ways}
use Rattle.mixed_graph.specs.Vocabulary.{MixedGraph, IsMixedGraph, IsDirectedPath, IsAncestor}
use Rattle.mixed_graph.specs.Reached.{Reached}
use Rattle.m_separation.specs.declared.marks.Mark.{Mark}
use Rattle.m_separation.specs.declared.marks.Mark.TheVariants.{Both, Into, Out}
use Rattle.m_separation.specs.Vocabulary.{Step, IsJoined, IsWalk, last, heads_first, heads_second, IsPassed, ArePassedFrom, ArePassed, HasOpenWalk}
use Rattle.do_rules.proofs.Reach.{AllOutside, meets_or_not, IsReadyAt, IsReady, Comes}
use Rattle.implications.specs.Separable.{only}
use Rattle.implications.specs.Links.{is_link, AreAbove}

module _ (g : MixedGraph) (ok : IsMixedGraph g) (a b : ℕ) (al : a < g.vertices) (w : ℕ → Bool) (wa : w a ≡ false) (wb : w b ≡ false) where
  passed_tail : (v : ℕ) (r : List Step) → w v ≡ false → ArePassed g w r → ArePassedFrom g w false v r
  passed_tail v [] o p = tt
  passed_tail v (s ∷ r) o p = (o, p)

  passed_head : (v : ℕ) (r : List Step) → IsReady g w v r → ArePassed g w r → ArePassedFrom g w true v r
  passed_head v [] i p = tt
  passed_head v (s ∷ r) i p = (go (heads_first s.mark) i, p)
    where
      go : (k : Bool) → IsReadyAt g w v k → IsPassed g w v true k
      go true i = i
      go false i = i

  -- a directed path to b outside w is such a walk
  down : (v : ℕ) (xs : List ℕ) (t : ℕ) → IsDirectedPath g v xs t → AllOutside g w v xs → only b t ≡ true → Comes g (only a) (only b) w v
  down v [] t p o e = record { steps = []; ends = rw p e; last_outside = o; walk = tt; passed = tt; ready = o }
  down v (x ∷ xs) t p o e = let c = down x xs t p.1 o.1 e in record {
    steps = record { mark = Out; to = x } ∷ c.steps;
    ends = c.ends;
    last_outside = c.last_outside;
    walk = (p.0, c.walk);
    passed = passed_head x c.steps c.ready c.passed;
    ready = o.0;
  }

  -- a walk from v to b, put behind the reverse of a directed path from v to a outside w
  back : (v : ℕ) (xs : List ℕ) (t : ℕ) → IsDirectedPath g v xs t → AllOutside g w v xs → only a t ≡ true
      → (r : List Step) → only b (last v r) ≡ true → w (last v r) ≡ false → IsWalk g v r → ArePassed g w r → HasOpenWalk g (only a) (only b) w
  back v [] t p o e r y l k q = (
    v,
    r,
    record {
      vertex = rw (p, eqb-true t a e) al;
      begins = rw p e;
      ends = y;
      first_outside = o;
      last_outside = l;
      walk = k;
      passed = q;
    },
  )
  back v (x ∷ xs) t p o e r y l k q = back x xs t p.1 o.1 e (record { mark = Into; to = v } ∷ r) y l (p.0, k) (passed_tail v r o.0 q)

  module _ (s : ℕ → Bool) (above : AreAbove g a b s) where
    -- a walk from u, whose first step may be a link, is ready, or the open walk is found
    ready_walk : (u : ℕ) → s u ≡ true → (m : Mark) (v : ℕ) → (c : Comes g (only a) (only b) w v) → IsJoined g u m v → (heads_first m ≡ false → w u ≡ false)
        → ArePassedFrom g w (heads_second m) v c.steps → HasOpenWalk g (only a) (only b) w ⊎ Comes g (only a) (only b) w u
    ready_walk u i m v c j tail q = go (meets_or_not g w ok u up.path up.end up.vertex up.leads)
      where
        up : IsAncestor g (λ x. only a x || only b x) u
        up = (above u).0 i

        ready : IsAncestor g w u → (h : Bool) → (h ≡ false → w u ≡ false) → IsReadyAt g w u h
        ready k true t = k
        ready k false t = t refl

        at_end : AllOutside g w u up.path → (only a up.end ≡ true) ⊎ (only b up.end ≡ true)
            → HasOpenWalk g (only a) (only b) w ⊎ Comes g (only a) (only b) w u
        at_end o (inl e) = inl (back u up.path up.end up.leads o e (record { mark = m; to = v } ∷ c.steps) c.ends c.last_outside (j, c.walk) q)
        at_end o (inr e) = inr (down u up.path up.end up.leads o e)

        go : IsAncestor g w u ⊎ AllOutside g w u up.path → HasOpenWalk g (only a) (only b) w ⊎ Comes g (only a) (only b) w u
        go (inl k) = inr (record {
          steps = record { mark = m; to = v } ∷ c.steps;
          ends = c.ends;
          last_outside = c.last_outside;
          walk = (j, c.walk);
          passed = q;
          ready = ready k (heads_first m) tail;
        })
        go (inr o) = at_end o (or_cases (only a up.end) (only b up.end) up.inside)

    outside : (x : ℕ) → not (w x) ≡ true → w x ≡ false
    outside x e = go (w x) e
      where
        go : (t : Bool) → not t ≡ true → t ≡ false
        go true e = absurd (both_ways false refl e)
        go false e = refl

    -- from each vertex that links reach a walk leads to b, or the open walk is found
    comes : (v : ℕ) → Reached (is_link g w) (only b) s v → HasOpenWalk g (only a) (only b) w ⊎ Comes g (only a) (only b) w v
    comes v (Reached.start e i) = inr (record { steps = []; ends = e; last_outside = o; walk = tt; passed = tt; ready = o })
      where
        o : w v ≡ false
        o = rw (eqb-true v b e) wb
    comes v (Reached.next {u} r l i) = go (comes u r)
      where
        by_link : Comes g (only a) (only b) w u → (g.both u v ≡ true) ⊎ (((g.arrow u v && not (w u)) || (g.arrow v u && not (w v))) ≡ true)
            → HasOpenWalk g (only a) (only b) w ⊎ Comes g (only a) (only b) w v
        by_link c (inl e) = ready_walk v i Both u c (ok.symmetric u v e) (λ h. absurd (both_ways true h refl)) (passed_head u c.steps c.ready c.passed)
        by_link c (inr e) = by_arrow (or_cases (g.arrow u v && not (w u)) (g.arrow v u && not (w v)) e)
          where
            by_arrow : ((g.arrow u v && not (w u)) ≡ true) ⊎ ((g.arrow v u && not (w v)) ≡ true)
                → HasOpenWalk g (only a) (only b) w ⊎ Comes g (only a) (only b) w v
            by_arrow (inl h) = let p = and_parts (g.arrow u v) (not (w u)) h in
                ready_walk v i Into u c p.0 (λ k. absurd (both_ways true k refl)) (passed_tail u c.steps (outside u p.1) c.passed)
            by_arrow (inr h) = let p = and_parts (g.arrow v u) (not (w v)) h in
                ready_walk v i Out u c p.0 (λ k. outside v p.1) (passed_head u c.steps c.ready c.passed)

        go : HasOpenWalk g (only a) (only b) w ⊎ Comes g (only a) (only b) w u → HasOpenWalk g (only a) (only b) w ⊎ Comes g (only a) (only b) w v
        go (inl o) = inl o
        go (inr c) = by_link c (or_cases (g.both u v) ((g.arrow u v && not (w u)) || (g.arrow v u && not (w v))) l)

    pub open_by_links : Reached (is_link g w) (only b) s a → HasOpenWalk g (only a) (only b) w
    open_by_links r = go (comes a r)
      where
        go : HasOpenWalk g (only a) (only b) w ⊎ Comes g (only a) (only b) w a → HasOpenWalk g (only a) (only b) w
        go (inl o) = o
        go (inr c) = (
          a,
          c.steps,
          record {
            vertex = al;
            begins = eq-eqb a a refl;
            ends = c.ends;
            first_outside = wa;
            last_outside = c.last_outside;
            walk = c.walk;
            passed = c.passed;
          },
        )
