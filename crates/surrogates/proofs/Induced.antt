-- A factor made in the graph induced on a set of vertices, the room, read in the graph itself.
use Rattle.std.proofs.Common.{ℕ, suc, ◌≡◌, ◌<◌, Bool, true, eqb, refl, ◌∙◌, ◌&&◌, ◌⊎◌, inl, inr, List, [], ◌∷◌, eqb-true}
use Rattle.hedge.specs.Vocabulary.{IsLinked, IsDistrict, at, by}
use Rattle.do_derivation.specs.Plans.{Plans}
use Rattle.do_derivation.specs.Vocabulary.{PlainLemma}
use Rattle.identification_theory.proofs.Bools.{and_l, and_r, both_true, or_r, or_e}
use Rattle.identification_theory.proofs.Sets.{one-self, one-is}
use Rattle.identification_theory.specs.Vocabulary.{AreBodySteps, AreFactorSteps, ArePlaceLists, Lists, AreAncestorsIn, AreFactors, IsBody, IsFactor, IsParent, IsPillow, IsStopped, Source}
use Rattle.mixed_graph.proofs.Masks.{has-and, has-or}
use Rattle.mixed_graph.specs.Vocabulary.{has, IsAncestor, IsDirectedPath, IsMixedGraph, MixedGraph, induced, union, one, common}
use Rattle.prob_expr.specs.Tree.{Tree}
use Rattle.prob_expr.specs.Vocabulary.{Trees}

module _ (g : MixedGraph) (room : ℕ) where
  abbrev pub inner : MixedGraph
  inner = induced g (has room)

  pub path_out : (u : ℕ) (xs : List ℕ) (t : ℕ) → IsDirectedPath (induced g (has room)) u xs t → IsDirectedPath g u xs t
  path_out u [] t p = p
  path_out u (x ∷ xs) t p = (and_l (g.arrow u x) (has room u && has room x) p.0, path_out x xs t p.1)

  pub inner_graph : IsMixedGraph g → IsMixedGraph (induced g (has room))
  inner_graph ok = record {
    tail_below = λ u v e. ok.tail_below u v (and_l (g.arrow u v) (has room u && has room v) e);
    head_below = λ u v e. ok.head_below u v (and_l (g.arrow u v) (has room u && has room v) e);
    both_below = λ u v e. ok.both_below u v (and_l (g.both u v) (has room u && has room v) e);
    symmetric = λ u v e. let i = and_r (g.both u v) (has room u && has room v) e in
        both_true (g.both v u) (has room v && has room u) (ok.symmetric u v (and_l (g.both u v) (has room u && has room v) e))
        (both_true (has room v) (has room u) (and_r (has room u) (has room v) i) (and_l (has room u) (has room v) i));
    no_loop = λ v. rw (ok.no_loop v) refl;
    acyclic = λ v x xs p. ok.acyclic v x xs (path_out v (x ∷ xs) v p);
  }

  -- ---- links
  pub link_out : (a s : ℕ → Bool) (u : ℕ) → IsLinked (induced g (has room)) a s u → IsLinked g a s u
  link_out a s u (at e) = at e
  link_out a s u (by {v = v} i b r) = by i (and_l (g.both u v) (has room u && has room v) b) (link_out a s v r)

  module _ (a s : ℕ → Bool) (a_in : (u : ℕ) → a u ≡ true → has room u ≡ true) (s_in : (u : ℕ) → s u ≡ true → has room u ≡ true) where
    pub link_end : (u : ℕ) → IsLinked g a s u → has room u ≡ true
    link_end u (at e) = s_in u e
    link_end u (by i b r) = a_in u i

    -- a chain of bidirected edges within sets inside the room is one in the graph induced on the room
    pub link_in : (u : ℕ) → IsLinked g a s u → IsLinked (induced g (has room)) a s u
    link_in u (at e) = at e
    link_in u (by {v = v} i b r) = by i (both_true (g.both u v) (has room u && has room v) b (both_true (has room u) (has room v) (a_in u i) (link_end v r)))
        (link_in v r)

  pub district_out : (a c t : ℕ) → ((u : ℕ) → has a u ≡ true → has room u ≡ true) → ((u : ℕ) → has c u ≡ true → has a u ≡ true)
      → IsDistrict (induced g (has room)) a c t → IsDistrict g a c t
  district_out a c t ha hc d = record {
    sound = λ u e. link_out (has a) (has c) u (d.sound u e);
    complete = λ u r. d.complete u (link_in (has a) (has c) ha (λ w e. ha w (hc w e)) u r);
  }

  pub district_in : (a c t : ℕ) → ((u : ℕ) → has a u ≡ true → has room u ≡ true) → ((u : ℕ) → has c u ≡ true → has a u ≡ true) → IsDistrict g a c t
      → IsDistrict (induced g (has room)) a c t
  district_in a c t ha hc d = record {
    sound = λ u e. link_in (has a) (has c) ha (λ w i. ha w (hc w i)) u (d.sound u e);
    complete = λ u r. d.complete u (link_out (has a) (has c) u r);
  }

  -- a district lies in its set
  pub inside_of : (h : MixedGraph) (a c t : ℕ) → ((u : ℕ) → has c u ≡ true → has a u ≡ true) → IsDistrict h a c t → (u : ℕ) → has t u ≡ true → has a u ≡ true
  inside_of h a c t hc d u e = go u (d.sound u e)
    where
      go : (u : ℕ) → IsLinked h (has a) (has c) u → has a u ≡ true
      go u (at i) = hc u i
      go u (by i b r) = i

  -- what leads to c inside t lies in t
  pub above_inside : (h : MixedGraph) (t c a : ℕ) → ((u : ℕ) → has c u ≡ true → has t u ≡ true) → AreAncestorsIn h t c a → (u : ℕ) → has a u ≡ true → has t u
      ≡ true
  above_inside h t c a hc n u e = let r : IsAncestor (induced h (has t)) (has c) u = n.sound u e in go u r.path r.end r.leads r.inside
    where
      go : (u : ℕ) (xs : List ℕ) (w : ℕ) → IsDirectedPath (induced h (has t)) u xs w → has c w ≡ true → has t u ≡ true
      go u [] w p i = hc u (rw p i)
      go u (x ∷ xs) w p i = and_l (has t u) (has t x) (and_r (h.arrow u x) (has t u && has t x) p.0)

  pub above_out : (t c a : ℕ) → ((u : ℕ) → has t u ≡ true → has room u ≡ true) → AreAncestorsIn (induced g (has room)) t c a → AreAncestorsIn g t c a
  above_out t c a ht n = record {
    sound = λ u e. let r : IsAncestor (induced (induced g (has room)) (has t)) (has c) u = n.sound u e in
        record { vertex = r.vertex; path = r.path; end = r.end; leads = out u r.path r.end r.leads; inside = r.inside };
    complete = λ u r. n.complete u (record { vertex = r.vertex; path = r.path; end = r.end; leads = in_ u r.path r.end r.leads; inside = r.inside });
  }
    where
      out : (u : ℕ) (xs : List ℕ) (w : ℕ) → IsDirectedPath (induced (induced g (has room)) (has t)) u xs w → IsDirectedPath (induced g (has t)) u xs w
      out u [] w p = p
      out u (x ∷ xs) w p = (
        both_true (g.arrow u x) (has t u && has t x) (and_l (g.arrow u x) (has room u && has room x)
            (and_l (g.arrow u x && (has room u && has room x)) (has t u && has t x) p.0))
            (and_r (g.arrow u x && (has room u && has room x)) (has t u && has t x) p.0),
        out x xs w p.1,
      )

      in_ : (u : ℕ) (xs : List ℕ) (w : ℕ) → IsDirectedPath (induced g (has t)) u xs w → IsDirectedPath (induced (induced g (has room)) (has t)) u xs w
      in_ u [] w p = p
      in_ u (x ∷ xs) w p = let i = and_r (g.arrow u x) (has t u && has t x) p.0 in (
        both_true (g.arrow u x && (has room u && has room x)) (has t u && has t x)
            (both_true (g.arrow u x) (has room u && has room x) (and_l (g.arrow u x) (has t u && has t x) p.0)
            (both_true (has room u) (has room x) (ht u (and_l (has t u) (has t x) i)) (ht x (and_r (has t u) (has t x) i)))) i,
        in_ x xs w p.1,
      )

  -- ---- pillows
  pub pillow_out : (s v m : ℕ) → ((u : ℕ) → has s u ≡ true → has room u ≡ true) → has s v ≡ true → IsPillow (induced g (has room)) s v m → IsPillow g s v m
  pillow_out s v m hs iv pl = record { sound = λ u e. out u (pl.sound u e); complete = λ u r. pl.complete u (back u r) }
    where
      v_in : (u : ℕ) → eqb u v ≡ true → has room u ≡ true
      v_in u e = rw (eqb-true u v e) (hs v iv)

      out : (u : ℕ) → (u ≡ v → ⊥) × (IsLinked (induced g (has room)) (has s) (λ w. eqb w v) u
          ⊎ ((has s u ≡ true) × IsParent (induced g (has room)) (IsLinked (induced g (has room)) (has s) (λ w. eqb w v)) u))
          → (u ≡ v → ⊥) × (IsLinked g (has s) (λ w. eqb w v) u ⊎ ((has s u ≡ true) × IsParent g (IsLinked g (has s) (λ w. eqb w v)) u))
      out u (ne, inl r) = (ne, inl (link_out (has s) (λ w. eqb w v) u r))
      out u (ne, inr r) = (
        ne,
        inr (
          r.0,
          record {
            child = r.1.child;
            arrow = and_l (g.arrow u r.1.child) (has room u && has room r.1.child) r.1.arrow;
            within = link_out (has s) (λ w. eqb w v) r.1.child r.1.within;
          },
        ),
      )

      back : (u : ℕ) → (u ≡ v → ⊥) × (IsLinked g (has s) (λ w. eqb w v) u ⊎ ((has s u ≡ true) × IsParent g (IsLinked g (has s) (λ w. eqb w v)) u))
          → (u ≡ v → ⊥) × (IsLinked (induced g (has room)) (has s) (λ w. eqb w v) u
          ⊎ ((has s u ≡ true) × IsParent (induced g (has room)) (IsLinked (induced g (has room)) (has s) (λ w. eqb w v)) u))
      back u (ne, inl r) = (ne, inl (link_in (has s) (λ w. eqb w v) hs v_in u r))
      back u (ne, inr r) = (
        ne,
        inr (
          r.0,
          record {
            child = r.1.child;
            arrow = both_true (g.arrow u r.1.child) (has room u && has room r.1.child) r.1.arrow
                (both_true (has room u) (has room r.1.child) (hs u r.0) (link_end (has s) (λ w. eqb w v) hs v_in r.1.child r.1.within));
            within = link_in (has s) (λ w. eqb w v) hs v_in r.1.child r.1.within;
          },
        ),
      )

  -- ---- bodies
  pillow_in_room : (a t p v m : ℕ) → ((u : ℕ) → has a u ≡ true → has room u ≡ true) → ((u : ℕ) → has t u ≡ true → has a u ≡ true) → has t v ≡ true
      → IsPillow (induced g (has room)) (union (common a p) (one v)) v m → IsPillow g (union (common a p) (one v)) v m
  pillow_in_room a t p v m ha ht q pl = pillow_out (union (common a p) (one v)) v m in_room
      (has-or (common a p) (one v) v ∙ or_r (has (common a p) v) (has (one v) v) (one-self v)) pl
    where
      pick : (u : ℕ) → (has (common a p) u ≡ true) ⊎ (has (one v) u ≡ true) → has room u ≡ true
      pick u (inl e) = ha u (and_l (has a u) (has p u) (rw (has-and a p u) at e))
      pick u (inr e) = rw (one-is v u e) (ha v (ht v q))

      in_room : (u : ℕ) → has (union (common a p) (one v)) u ≡ true → has room u ≡ true
      in_room u e = pick u (or_e (has (common a p) u) (has (one v) u) (rw (has-or (common a p) (one v) u) at e))

  factors_out : (from : Source) (a t p : ℕ) (o : List ℕ) (fs : Trees) → ((u : ℕ) → has a u ≡ true → has room u ≡ true)
      → ((u : ℕ) → has t u ≡ true → has a u ≡ true) → AreFactors (induced g (has room)) from a t p o fs → AreFactors g from a t p o fs
  factors_out from a t _ _ _ ha ht AreFactors.none = AreFactors.none
  factors_out from a t _ _ _ ha ht (AreFactors.skip {p = p} {v = v} {o = o} {fs = fs} q r) =
      AreFactors.skip q (factors_out from a t (union p (one v)) o fs ha ht r)
  factors_out from a t _ _ _ ha ht (AreFactors.take {p = p} {v = v} {m = m} {o = o} {fs = fs} q pl r) =
      AreFactors.take q (pillow_in_room a t p v m ha ht q pl) (factors_out from a t (union p (one v)) o fs ha ht r)

  body_out : (o : List ℕ) (from : Source) (a t : ℕ) (e : Tree) → ((u : ℕ) → has a u ≡ true → has room u ≡ true) → ((u : ℕ) → has t u ≡ true → has a u ≡ true)
      → IsBody (induced g (has room)) o from a t e → IsBody g o from a t e
  body_out o from a t e ha ht b = record { factors = b.factors; are = factors_out from a t 0 o b.factors ha ht b.are; is = b.is }

  places_out : (from : Source) (a t p : ℕ) (o : List ℕ) (ls : Lists) → ((u : ℕ) → has a u ≡ true → has room u ≡ true)
      → ((u : ℕ) → has t u ≡ true → has a u ≡ true) → ArePlaceLists (induced g (has room)) from a t p o ls → ArePlaceLists g from a t p o ls
  places_out from a t _ _ _ ha ht ArePlaceLists.none = ArePlaceLists.none
  places_out from a t _ _ _ ha ht (ArePlaceLists.skip {p = p} {v = v} {o = o} {ls = ls} q r) =
      ArePlaceLists.skip q (places_out from a t (union p (one v)) o ls ha ht r)
  places_out from a t _ _ _ ha ht (ArePlaceLists.take {p = p} {v = v} {m = m} {o = o} {ls = ls} q pl r) =
      ArePlaceLists.take q (pillow_in_room a t p v m ha ht q pl) (places_out from a t (union p (one v)) o ls ha ht r)

  body_steps_out : (o : List ℕ) (from : Source) (a t : ℕ) (l : Plans) → ((u : ℕ) → has a u ≡ true → has room u ≡ true)
      → ((u : ℕ) → has t u ≡ true → has a u ≡ true) → AreBodySteps (induced g (has room)) o from a t l → AreBodySteps g o from a t l
  body_steps_out o from a t l ha ht b = record { lists = b.lists; are = places_out from a t 0 o b.lists ha ht b.are; is = b.is }

  -- the district t of c in a, and its part a2 that leads to c, as they are in the graph
  record IsStage (c a t a2 : ℕ) : Type 0 where
    district : IsDistrict g a c t
    above : AreAncestorsIn g t c a2
    inside : (u : ℕ) → has t u ≡ true → has a u ≡ true
    in_room : (u : ℕ) → has a2 u ≡ true → has room u ≡ true
    holds : (u : ℕ) → has c u ≡ true → has a2 u ≡ true

  module _ (o : List ℕ) (c : ℕ) (c_low : (u : ℕ) → has c u ≡ true → u < g.vertices) where
    stage : (a t a2 : ℕ) → ((u : ℕ) → has a u ≡ true → has room u ≡ true) → ((u : ℕ) → has c u ≡ true → has a u ≡ true)
        → IsDistrict (induced g (has room)) a c t → AreAncestorsIn (induced g (has room)) t c a2 → IsStage c a t a2
    stage a t a2 ha hc d n =
        let ht = inside_of (induced g (has room)) a c t hc d in
        record {
          district = district_out a c t ha hc d;
          above = above_out t c a2 (λ u i. ha u (ht u i)) n;
          inside = ht;
          in_room = λ u i. ha u (ht u (above_inside (induced g (has room)) t c a2 (λ w j. d.complete w (at j)) n u i));
          holds = λ u i. n.complete u (record { vertex = c_low u i; path = []; end = u; leads = refl; inside = i });
        }

    pub factor_out : (a : ℕ) (from : Source) (k : ℕ) (ds : List Tree) (e : Tree) → ((u : ℕ) → has a u ≡ true → has room u ≡ true)
        → ((u : ℕ) → has c u ≡ true → has a u ≡ true)
        → IsFactor (induced g (has room)) o c a from k ds e → IsFactor g o c a from k ds e
    factor_out a from k _ e ha hc (IsFactor.whole d b) = IsFactor.whole (district_out a c c ha hc d) (body_out o from a c e ha hc b)
    factor_out a from k _ _ ha hc (IsFactor.summed {t = t} {e = e} d ne n b) = let s = stage a t c ha hc d n in
        IsFactor.summed s.district ne s.above (body_out o from a t e ha s.inside b)
    factor_out a from k _ e ha hc (IsFactor.further {t = t} {a2 = a2} {b = x} {ds = ds} d ne n m q b next) =
        let s = stage a t a2 ha hc d n in
        IsFactor.further s.district ne s.above m q (body_out o from a t x ha s.inside b) (factor_out a2 (Source.Defined k) (suc k) ds e s.in_room s.holds next)

    pub steps_out : (a : ℕ) (from : Source) (k : ℕ) (ls : List PlainLemma) (l : Plans) → ((u : ℕ) → has a u ≡ true → has room u ≡ true)
        → ((u : ℕ) → has c u ≡ true → has a u ≡ true)
        → AreFactorSteps (induced g (has room)) o c a from k ls l → AreFactorSteps g o c a from k ls l
    steps_out a from k _ l ha hc (AreFactorSteps.whole d b) = AreFactorSteps.whole (district_out a c c ha hc d) (body_steps_out o from a c l ha hc b)
    steps_out a from k _ _ ha hc (AreFactorSteps.summed {t = t} {l = l} d ne n b) = let s = stage a t c ha hc d n in
        AreFactorSteps.summed s.district ne s.above (body_steps_out o from a t l ha s.inside b)
    steps_out a from k _ l ha hc (AreFactorSteps.further {t = t} {a2 = a2} {b = x} {ls = ls} d ne n m q b next) =
        let s = stage a t a2 ha hc d n in
        AreFactorSteps.further s.district ne s.above m q (body_steps_out o from a t x ha s.inside b)
        (steps_out a2 (Source.Defined k) (suc k) ls l s.in_room s.holds next)

    -- a stop in the graph induced on the room is one in the graph
    pub stopped_out : (a big : ℕ) → ((u : ℕ) → has a u ≡ true → has room u ≡ true) → ((u : ℕ) → has c u ≡ true → has a u ≡ true)
        → IsStopped (induced g (has room)) c a big → IsStopped g c a big
    stopped_out a big ha hc (IsStopped.here d ne n) = let s = stage a big big ha hc d n in IsStopped.here s.district ne s.above
    stopped_out a big ha hc (IsStopped.later {t = t} {a2 = a2} d ne n m q r) =
        let s = stage a t a2 ha hc d n in
        IsStopped.later s.district ne s.above m q (stopped_out a2 big s.in_room s.holds r)
