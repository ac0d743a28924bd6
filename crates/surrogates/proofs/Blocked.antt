-- Where all tries of a district stop it is blocked, and a blocked district has no factor.
use Rattle.std.proofs.Common.{ℕ, suc, ◌+◌, ◌≡◌, ◌<◌, Bool, true, false, eqb, not, refl, sym, subst, ◌∙◌, ◌&&◌, ◌⊎◌, inl, inr, List, [], ◌∷◌, length}
use Rattle.std.proofs.Common.{arith, eqb-true}
use Rattle.hedge.specs.Vocabulary.{IsLinked, at, by, outside, AreSetsOfHedge}
use Rattle.identification_theory.proofs.Accepted.{d_low}
use Rattle.identification_theory.proofs.Body.{order_in}
use Rattle.identification_theory.proofs.Bools.{and_l, and_r, both_true, clash, not_e, not_i, or_e, or_l}
use Rattle.identification_theory.proofs.Front.{closed_above}
use Rattle.identification_theory.proofs.Groups.{Among, IsPart, are_parts, part_among}
use Rattle.identification_theory.proofs.Orders.{IsOrderFrom, order_of}
use Rattle.identification_theory.proofs.Sets.{all-below, all-is, has-minus, one-is, one-self}
use Rattle.identification_theory.specs.Procedure.IsFactor.{whole, summed, further}
use Rattle.identification_theory.specs.Vocabulary.{AreAncestorsIn, IsFactor, IsStopped, IsTarget, Source, AreRoots}
use Rattle.identification_theory.proofs.Stops.{IsHome, hedge, home_of, kept_inside}
use Rattle.mixed_graph.proofs.Masks.{has-zero}
use Rattle.mixed_graph.specs.Vocabulary.{has, IsAncestor, IsDirectedPath, IsMixedGraph, MixedGraph, induced, all, is_apart, minus, one}
use Rattle.prob_expr.specs.Vocabulary.{is_listed, Trees, PlainFormula}
use Rattle.prob_expr.specs.Tree.{Tree}
use Rattle.surrogates.proofs.Induced.{inner_graph, inside_of, above_inside, link_in, stopped_out}
use Rattle.surrogates.proofs.Unique.{same_districts}
use Rattle.surrogates.proofs.Rooms.{Chosen, chosen, zero_apart, c_room, a_room, c_in_a}
use Rattle.surrogates.specs.Common.{IsHedgeApart, StopUnderHasHedge}
use Rattle.surrogates.specs.Surrogates.{without, ComesFirst, IsFactorUnder, IsStoppedUnder, AllStop, AreFactoredWith, IsComposedOver, IsSurrogate}
use Rattle.surrogates.specs.Surrogates.{StopsWith, IsStoppedWith, SomeHedge, IsBlocked, IsAmong, IsDistrictFor, IsFirstBlocked, SomeBlocked}

to_among : (c : ℕ) (ts : List ℕ) → IsAmong c ts → Among c ts
to_among c [] m = m
to_among c (t ∷ ts) (inl e) = inl e
to_among c (t ∷ ts) (inr m) = inr (to_among c ts m)

from_room : (g : MixedGraph) (z c u : ℕ) → has (minus (minus (all g.vertices) z) c) u ≡ true → (has (minus (all g.vertices) z) u ≡ true) × (has c u ≡ false)
from_room g z c u e = let q : (has (minus (all g.vertices) z) u && not (has c u)) ≡ true = rw (has-minus (minus (all g.vertices) z) c u) at e in
    (and_l (has (minus (all g.vertices) z) u) (not (has c u)) q, not_e (has c u) (and_r (has (minus (all g.vertices) z) u) (not (has c u)) q))

room_low : (g : MixedGraph) (z u : ℕ) → has (minus (all g.vertices) z) u ≡ true → u < g.vertices
room_low g z u e = all-below g.vertices u (and_l (has (all g.vertices) u) (not (has z u)) (rw (has-minus (all g.vertices) z u) at e))

-- a vertex of the room outside the others is in c
in_c : (g : MixedGraph) (z c u : ℕ) → has (minus (all g.vertices) z) u ≡ true → has (minus (minus (all g.vertices) z) c) u ≡ false → has c u ≡ true
in_c g z c u i e = bools (has (minus (all g.vertices) z) u) (has c u) i (sym (has-minus (minus (all g.vertices) z) c u) ∙ e)
  where
    bools : (p q : Bool) → p ≡ true → (p && not q) ≡ false → q ≡ true
    bools p q h1 h2 = grind (arith, h1, h2)

-- what a path inside t to c is, is one inside a larger set
wider : (h : MixedGraph) (b t c u : ℕ) → ((u : ℕ) → has b u ≡ true → has t u ≡ true) → IsAncestor (induced h (has b)) (has c) u
    → IsAncestor (induced h (has t)) (has c) u
wider h b t c u w r = record { vertex = r.vertex; path = r.path; end = r.end; leads = go u r.path r.end r.leads; inside = r.inside }
  where
    go : (u : ℕ) (xs : List ℕ) (e : ℕ) → IsDirectedPath (induced h (has b)) u xs e → IsDirectedPath (induced h (has t)) u xs e
    go u [] e p = p
    go u (x ∷ xs) e p = let i = and_r (h.arrow u x) (has b u && has b x) p.0 in (
      both_true (h.arrow u x) (has t u && has t x) (and_l (h.arrow u x) (has b u && has b x) p.0)
          (both_true (has t u) (has t x) (w u (and_l (has b u) (has b x) i)) (w x (and_r (has b u) (has b x) i))),
      go x xs e p.1,
    )

-- ---- a joined set that leads to c inside itself stays in each stage of the factor of c
module _ (h : MixedGraph) (c big v : ℕ) (v_big : has big v ≡ true) (v_c : has c v ≡ true)
    (leads : (u : ℕ) → has big u ≡ true → IsAncestor (induced h (has big)) (has c) u)
    (joined : (u : ℕ) → has big u ≡ true → IsLinked h (has big) (λ w. eqb w v) u) where
  link_to : (a : ℕ) → ((u : ℕ) → has big u ≡ true → has a u ≡ true) → (u : ℕ) → IsLinked h (has big) (λ w. eqb w v) u → IsLinked h (has a) (has c) u
  link_to a w u (at e) = at (rw (eqb-true u v e) v_c)
  link_to a w u (by {v = x} i b r) = by (w u i) b (link_to a w x r)

  pub caught : (o : List ℕ) (a : ℕ) (from : Source) (k : ℕ) (ds : List Tree) (e : Tree) → ((u : ℕ) → has big u ≡ true → has a u ≡ true)
      → IsFactor h o c a from k ds e → (u : ℕ) → has big u ≡ true → has c u ≡ true
  caught o a from k _ e w (whole d b) u i = d.complete u (link_to a w u (joined u i))
  caught o a from k _ _ w (summed {t = t} d ne n b) u i = n.complete u (wider h big t c u (λ x j. d.complete x (link_to a w x (joined x j))) (leads u i))
  caught o a from k _ e w (further {t = t} {a2 = a2} {ds = ds} d ne n m q b next) u i = caught o a2 (Source.Defined k) (suc k) ds e
      (λ x j. n.complete x (wider h big t c x (λ y l. d.complete y (link_to a w y (joined y l))) (leads x j))) next u i

-- ---- a hedge for the others and c in the graph without z
module _ (g : MixedGraph) (z c : ℕ) (s : SomeHedge (without g z) (minus (minus (all g.vertices) z) c) c) where
  others : ℕ
  others = minus (minus (all g.vertices) z) c

  hd : AreSetsOfHedge (without g z) (minus (minus (all g.vertices) z) c) c s.big s.small s.roots
  hd = s.hedge

  -- a path in the graph without z from a vertex outside the others begins in c
  path_in : (p : ℕ → Bool) (t : ℕ → Bool) (u : ℕ) (xs : List ℕ) (e : ℕ) → has (minus (minus (all g.vertices) z) c) u ≡ false
      → ((w : ℕ) → t w ≡ true → has c w ≡ true) → IsDirectedPath (induced (without g z) p) u xs e → t e ≡ true → has c u ≡ true
  path_in p t u [] e off w q i = w u (rw q i)
  path_in p t u (x ∷ xs) e off w q i = in_c g z c u (and_l (has (minus (all g.vertices) z) u) (has (minus (all g.vertices) z) x)
      (and_r (g.arrow u x) (has (minus (all g.vertices) z) u && has (minus (all g.vertices) z) x)
      (and_l (g.arrow u x && (has (minus (all g.vertices) z) u && has (minus (all g.vertices) z) x)) (p u && p x) q.0))) off

  roots_c : (u : ℕ) → has s.roots u ≡ true → has c u ≡ true
  unfolding hd
  roots_c u e = let r : IsAncestor (induced (without g z) (outside (minus (minus (all g.vertices) z) c))) (has c) u = hd.reaches u e in
      path_in (outside (minus (minus (all g.vertices) z) c)) (has c) u r.path r.end (hd.apart u (hd.roots_inside u e)) (λ w i. i) r.leads r.inside

  pub small_c : (u : ℕ) → has s.small u ≡ true → has c u ≡ true
  unfolding hd
  small_c u e = let r : IsAncestor (induced (without g z) (has s.small)) (has s.roots) u = hd.small_reaches u e in
      path_in (has s.small) (has s.roots) u r.path r.end (hd.apart u e) roots_c r.leads r.inside

  pub big_leads : (u : ℕ) → has s.big u ≡ true → IsAncestor (induced (without g z) (has s.big)) (has c) u
  unfolding hd
  big_leads u e = let r : IsAncestor (induced (without g z) (has s.big)) (has s.small) u = hd.big_reaches u e in
      record { vertex = r.vertex; path = r.path; end = r.end; leads = r.leads; inside = small_c r.end r.inside }

  pub anchor : ℕ
  anchor = s.hedge.rooted.vertex

  pub anchor_big : has s.big anchor ≡ true
  unfolding anchor
  anchor_big = s.hedge.small_inside s.hedge.rooted.vertex s.hedge.rooted.in_second

  pub anchor_c : has c anchor ≡ true
  unfolding anchor
  anchor_c = small_c s.hedge.rooted.vertex s.hedge.rooted.in_second

  pub big_joined : (u : ℕ) → has s.big u ≡ true → IsLinked (without g z) (has s.big) (λ w. eqb w anchor) u
  big_joined u e = s.hedge.big_joined u anchor e anchor_big

  -- big isn't inside c
  pub not_inside : ((u : ℕ) → has s.big u ≡ true → has c u ≡ true) → ⊥
  not_inside h = clash (has c s.hedge.meets.vertex) (h s.hedge.meets.vertex s.hedge.meets.in_first)
      (from_room g z c s.hedge.meets.vertex s.hedge.meets.in_second).1

  -- so c has no factor there
  pub no_factor : (k : ℕ) (ds : List Tree) (e : Tree) → IsFactorUnder g z c k ds e → ⊥
  no_factor k ds e t = not_inside (caught (without g z) c s.big anchor anchor_big anchor_c big_leads big_joined t.order t.a (Source.Under z) k ds e
      (λ u i. t.ancestors.complete u (wider (without g z) s.big (all g.vertices) c u (λ w j. all-is g.vertices w (s.hedge.low w j)) (big_leads u i))) t.factor)

pub chosen_free : (g : MixedGraph) (zs : List ℕ) (c k z : ℕ) (ds : List Tree) (e : Tree) → ComesFirst g c z (0 ∷ zs) → IsFactorUnder g z c k ds e
    → IsBlocked g zs c → ⊥
chosen_free g zs c k z ds e h t b = let q : Chosen c z (0 ∷ zs) = chosen g c z (0 ∷ zs) h in no_factor g z c (b z q.listed q.off) k ds e t

-- each district that has a factor is free
free_among : (g : MixedGraph) (zs : List ℕ) (c k : ℕ) (ts : List ℕ) (ds : List Tree) (fs : Trees) → AreFactoredWith g zs k ts ds fs → IsAmong c ts
    → IsBlocked g zs c → ⊥
free_among g zs c k _ _ _ AreFactoredWith.none m b = m
free_among g zs c k _ _ _ (AreFactoredWith.next {c = t} {z = z} {ds = ds} {e = e} h f r) (inl q) b =
    chosen_free g zs t k z ds e h f (subst (IsBlocked g zs) q b)
free_among g zs c k _ _ _ (AreFactoredWith.next {c = t} {cs = cs} {ds = ds} {es = es} {fs = fs} h f r) (inr m) b =
    free_among g zs c (k + length ds) cs es fs r m b

-- with no intervention no district is blocked
module _ (g : MixedGraph) (ok : IsMixedGraph g) (x y c d : ℕ) (none : x ≡ 0) (is_d : AreAncestorsIn g (minus (all g.vertices) x) y d) (part : IsPart g d c)
    (s : SomeHedge (without g 0) (minus (minus (all g.vertices) 0) c) c) where
  in_free : (u : ℕ) → u < g.vertices → has (minus (all g.vertices) x) u ≡ true
  in_free u l = has-minus (all g.vertices) x u ∙ both_true (has (all g.vertices) u) (not (has x u)) (all-is g.vertices u l)
      (not_i (has x u) (rw none (has-zero u)))

  d_above : (p u : ℕ) → g.arrow p u ≡ true → has d u ≡ true → has d p ≡ true
  d_above p u b i = let r : IsAncestor (induced g (has (minus (all g.vertices) x))) (has y) u = is_d.sound u i in is_d.complete p (record {
    vertex = ok.tail_below p u b;
    path = u ∷ r.path;
    end = r.end;
    leads = (
      both_true (g.arrow p u) (has (minus (all g.vertices) x) p && has (minus (all g.vertices) x) u) b
          (both_true (has (minus (all g.vertices) x) p) (has (minus (all g.vertices) x) u) (in_free p (ok.tail_below p u b)) (in_free u (ok.head_below p u b))),
      r.leads,
    );
    inside = r.inside;
  })

  big_d : (u : ℕ) → has s.big u ≡ true → has d u ≡ true
  big_d u e = closed_above (induced (without g 0) (has s.big)) (λ w. has d w ≡ true) (has c)
      (λ p w b i. d_above p w (and_l (g.arrow p w) (has (minus (all g.vertices) 0) p && has (minus (all g.vertices) 0) w)
      (and_l (g.arrow p w && (has (minus (all g.vertices) 0) p && has (minus (all g.vertices) 0) w)) (has s.big p && has s.big w) b)) i)
      (λ w i. part.t_in w i) u (big_leads g 0 c s u e)

  linked_c : (u : ℕ) → IsLinked (without g 0) (has s.big) (λ w. eqb w (anchor g 0 c s)) u → has c u ≡ true
  linked_c u (at e) = rw (eqb-true u (anchor g 0 c s) e) (anchor_c g 0 c s)
  linked_c u (by {v = w} i b r) = part.t_closed w u (ok.symmetric u w (and_l (g.both u w)
      (has (minus (all g.vertices) 0) u && has (minus (all g.vertices) 0) w) b)) (linked_c w r) (big_d u i)

  never_blocked : ⊥
  never_blocked = not_inside g 0 c s (λ u e. linked_c u (big_joined g 0 c s u e))

pub blocked_none : (g : MixedGraph) → IsMixedGraph g → (zs : List ℕ) (x y : ℕ) → SomeBlocked g zs x y → (f : PlainFormula) → IsSurrogate g zs x y f → ⊥
blocked_none g ok zs x y b f s = go s.answer
  where
    q : IsDistrictFor g x y b.district
    q = b.is_district

    order : IsOrderFrom g 0 q.order
    order = order_of g q.order q.is_order

    go : ((x ≡ 0) × (f ≡ record { defs = []; main = Rattle.prob_expr.specs.Tree.prob y 0 0 })) ⊎ ((x ≡ 0 → ⊥) × IsComposedOver g s.order zs x y f) → ⊥
    go (inl e) = never_blocked g ok x y b.district q.split.d e.0 q.split.is_d (part_among g q.split.d b.district q.split.districts
        (are_parts g ok q.split.d 0 q.order q.split.districts q.split.are_districts) (to_among b.district q.split.districts q.among))
        (b.blocked 0 (or_l (eqb 0 0) (is_listed 0 zs) refl) (zero_apart b.district))
    go (inr t) = free_among g zs b.district 0 t.1.split.districts f.defs t.1.factors t.1.are_factored (subst (IsAmong b.district) (sym same) q.among) b.blocked
      where
        same : t.1.split.districts ≡ q.split.districts
        same = same_districts g x y q.order s.order q.is_order s.is_order q.split t.1.split

-- ---- where a try stops, there is a hedge in the graph without z
module _ (g : MixedGraph) (ok : IsMixedGraph g) (d c : ℕ) (low : (u : ℕ) → has d u ≡ true → u < g.vertices) (part : IsPart g d c) (hm : IsHome g d c)
    (roots : ℕ) (are_roots : AreRoots g c roots) (o : List ℕ) (order : IsOrderFrom g 0 o) (z : ℕ) (off : is_apart z c ≡ true)
    (w : (big : ℕ) × IsStoppedUnder g z c big) where
  c_low : (u : ℕ) → has c u ≡ true → u < g.vertices
  c_low u e = low u (part.t_in u e)

  in_room : (u : ℕ) → has c u ≡ true → has (minus (all g.vertices) z) u ≡ true
  in_room u e = c_room g ok z c off c_low u e

  tgt : IsTarget (without g z) (minus (minus (all g.vertices) z) c) c
  tgt = record {
    x_low = λ u e. room_low g z u (from_room g z c u e).0;
    y_low = λ u e. low u (part.t_in u e);
    off = λ u e i. clash (has c u) i (from_room g z c u e).1;
    some = part.some;
    some_in = part.some_in;
  }

  is_c : AreAncestorsIn (without g z) (minus (all g.vertices) (minus (minus (all g.vertices) z) c)) c c
  is_c = record {
    sound = λ u e. record { vertex = c_low u e; path = []; end = u; leads = refl; inside = e };
    complete = λ u r. go u r.path r.end r.leads r.inside;
  }
    where
      go : (u : ℕ) (xs : List ℕ) (e : ℕ) → IsDirectedPath (induced (without g z) (has (minus (all g.vertices) (minus (minus (all g.vertices) z) c)))) u xs e
          → has c e ≡ true → has c u ≡ true
      go u [] e q i = rw q i
      go u (x ∷ xs) e q i = let a = and_l (g.arrow u x && (has (minus (all g.vertices) z) u && has (minus (all g.vertices) z) x))
          (has (minus (all g.vertices) (minus (minus (all g.vertices) z) c)) u && has (minus (all g.vertices) (minus (minus (all g.vertices) z) c)) x) q.0 in
          let f = and_l (has (minus (all g.vertices) (minus (minus (all g.vertices) z) c)) u)
          (has (minus (all g.vertices) (minus (minus (all g.vertices) z) c)) x)
          (and_r (g.arrow u x && (has (minus (all g.vertices) z) u && has (minus (all g.vertices) z) x))
          (has (minus (all g.vertices) (minus (minus (all g.vertices) z) c)) u && has (minus (all g.vertices) (minus (minus (all g.vertices) z) c)) x)
          q.0) in
          in_c g z c u (and_l (has (minus (all g.vertices) z) u) (has (minus (all g.vertices) z) x)
          (and_r (g.arrow u x) (has (minus (all g.vertices) z) u && has (minus (all g.vertices) z) x) a))
          (not_e (has (minus (minus (all g.vertices) z) c) u) (and_r (has (all g.vertices) u) (not (has (minus (minus (all g.vertices) z) c) u))
          (rw (has-minus (all g.vertices) (minus (minus (all g.vertices) z) c) u) at f)))

  own_part : IsPart (without g z) c c
  own_part = record { t_in = λ u e. e; t_closed = λ u v b i j. j; some = part.some; some_in = part.some_in }

  vertex_c : has c hm.vertex ≡ true
  vertex_c = hm.district.complete hm.vertex (at (one-self hm.vertex))

  own_home : IsHome (without g z) c c
  own_home = record {
    vertex = hm.vertex;
    in_d = vertex_c;
    district = record {
      sound = λ u e. link_in g (minus (all g.vertices) z) (has c) (has (one hm.vertex)) in_room
          (λ v i. rw (one-is hm.vertex v i) (in_room hm.vertex vertex_c)) u (kept_inside g ok d c (has (one hm.vertex)) u hm.district (hm.district.sound u e));
      complete = λ u r. go u r;
    };
  }
    where
      go : (u : ℕ) → IsLinked (without g z) (has c) (has (one hm.vertex)) u → has c u ≡ true
      go u (at e) = rw (one-is hm.vertex u e) vertex_c
      go u (by i b r) = i

  own_roots : AreRoots (without g z) c roots
  own_roots = record {
    sound = λ u e. let q = are_roots.sound u e in (
      q.0,
      (λ v b i. q.1 v
          (and_l (g.arrow u v) (has (minus (all g.vertices) z) u && has (minus (all g.vertices) z) v) b) i),
    );
    complete = λ u q. are_roots.complete u (
      q.0,
      (λ v b i. q.1 v (both_true (g.arrow u v)
          (has (minus (all g.vertices) z) u && has (minus (all g.vertices) z) v) b
          (both_true (has (minus (all g.vertices) z) u) (has (minus (all g.vertices) z) v) (in_room u q.0) (in_room v i))) i),
    );
  }

  pub stopped_hedge : SomeHedge (without g z) (minus (minus (all g.vertices) z) c) c
  stopped_hedge = record {
    big = w.0;
    small = c;
    roots = roots;
    hedge = hedge (without g z) (inner_graph g (minus (all g.vertices) z) ok) o (order_in g (minus (all g.vertices) z) 0 o order)
        (minus (minus (all g.vertices) z) c) c tgt c is_c c own_part own_home w.1.a w.0 w.1.stop roots own_roots;
  }

-- the district at which it stops
pub record StopAt (g : MixedGraph) (zs cs : List ℕ) (small big : ℕ) : Type 0 where
  pub among : IsAmong small cs
  pub stop : IsStoppedUnder g 0 small big
  pub all_stop : AllStop g small zs

pub stop_at : (g : MixedGraph) (zs : List ℕ) (k : ℕ) (cs : List ℕ) (small big : ℕ) → StopsWith g zs k cs small big → StopAt g zs cs small big
stop_at g zs k _ _ big (StopsWith.first s l) = record { among = inl refl; stop = s; all_stop = l }
stop_at g zs k _ small big (StopsWith.after {cs = cs} {ds = ds} h f r) = let q = stop_at g zs (k + length ds) cs small big r in
    record { among = inr q.among; stop = q.stop; all_stop = q.all_stop }

-- the districts before it have factors, and so aren't blocked
first_one : (g : MixedGraph) (zs : List ℕ) (k : ℕ) (cs : List ℕ) (small big : ℕ) → StopsWith g zs k cs small big → IsBlocked g zs small
    → IsFirstBlocked g zs small cs
first_one g zs k _ _ big (StopsWith.first s l) b = IsFirstBlocked.here b
first_one g zs k _ small big (StopsWith.after {c = c} {z = z} {cs = cs} {ds = ds} {e = e} h f r) b =
    IsFirstBlocked.after (chosen_free g zs c k z ds e h f) (first_one g zs (k + length ds) cs small big r b)

module _ (g : MixedGraph) (ok : IsMixedGraph g) (zs : List ℕ) (x y small big roots : ℕ) (tgt2 : IsTarget g x y) (s : IsStoppedWith g zs x y small big)
    (are : AreRoots g small roots) where
  o : IsOrderFrom g 0 s.order
  o = order_of g s.order s.is_order

  q : StopAt g zs s.split.districts small big
  q = stop_at g zs 0 s.split.districts small big s.stops

  part_of : IsPart g s.split.d small
  part_of = part_among g s.split.d small s.split.districts (are_parts g ok s.split.d 0 s.order s.split.districts s.split.are_districts)
      (to_among small s.split.districts q.among)

  home_at : IsHome g s.split.d small
  home_at = home_of g s.split.d 0 s.order s.split.districts small s.split.are_districts (to_among small s.split.districts q.among)

  d_below : (u : ℕ) → has s.split.d u ≡ true → u < g.vertices
  d_below = d_low g ok s.order o x y tgt2 s.split.d s.split.is_d

  small_below : (u : ℕ) → has small u ≡ true → u < g.vertices
  small_below u i = d_below u (part_of.t_in u i)

  pub own_hedge : AreSetsOfHedge g x y big small roots
  own_hedge = hedge g ok s.order o x y tgt2 s.split.d s.split.is_d small part_of home_at q.stop.a big
      (stopped_out g (minus (all g.vertices) 0) s.order small small_below q.stop.a big
      (a_room g ok 0 small (zero_apart small) small_below q.stop.a q.stop.ancestors)
      (c_in_a g ok 0 small (zero_apart small) small_below q.stop.a q.stop.ancestors) q.stop.stop) roots are

  stops_at : (z : ℕ) → (eqb z 0 ≡ true) ⊎ (is_listed z zs ≡ true) → is_apart z small ≡ true → (b : ℕ) × IsStoppedUnder g z small b
  stops_at z (inl e) off = (big, subst (λ w. IsStoppedUnder g w small big) (sym (eqb-true z 0 e)) q.stop)
  stops_at z (inr e) off = q.all_stop z e off

  blocked : IsBlocked g zs small
  blocked z e off = stopped_hedge g ok s.split.d small d_below part_of home_at roots are s.order o z off (stops_at z (or_e (eqb z 0) (is_listed z zs) e) off)

  pub first_blocked : IsFirstBlocked g zs small s.split.districts
  first_blocked = first_one g zs 0 s.split.districts small big s.stops blocked

  -- a stopped factor ends inside the set from which it starts
  stop_inside : (h : MixedGraph) → h.vertices ≡ g.vertices → (a t : ℕ) → IsStopped h small a t → ((v : ℕ) → has small v ≡ true → has a v ≡ true) → (v : ℕ)
      → has t v ≡ true → has a v ≡ true
  stop_inside h n a t (IsStopped.here p ne m) inside v e = inside_of g 0 h a small t inside p v e
  stop_inside h n a t (IsStopped.later {t = t'} {a2 = a2} p ne m r k rest) inside v e =
      inside_of g 0 h a small t' inside p v (above_inside g 0 h t' small a2 (λ u i. p.complete u (at i)) m v
      (stop_inside h n a2 t rest (λ u i. m.complete u (record { vertex = rw n (small_below u i); path = []; end = u; leads = refl; inside = i })) v e))

  -- the district stops under u too, and the hedge there leaves u alone
  pub apart_hedge : (u b : ℕ) → is_apart u small ≡ true → IsStoppedUnder g u small b → IsHedgeApart g x y u b small roots
  apart_hedge u b off w = record {
    hedge = hedge g ok s.order o x y tgt2 s.split.d s.split.is_d small part_of home_at w.a b
        (stopped_out g (minus (all g.vertices) u) s.order small small_below w.a b (a_room g ok u small off small_below w.a w.ancestors)
        (c_in_a g ok u small off small_below w.a w.ancestors) w.stop) roots are;
    apart = λ v e. not_e (has u v) (and_r (has (all g.vertices) v) (not (has u v)) (rw (has-minus (all g.vertices) u v) at
        (a_room g ok u small off small_below w.a w.ancestors v
        (stop_inside (without g u) refl w.a b w.stop (c_in_a g ok u small off small_below w.a w.ancestors) v e))));
  }

pub stop_under_has_hedge : StopUnderHasHedge
stop_under_has_hedge = λ g ok zs x y small first roots tgt s are u big off w. apart_hedge g ok zs x y small first roots tgt s are u big off w
