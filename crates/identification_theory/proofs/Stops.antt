-- Where a factor stops there is a hedge.
use Rattle.std.proofs.Common.{ℕ, zero, suc, ◌≡◌, ◌<◌, Bool, true, false, eqb, not, refl, sym, ◌∙◌, ◌||◌, ◌&&◌, ◌⊎◌, inl, inr, List, [], ◌∷◌, arith}
use Rattle.std.proofs.Common.{eqb-true, eq-eqb}
use Rattle.hedge.specs.Vocabulary.{at, by, AreDistricts, IsDistrict, IsJoinedSet, IsLinked, IsSetOf, Meets, Reaches, outside, LeadsInto, AreSetsOfHedge}
use Rattle.identification_theory.proofs.Accepted.{d_low, d_off, d_closed}
use Rattle.identification_theory.specs.AnswerLaws.{AreRoots}
use Rattle.identification_theory.proofs.Body.{HoldsParents, next_parents}
use Rattle.identification_theory.proofs.Bools.{and_l, and_r, both_true, clash, or_e}
use Rattle.identification_theory.proofs.Groups.{Among, IsPart}
use Rattle.identification_theory.proofs.Orders.{IsOrderFrom}
use Rattle.identification_theory.proofs.Sets.{all-is, empty-has, has-minus, not_empty, one-is, one-self}
use Rattle.identification_theory.specs.Procedure.IsStopped.{here, later}
use Rattle.identification_theory.specs.Procedure.{AreAncestorsIn, IsStopped, IsTarget}
use Rattle.mixed_graph.proofs.Masks.{has-or, has-zero, same_from_has}
use Rattle.mixed_graph.specs.Vocabulary.{has, IsAncestor, IsDirectedPath, IsMixedGraph, MixedGraph, induced, all, is_empty, union, minus, one}

pub ne_of : (i n : ℕ) → eqb i n ≡ false → i ≡ n → ⊥
ne_of i n e s = grind (arith, s, e)

-- a member below n of a test, or none
pub record Found (p : ℕ → Bool) : Type 0 where
  pub vertex : ℕ
  pub holds : p vertex ≡ true

pub search_below : (p : ℕ → Bool) (n : ℕ) → Found p ⊎ ((v : ℕ) → v < n → p v ≡ false)
search_below p zero = inr (λ v l. absurd (omega (arith, l)))
search_below p (suc n) = go (p n) refl (search_below p n)
  where
    go : (b : Bool) → p n ≡ b → Found p ⊎ ((v : ℕ) → v < n → p v ≡ false) → Found p ⊎ ((v : ℕ) → v < suc n → p v ≡ false)
    go true e r = inl (record { vertex = n; holds = e })
    go false e (inl f) = inl f
    go false e (inr h) = inr (λ v l. pick v l (eqb v n) refl)
      where
        pick : (v : ℕ) → v < suc n → (b : Bool) → eqb v n ≡ b → p v ≡ false
        pick v l true q = rw (eqb-true v n q) e
        pick v l false q = h v (let d : v ≡ n → ⊥ = λ s. absurd (grind (arith, s, q)) in omega (arith, l, d))

module _ (g : MixedGraph) (is_graph : IsMixedGraph g) where
  -- ---- links
  link_in : (a : ℕ → Bool) (v u : ℕ) → a v ≡ true → IsLinked g a (λ w. eqb w v) u → a u ≡ true
  link_in a v u i (at e) = rw (eqb-true u v e) i
  link_in a v u i (by j b r) = j

  link_through : (a : ℕ → Bool) (s : ℕ → Bool) (v u : ℕ) → ((w : ℕ) → s w ≡ true → IsLinked g a (λ x. eqb x v) w) → IsLinked g a s u
      → IsLinked g a (λ x. eqb x v) u
  link_through a s v u h (at e) = h u e
  link_through a s v u h (by {v = w} i b r) = by i b (link_through a s v w h r)

  link_back : (a : ℕ → Bool) (v u : ℕ) → a v ≡ true → IsLinked g a (λ w. eqb w v) u → IsLinked g a (λ w. eqb w u) v
  link_back a v u i (at e) = at (eq-eqb v u (sym (eqb-true u v e)))
  link_back a v u i (by {v = w} j b r) = link_through a (λ x. eqb x w) u v
      (λ x e. rw (eqb-true x w e) (by (link_in a v w i r) (is_graph.symmetric u w b) (at (eq-eqb u u refl)))) (link_back a v w i r)

  joined_by : (a v : ℕ) → has a v ≡ true → ((u : ℕ) → has a u ≡ true → IsLinked g (has a) (λ w. eqb w v) u) → IsJoinedSet g a
  joined_by a v i h u w iu iw = link_through (has a) (λ x. eqb x v) w u (λ x e. rw (eqb-true x v e) (link_back (has a) v w i (h w iw))) (h u iu)

  -- a link inside a to s is one inside the set of all that are so linked
  pub kept_inside : (a t : ℕ) (s : ℕ → Bool) (u : ℕ) → IsSetOf t (IsLinked g (has a) s) → IsLinked g (has a) s u → IsLinked g (has t) s u
  kept_inside a t s u k (at e) = at e
  kept_inside a t s u k (by {v = w} i b r) = by (k.complete u (by i b r)) b (kept_inside a t s w k r)

  one_test : (v w : ℕ) → has (one v) w ≡ true → eqb w v ≡ true
  one_test v w e = eq-eqb w v (one-is v w e)

  to_test : (a : ℕ → Bool) (v u : ℕ) → IsLinked g a (has (one v)) u → IsLinked g a (λ w. eqb w v) u
  to_test a v u (at e) = at (one_test v u e)
  to_test a v u (by i b r) = by i b (to_test a v _ r)

  pub district_joined : (d v t : ℕ) → IsDistrict g d (one v) t → IsJoinedSet g t
  district_joined d v t k = joined_by t v (k.complete v (at (one-self v))) (λ u e. to_test (has t) v u (kept_inside d t (has (one v)) u k (k.sound u e)))

  big_joined : (a c t v : ℕ) → IsDistrict g a c t → has c v ≡ true → IsJoinedSet g c → IsJoinedSet g t
  big_joined a c t v k i j = joined_by t v (k.complete v (at i)) (λ u e. link_through (has t) (has c) v u (λ w iw. wider v w (j w v iw i))
      (kept_inside a t (has c) u k (k.sound u e)))
    where
      wider : (v w : ℕ) → IsLinked g (has c) (λ x. eqb x v) w → IsLinked g (has t) (λ x. eqb x v) w
      wider v w (at e) = at e
      wider v w (by {v = z} i b r) = by (k.complete w (at i)) b (wider v z r)

  -- ---- roots
  pub record Root (c : ℕ) : Type 0 where
    pub vertex : ℕ
    pub inside : has c vertex ≡ true
    pub last : (u : ℕ) → g.arrow vertex u ≡ true → has c u ≡ true → ⊥

  root_from : (c p : ℕ) (o : List ℕ) → ((u : ℕ) → has c u ≡ true → u < g.vertices) → HoldsParents g p → IsOrderFrom g p o → is_empty (minus c p) ≡ false
      → Root c
  root_from c p [] low h order ne = absurd (clash (is_empty (minus c p))
      (eq-eqb (minus c p) 0 (same_from_has (minus c p) 0 (λ u. has-minus c p u ∙ (go u (has c u) refl ∙ sym (has-zero u))))) ne)
    where
      go : (u : ℕ) (b : Bool) → has c u ≡ b → (b && not (has p u)) ≡ false
      go u true e = rw (order, all-is g.vertices u (low u e)) refl
      go u false e = refl
  root_from c p (v ∷ o) low h order ne = go (is_empty (minus c (union p (one v)))) refl
      (λ q. root_from c (union p (one v)) o low (next_parents g p v h order.2) order.3 q)
    where
      go : (b : Bool) → is_empty (minus c (union p (one v))) ≡ b → (is_empty (minus c (union p (one v))) ≡ false → Root c) → Root c
      go false q f = f q
      go true q f = record { vertex = v; inside = in_c (has c v) refl; last = none }
        where
          out : (u : ℕ) → has c u ≡ true → (has p u ≡ true) ⊎ (has (one v) u ≡ true)
          out u i = or_e (has p u) (has (one v) u) (sym (has-or p (one v) u)
              ∙ bools (has c u) (has (union p (one v)) u) i (sym (has-minus c (union p (one v)) u) ∙ empty-has (minus c (union p (one v))) u q))
            where
              bools : (x y : Bool) → x ≡ true → (x && not y) ≡ false → y ≡ true
              bools x y h1 h2 = grind (arith, h1, h2)

          in_c : (b : Bool) → has c v ≡ b → has c v ≡ true
          in_c true e = e
          in_c false e = absurd (clash (is_empty (minus c p)) (eq-eqb (minus c p) 0
              (same_from_has (minus c p) 0 (λ u. has-minus c p u ∙ (go2 u (has c u) refl ∙ sym (has-zero u))))) ne)
            where
              go2 : (u : ℕ) (b : Bool) → has c u ≡ b → (b && not (has p u)) ≡ false
              go2 u false i = refl
              go2 u true i = case (out u i)
                where
                  case : (has p u ≡ true) ⊎ (has (one v) u ≡ true) → (true && not (has p u)) ≡ false
                  case (inl s) = rw s refl
                  case (inr s) = absurd (clash (has c v) (rw (one-is v u s) at i) e)

          none : (u : ℕ) → g.arrow v u ≡ true → has c u ≡ true → ⊥
          none u a i = pick (out u i)
            where
              pick : (has p u ≡ true) ⊎ (has (one v) u ≡ true) → ⊥
              pick (inl s) = clash (has p v) (h v u a s) order.1
              pick (inr s) = clash (has p v) (order.2 v (rw (one-is v u s) at a)) order.1

  -- from each member of c a directed path inside c leads to one without a child in c
  reaches_from : (c r p : ℕ) (o : List ℕ) → ((u : ℕ) → has c u ≡ true → has r u ≡ false → LeadsInto g c u) → HoldsParents g p → IsOrderFrom g p o
      → (u : ℕ) → u < g.vertices → has c u ≡ true → has p u ≡ false → IsAncestor (induced g (has c)) (has r) u
  reaches_from c r p [] lead h order u l i n = absurd (clash (has p u) (rw order (all-is g.vertices u l)) n)
  reaches_from c r p (v ∷ o) lead h order u l i n = go (eqb u v) refl (λ w lw iw nw. reaches_from c r (union p (one v)) o lead (next_parents g p v h order.2)
      order.3 w lw iw nw)
    where
      out : (w : ℕ) → has p w ≡ false → (w ≡ v → ⊥) → has (union p (one v)) w ≡ false
      out w q ne = has-or p (one v) w ∙ rw q (other (has (one v) w) refl)
        where
          other : (b : Bool) → has (one v) w ≡ b → (false || has (one v) w) ≡ false
          other true e = absurd (ne (one-is v w e))
          other false e = rw e refl

      off_p : (w : ℕ) → g.arrow u w ≡ true → has p w ≡ false
      off_p w a = other (has p w) refl
        where
          other : (b : Bool) → has p w ≡ b → has p w ≡ false
          other true e = absurd (clash (has p u) (h u w a e) n)
          other false e = e

      go : (b : Bool) → eqb u v ≡ b → ((w : ℕ) → w < g.vertices → has c w ≡ true → has (union p (one v)) w ≡ false → IsAncestor (induced g (has c)) (has r) w)
          → IsAncestor (induced g (has c)) (has r) u
      go false e f = f u l i (out u n (ne_of u v e))
      go true e f = here_or (has r u) refl
        where
          here_or : (b : Bool) → has r u ≡ b → IsAncestor (induced g (has c)) (has r) u
          here_or true q = record { vertex = l; path = []; end = u; leads = refl; inside = q }
          here_or false q = let k = lead u i q in
              let rest : IsAncestor (induced g (has c)) (has r) k.child =
              f k.child (is_graph.head_below u k.child k.arrow) k.within (out k.child (off_p k.child k.arrow)
              (λ s. clash (has p u) (order.2 u (rw s at k.arrow)) n)) in
              record {
                vertex = l;
                path = k.child ∷ rest.path;
                end = rest.end;
                leads = (both_true (g.arrow u k.child) (has c u && has c k.child) k.arrow (both_true (has c u) (has c k.child) i k.within), rest.leads);
                inside = rest.inside;
              }

-- ---- where a factor is stuck
pub record Stuck (g : MixedGraph) (c t : ℕ) : Type 0 where
  pub a : ℕ
  pub district : IsDistrict g a c t
  pub larger : t ≡ c → ⊥
  pub all_lead : AreAncestorsIn g t c t

pub stuck : (g : MixedGraph) (c a t : ℕ) → IsStopped g c a t → Stuck g c t
stuck g c a t (here d ne n) = record { a = a; district = d; larger = ne; all_lead = n }
stuck g c a t (later {a2 = a2} d ne n m q r) = stuck g c a2 t r

-- each district of the list is the district of a vertex
pub record IsHome (g : MixedGraph) (d t : ℕ) : Type 0 where
  pub vertex : ℕ
  pub in_d : has d vertex ≡ true
  pub district : IsDistrict g d (one vertex) t

-- each entry of the list of the districts of d is the district of a vertex of d
pub home_of : (g : MixedGraph) (d seen : ℕ) (o ts : List ℕ) (t : ℕ) → AreDistricts g d seen o ts → Among t ts → IsHome g d t
home_of g d seen _ _ t AreDistricts.none m = absurd m
home_of g d seen _ _ t (AreDistricts.skip {o = o} {ts = ts} q r) m = home_of g d seen o ts t r m
home_of g d seen _ _ t (AreDistricts.take {v = v} {t = s} {o = o} {ts = ts} i n k r) (inl e) = record { vertex = v; in_d = i; district = rw e k }
home_of g d seen _ _ t (AreDistricts.take {v = v} {t = s} {o = o} {ts = ts} i n k r) (inr m) = home_of g d (union seen s) o ts t r m

module _ (g : MixedGraph) (is_graph : IsMixedGraph g) (o : List ℕ) (order : IsOrderFrom g 0 o) (x y : ℕ) (tgt : IsTarget g x y) (d : ℕ)
    (is_d : AreAncestorsIn g (minus (all g.vertices) x) y d) (c : ℕ) (k : IsPart g d c) (hm : IsHome g d c) (a t : ℕ) (stops : IsStopped g c a t) where
  s : Stuck g c t
  s = stuck g c a t stops

  -- a path among the vertices outside x is one outside x
  outside_x : (u : ℕ) → IsAncestor (induced g (has (minus (all g.vertices) x))) (has y) u → Reaches g x y u
  outside_x u r = record { vertex = r.vertex; path = r.path; end = r.end; leads = go u r.path r.leads; inside = r.inside }
    where
      off : (w : ℕ) → has (minus (all g.vertices) x) w ≡ true → not (has x w) ≡ true
      off w e = and_r (has (all g.vertices) w) (not (has x w)) (sym (has-minus (all g.vertices) x w) ∙ e)

      go : (u : ℕ) (xs : List ℕ) → IsDirectedPath (induced g (has (minus (all g.vertices) x))) u xs r.end → IsDirectedPath (induced g (outside x)) u xs r.end
      go u [] p = p
      go u (w ∷ xs) p = let q : (has (minus (all g.vertices) x) u && has (minus (all g.vertices) x) w) ≡ true =
          and_r (g.arrow u w) (has (minus (all g.vertices) x) u && has (minus (all g.vertices) x) w) p.0 in (
            both_true (g.arrow u w) (not (has x u) && not (has x w)) (and_l (g.arrow u w) (has (minus (all g.vertices) x) u && has (minus (all g.vertices) x) w)
                p.0)
                (both_true (not (has x u)) (not (has x w)) (off u (and_l (has (minus (all g.vertices) x) u) (has (minus (all g.vertices) x) w) q))
                (off w (and_r (has (minus (all g.vertices) x) u) (has (minus (all g.vertices) x) w) q))),
            go w xs p.1,
          )

  c_in_t : (u : ℕ) → has c u ≡ true → has t u ≡ true
  c_in_t u e = s.district.complete u (at e)

  -- big lies below n: it is above small by arrows
  t_low : (u : ℕ) → has t u ≡ true → u < g.vertices
  t_low u e = go u r.path r.leads
    where
      r : IsAncestor (induced g (has t)) (has c) u
      r = s.all_lead.sound u e

      go : (u : ℕ) (xs : List ℕ) → IsDirectedPath (induced g (has t)) u xs r.end → u < g.vertices
      go u [] p = d_low g is_graph o order x y tgt d is_d u (k.t_in u (rw p r.inside))
      go u (w ∷ xs) p = is_graph.tail_below u w (and_l (g.arrow u w) (has t u && has t w) p.0)

  -- were big outside x, it would be small
  pub meets : Meets (has t) (has x)
  meets = go (search_below (λ v. has t v && has x v) g.vertices)
    where
      all_out : ((v : ℕ) → v < g.vertices → (has t v && has x v) ≡ false) → ⊥
      all_out h = s.larger (same_from_has t c (λ u. bools (has t u) (has c u) (t_in_c u) (c_in_t u)))
        where
          bools : (p q : Bool) → (p ≡ true → q ≡ true) → (q ≡ true → p ≡ true) → p ≡ q
          bools p q h1 h2 = grind (arith, h1, h2)

          t_off : (u : ℕ) → has t u ≡ true → has x u ≡ false
          t_off u e = one_ (has t u) (has x u) e (h u (t_low u e))
            where
              one_ : (p q : Bool) → p ≡ true → (p && q) ≡ false → q ≡ false
              one_ p q h1 h2 = grind (arith, h1, h2)

          t_in_d : (u : ℕ) → has t u ≡ true → has d u ≡ true
          t_in_d u e = go u r.path r.leads
            where
              r : IsAncestor (induced g (has t)) (has c) u
              r = s.all_lead.sound u e

              go : (u : ℕ) (xs : List ℕ) → IsDirectedPath (induced g (has t)) u xs r.end → has d u ≡ true
              go u [] p = k.t_in u (rw p r.inside)
              go u (w ∷ xs) p = d_closed g is_graph o order x y tgt d is_d u w (and_l (g.arrow u w) (has t u && has t w) p.0)
                  (t_off u (and_l (has t u) (has t w) (and_r (g.arrow u w) (has t u && has t w) p.0))) (go w xs p.1)

          in_c : (u : ℕ) → IsLinked g (has s.a) (has c) u → has c u ≡ true
          in_c u (at e) = e
          in_c u (by {v = w} i b r) = k.t_closed w u (is_graph.symmetric u w b) (in_c w r) (t_in_d u (s.district.complete u (by i b r)))

          t_in_c : (u : ℕ) → has t u ≡ true → has c u ≡ true
          t_in_c u e = in_c u (s.district.sound u e)

      go : Found (λ v. has t v && has x v) ⊎ ((v : ℕ) → v < g.vertices → (has t v && has x v) ≡ false) → Meets (has t) (has x)
      go (inl f) = record {
        vertex = f.vertex;
        in_first = and_l (has t f.vertex) (has x f.vertex) f.holds;
        in_second = and_r (has t f.vertex) (has x f.vertex) f.holds;
      }
      go (inr h) = absurd (all_out h)

  big_leads : (u : ℕ) → has t u ≡ true → has c u ≡ false → LeadsInto g t u
  big_leads u e n = go r.path r.leads
    where
      r : IsAncestor (induced g (has t)) (has c) u
      r = s.all_lead.sound u e

      go : (xs : List ℕ) → IsDirectedPath (induced g (has t)) u xs r.end → LeadsInto g t u
      go [] p = absurd (clash (has c u) (rw p r.inside) n)
      go (w ∷ xs) p = record {
        child = w;
        arrow = and_l (g.arrow u w) (has t u && has t w) p.0;
        within = and_r (has t u) (has t w) (and_r (g.arrow u w) (has t u && has t w) p.0);
      }

  module _ (roots : ℕ) (are_roots : AreRoots g c roots) where
    small_leads : (u : ℕ) → has c u ≡ true → has roots u ≡ false → LeadsInto g c u
    small_leads u e n = go (search_below (λ w. g.arrow u w && has c w) g.vertices)
      where
        none : ((w : ℕ) → w < g.vertices → (g.arrow u w && has c w) ≡ false) → (w : ℕ) → g.arrow u w ≡ true → has c w ≡ true → ⊥
        none h w b i = clash (g.arrow u w && has c w) (both_true (g.arrow u w) (has c w) b i) (h w (is_graph.head_below u w b))

        go : Found (λ w. g.arrow u w && has c w) ⊎ ((w : ℕ) → w < g.vertices → (g.arrow u w && has c w) ≡ false) → LeadsInto g c u
        go (inl f) = record {
          child = f.vertex;
          arrow = and_l (g.arrow u f.vertex) (has c f.vertex) f.holds;
          within = and_r (g.arrow u f.vertex) (has c f.vertex) f.holds;
        }
        go (inr h) = absurd (clash (has roots u) (are_roots.complete u (e, none h)) n)

    some_root : Root g is_graph c
    some_root = root_from g is_graph c 0 o (λ u e. d_low g is_graph o order x y tgt d is_d u (k.t_in u e))
        (λ w u b i. absurd (clash (has 0 u) i (has-zero u))) order
        (not_empty (minus c 0) k.some (has-minus c 0 k.some ∙ rw (k.some_in, has-zero k.some) refl))

    -- the district c and the larger t where its factor stops are the sets of a hedge for the effect of x on y
    pub hedge : AreSetsOfHedge g x y t c roots
    hedge = record {
      low = t_low;
      small_inside = c_in_t;
      roots_inside = λ u e. (are_roots.sound u e).0;
      rooted = record {
        vertex = some_root.vertex;
        in_first = are_roots.complete some_root.vertex (some_root.inside, some_root.last);
        in_second = some_root.inside;
      };
      meets = meets;
      apart = λ u e. d_off g is_graph o order x y tgt d is_d u (k.t_in u e);
      small_leads = small_leads;
      big_leads = big_leads;
      small_reaches = λ u e. reaches_from g is_graph c roots 0 o small_leads (λ w u b i. absurd (clash (has 0 u) i (has-zero u))) order u
          (d_low g is_graph o order x y tgt d is_d u (k.t_in u e)) e (has-zero u);
      big_reaches = λ u e. s.all_lead.sound u e;
      small_joined = district_joined g is_graph d hm.vertex c hm.district;
      big_joined = big_joined g is_graph s.a c t k.some s.district k.some_in (district_joined g is_graph d hm.vertex c hm.district);
      reaches = λ u e. outside_x u (is_d.sound u (k.t_in u (are_roots.sound u e).0));
    }
