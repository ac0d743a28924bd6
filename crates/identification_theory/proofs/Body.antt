-- The whole body of a factor.
use Rattle.std.proofs.Common.{ℕ, suc, ◌≡◌, ◌<◌, Bool, true, false, cond, eqb, leb, not, refl, sym, ap, subst, ◌∙◌, ◌||◌, ◌&&◌, ◌⊎◌, inl, inr, List}
use Rattle.std.proofs.Common.{[], ◌∷◌, length, arith, eqb-true, eq-eqb, le-leb}
use Rattle.hedge.specs.Vocabulary.{at, by, IsLinked}
use Rattle.do_derivation.specs.Plans.{Plans}
use Rattle.do_derivation.specs.declared.faults.StepFault.TheVariants.{BadOrder}
use Rattle.do_derivation.specs.Vocabulary.{no_plans, as_one, chained, is_list_of, MakesAll}
use Rattle.do_derivation.specs.Table.{Row}
use Rattle.identification_theory.proofs.Bodies.{IsCited, IsLow, source_made, EachMade, each_made}
use Rattle.identification_theory.proofs.Bools.{and_l, and_r, both_true, clash, decide, not_i, or_e, or_l, or_r}
use Rattle.identification_theory.proofs.Nesting.{steps_more, each_at, place_deep, are_lists_to}
use Rattle.identification_theory.proofs.Orders.{IsOrderFrom}
use Rattle.identification_theory.proofs.Places.{made_if, place_made}
use Rattle.identification_theory.proofs.Separations.{IsPlace}
use Rattle.identification_theory.proofs.Sets.{all-below, all-is, alone, empty-has, has-minus, one-is, one-self}
use Rattle.identification_theory.specs.Depth.{are_plans_within}
use Rattle.identification_theory.specs.Procedure.AreFactors.{none, skip, take}
use Rattle.identification_theory.specs.Procedure.{AreFactors, IsBody, IsParent, IsPillow, Source, conditional}
use Rattle.mixed_graph.proofs.Masks.{has-and, has-or, has-zero, same_from_has}
use Rattle.mixed_graph.specs.Vocabulary.{has, IsMixedGraph, MixedGraph, induced, all, is_empty, union, minus, one, common}
use Rattle.prob_expr.specs.Tree.{Tree, prob, product, tree}
use Rattle.prob_expr.specs.Vocabulary.{Trees, no_trees}
use Rattle.identification_theory.specs.Derivations.{ArePlaceLists, AreBodySteps, Lists, no_more, more, in_order, universe, source_steps, place_list, body_steps}

-- a district t of a, where a holds what leads to it from the universe
pub record IsSite (g : MixedGraph) (from : Source) (a t : ℕ) : Type 0 where
  pub low : (u : ℕ) → has a u ≡ true → u < g.vertices
  pub closed : (p u : ℕ) → g.arrow p u ≡ true → has (universe g.vertices from a) p ≡ true → has a u ≡ true → has a p ≡ true
  pub t_in : (u : ℕ) → has t u ≡ true → has a u ≡ true
  pub t_closed : (u w : ℕ) → g.both u w ≡ true → has t u ≡ true → has a w ≡ true → has t w ≡ true
  pub some : ℕ
  pub some_in : has t some ≡ true

pub in_order-take : (t v : ℕ) (o : List ℕ) → has t v ≡ true → in_order t (v ∷ o) ≡ v ∷ in_order t o
in_order-take t v o e = rw e refl

pub in_order-skip : (t v : ℕ) (o : List ℕ) → has t v ≡ false → in_order t (v ∷ o) ≡ in_order t o
in_order-skip t v o e = rw e refl

-- no member of a is set by the experiment
abbrev pub IsOutside : Source → ℕ → Type 0
IsOutside (Source.Under z) a = (u : ℕ) → has a u ≡ true → has z u ≡ false
IsOutside (Source.Defined k) a = Unit {0}

-- the source's universe lies in the room, the vertices of the graph that is ordered
pub record IsHeld (n room : ℕ) (from : Source) (a : ℕ) : Type 0 where
  pub low : IsLow n from
  pub outside : IsOutside from a
  pub inside : (u : ℕ) → has (universe n from a) u ≡ true → has room u ≡ true

pub universe_in : (n : ℕ) (from : Source) (a u : ℕ) → IsOutside from a → ((u : ℕ) → has a u ≡ true → u < n) → has a u ≡ true → has (universe n from a) u ≡ true
universe_in n (Source.Under z) a u off low e = has-minus (all n) z u ∙ both_true (has (all n) u) (not (has z u)) (all-is n u (low u e))
    (not_i (has z u) (off u e))
universe_in n (Source.Defined k) a u off low e = e

universe_low : (n : ℕ) (from : Source) (a u : ℕ) → ((u : ℕ) → has a u ≡ true → u < n) → has (universe n from a) u ≡ true → u < n
universe_low n (Source.Under z) a u low e = all-below n u (and_l (has (all n) u) (not (has z u)) (rw (has-minus (all n) z u) at e))
universe_low n (Source.Defined k) a u low e = low u e

pub lists : (g : MixedGraph) (from : Source) (a t p : ℕ) (o : List ℕ) (fs : Trees) → AreFactors g from a t p o fs → Lists
lists g from a t p [] fs none = no_more
lists g from a t p (v ∷ o) fs (skip q r) = lists g from a t (union p (one v)) o fs r
lists g from a t p (v ∷ o) (tree e fs) (take {m = m} q pl r) = more (place_list p (universe g.vertices from a) a t m (source_steps from a v m))
    (lists g from a t (union p (one v)) o fs r)

lists_are : (g : MixedGraph) (from : Source) (a t p : ℕ) (o : List ℕ) (fs : Trees) (r : AreFactors g from a t p o fs)
    → ArePlaceLists g from a t p o (lists g from a t p o fs r)
unfolding lists
lists_are g from a t p [] fs none = ArePlaceLists.none
lists_are g from a t p (v ∷ o) fs (skip q r) = ArePlaceLists.skip q (lists_are g from a t (union p (one v)) o fs r)
lists_are g from a t p (v ∷ o) (tree e fs) (take {m = m} q pl r) = ArePlaceLists.take q pl (lists_are g from a t (union p (one v)) o fs r)

-- p holds the parents of its members
abbrev pub HoldsParents : MixedGraph → ℕ → Type 0
HoldsParents g p = (w u : ℕ) → g.arrow w u ≡ true → has p u ≡ true → has p w ≡ true

pub next_parents : (g : MixedGraph) (p v : ℕ) → HoldsParents g p → ((u : ℕ) → g.arrow u v ≡ true → has p u ≡ true) → HoldsParents g (union p (one v))
next_parents g p v h q w u b i = has-or p (one v) w ∙ or_l (has p w) (has (one v) w) (go (or_e (has p u) (has (one v) u) (rw (has-or p (one v) u) at i)))
  where
    go : (has p u ≡ true) ⊎ (has (one v) u ≡ true) → has p w ≡ true
    go (inl i) = h w u b i
    go (inr i) = q w (rw (one-is v u i) at b)

-- an order is one of each induced graph
pub order_in : (g : MixedGraph) (s p : ℕ) (o : List ℕ) → IsOrderFrom g p o → IsOrderFrom (induced g (has s)) p o
order_in g s p [] r = r
order_in g s p (v ∷ o) r = (r.0, r.1, (λ u b. r.2 u (and_l (g.arrow u v) (has s u && has s v) b)), order_in g s (union p (one v)) o r.3)

module _ (g : MixedGraph) (is_graph : IsMixedGraph g) (room : ℕ) (from : Source) (a t : ℕ) (held : IsHeld g.vertices room from a)
    (site : IsSite g from a t) where
  ordered : MixedGraph
  ordered = induced g (has room)

  both_in : (w u : ℕ) → g.arrow w u ≡ true → has (universe g.vertices from a) w ≡ true → has (universe g.vertices from a) u ≡ true
      → (induced g (has room)).arrow w u ≡ true
  both_in w u b i j = both_true (g.arrow w u) (has room w && has room u) b (both_true (has room w) (has room u) (held.inside w i) (held.inside u j))

  place : (p v : ℕ) → HoldsParents (induced g (has room)) p → has t v ≡ true → has p v ≡ false
      → ((u : ℕ) → (induced g (has room)).arrow u v ≡ true → has p u ≡ true) → IsPlace g (has p) (has (universe g.vertices from a)) (has a) (has t) v
  place p v h iv nv q = record {
    a_in = λ u e. universe_in g.vertices from a u held.outside site.low e;
    a_closed = λ w u b i e. site.closed w u b i e;
    t_in = site.t_in;
    t_closed = site.t_closed;
    v_in = iv;
    prior_closed = λ w u b i j e. h w u (both_in w u b i j) e;
    prior_v = λ w b i. q w (both_in w v b i (universe_in g.vertices from a v held.outside site.low (site.t_in v iv)));
    not_self = λ e. clash (has p v) e nv;
  }

  -- one place, from the chain's term to the factor
  pub place_whole : (p v m w : ℕ) → HoldsParents (induced g (has room)) p → has t v ≡ true → has p v ≡ false
      → ((u : ℕ) → (induced g (has room)).arrow u v ≡ true → has p u ≡ true) → IsPillow g (union (common a p) (one v)) v m → w ≡ common t p
      → (ls : List ℕ) → IsCited ls from a
      → MakesAll g ls (place_list p (universe g.vertices from a) a t m (source_steps from a v m)) (prob (one v) (minus (all g.vertices) t) w)
      (conditional from a v m)
  place_whole p v m w h iv nv q pl same ls c = place_made g is_graph p (universe g.vertices from a) a t v m (place p v h iv nv q) D d_in
      (at (eq-eqb v v refl)) d_closed m_in m_d m_parent
      (λ u e. universe_low g.vertices from a u site.low e) w w_is w_in ls (source_steps from a v m) (conditional from a v m)
      (source_made g ls from a v m held.low c site.low (site.t_in v iv) (λ u e. (m_in u e).0))
    where
      D : ℕ → Type 0
      D = IsLinked g (has (union (common a p) (one v))) (λ u. eqb u v)

      in_s : (u : ℕ) → has (union (common a p) (one v)) u ≡ true → (has a u ≡ true) × ((has p u ≡ true) ⊎ (u ≡ v))
      in_s u e = go (or_e (has (common a p) u) (has (one v) u) (rw (has-or (common a p) (one v) u) at e))
        where
          go : (has (common a p) u ≡ true) ⊎ (has (one v) u ≡ true) → (has a u ≡ true) × ((has p u ≡ true) ⊎ (u ≡ v))
          go (inl i) = let j : (has a u && has p u) ≡ true = rw (has-and a p u) at i in (and_l (has a u) (has p u) j, inl (and_r (has a u) (has p u) j))
          go (inr i) = (rw (one-is v u i) (site.t_in v iv), inr (one-is v u i))

      to_s : (u : ℕ) → has a u ≡ true → (has p u ≡ true) ⊎ (u ≡ v) → has (union (common a p) (one v)) u ≡ true
      to_s u ea (inl ep) = has-or (common a p) (one v) u ∙ or_l (has (common a p) u) (has (one v) u) (has-and a p u ∙ both_true (has a u) (has p u) ea ep)
      to_s u ea (inr e) = has-or (common a p) (one v) u ∙ or_r (has (common a p) u) (has (one v) u) (rw e (one-self v))

      d_in : (u : ℕ) → IsLinked g (has (union (common a p) (one v))) (λ w. eqb w v) u → (has a u ≡ true) × ((has p u ≡ true) ⊎ (u ≡ v))
      d_in u (at e) = (rw (eqb-true u v e) (site.t_in v iv), inr (eqb-true u v e))
      d_in u (by s b r) = in_s u s

      d_closed : (u w : ℕ) → g.both u w ≡ true → D u → has a w ≡ true → (has p w ≡ true) ⊎ (w ≡ v) → D w
      d_closed u w b d aw e = by (to_s w aw e) (is_graph.symmetric u w b) d

      prior_or : (u : ℕ) → (u ≡ v → ⊥) → (has a u ≡ true) × ((has p u ≡ true) ⊎ (u ≡ v)) → (has a u ≡ true) × (has p u ≡ true)
      prior_or u ne (ea, inl e) = (ea, e)
      prior_or u ne (ea, inr e) = absurd (ne e)

      m_in : (u : ℕ) → has m u ≡ true → (has a u ≡ true) × (has p u ≡ true)
      m_in u e = go (pl.sound u e)
        where
          go : (u ≡ v → ⊥) × (IsLinked g (has (union (common a p) (one v))) (λ w. eqb w v) u
              ⊎ ((has (union (common a p) (one v)) u ≡ true) × IsParent g (IsLinked g (has (union (common a p) (one v))) (λ w. eqb w v)) u)) → (has a u ≡ true)
              × (has p u ≡ true)
          go (ne, inl d) = prior_or u ne (d_in u d)
          go (ne, inr d) = prior_or u ne (in_s u d.0)

      not_v : (u : ℕ) → has p u ≡ true → u ≡ v → ⊥
      not_v u e s = clash (has p v) (rw s at e) nv

      m_d : (u : ℕ) → D u → has p u ≡ true → has m u ≡ true
      m_d u d e = pl.complete u (not_v u e, inl d)

      m_parent : (w u : ℕ) → g.arrow w u ≡ true → D u → has a w ≡ true → has p w ≡ true → has m w ≡ true
      m_parent w u b d aw pw = pl.complete w (not_v w pw, inr (to_s w aw (inl pw), record { child = u; arrow = b; within = d }))

      w_is : (u : ℕ) → has t u ≡ true → has p u ≡ true → has w u ≡ true
      w_is u et ep = rw same (has-and t p u ∙ both_true (has t u) (has p u) et ep)

      w_in : (u : ℕ) → has w u ≡ true → (has t u ≡ true) × (has p u ≡ true)
      w_in u e = let j : (has t u && has p u) ≡ true = rw (has-and t p u) at (rw same at e) in (and_l (has t u) (has p u) j, and_r (has t u) (has p u) j)

  pub each_place : (ls : List ℕ) → IsCited ls from a → (p w : ℕ) (o : List ℕ) (fs : Trees) (r : AreFactors g from a t p o fs)
      → HoldsParents (induced g (has room)) p → IsOrderFrom (induced g (has room)) p o → w ≡ common t p
      → EachMade g ls (lists g from a t p o fs r) (chained (minus (all g.vertices) t) w (in_order t o)) fs
  unfolding lists
  each_place ls c p w [] fs none h order same = tt
  each_place ls c p w (v ∷ o) fs (skip q r) h order same = subst (λ z. EachMade g ls (lists g from a t (union p (one v)) o fs r)
      (chained (minus (all g.vertices) t) w z) fs) (sym (in_order-skip t v o q))
      (each_place ls c (union p (one v)) w o fs r (next_parents (induced g (has room)) p v h order.2) order.3
      (same ∙ same_from_has (common t p) (common t (union p (one v))) alike))
    where
      alike : (u : ℕ) → has (common t p) u ≡ has (common t (union p (one v))) u
      alike u = has-and t p u ∙ (go (decide (has (one v) u)) ∙ sym (has-and t (union p (one v)) u ∙ ap (λ b. has t u && b) (has-or p (one v) u)))
        where
          go : (has (one v) u ≡ true) ⊎ (has (one v) u ≡ false) → (has t u && has p u) ≡ (has t u && (has p u || has (one v) u))
          go (inl e) = let z : has t u ≡ false = rw (one-is v u e) q in rw z refl
          go (inr e) = rw e (bools (has t u) (has p u))
            where
              bools : (x y : Bool) → (x && y) ≡ (x && (y || false))
              bools x y = grind arith
  each_place ls c p w (v ∷ o) (tree e fs) (take {m = m} q pl r) h order same =
      subst (λ z. EachMade g ls (more (place_list p (universe g.vertices from a) a t m (source_steps from a v m)) (lists g from a t (union p (one v)) o fs r))
      (chained (minus (all g.vertices) t) w z) (tree (conditional from a v m) fs)) (sym (in_order-take t v o q)) (
        place_whole p v m w h q order.1 order.2 pl same ls c,
        each_place ls c (union p (one v)) (union w (one v)) o fs r
            (next_parents (induced g (has room)) p v h order.2) order.3 (same_from_has (union w (one v)) (common t (union p (one v))) alike),
      )
    where
      alike : (u : ℕ) → has (union w (one v)) u ≡ has (common t (union p (one v))) u
      alike u = (has-or w (one v) u ∙ ap (λ b. b || has (one v) u) (ap (λ z. has z u) same ∙ has-and t p u))
          ∙ (go (decide (has (one v) u)) ∙ sym (has-and t (union p (one v)) u ∙ ap (λ b. has t u && b) (has-or p (one v) u)))
        where
          go : (has (one v) u ≡ true) ⊎ (has (one v) u ≡ false) → ((has t u && has p u) || has (one v) u) ≡ (has t u && (has p u || has (one v) u))
          go (inl e) = let z : has t u ≡ true = rw (one-is v u e) q in rw (e, z) (bools (has p u))
            where
              bools : (x : Bool) → ((true && x) || true) ≡ (true && (x || true))
              bools x = grind arith
          go (inr e) = rw e (bools (has t u) (has p u))
            where
              bools : (x y : Bool) → ((x && y) || false) ≡ (x && (y || false))
              bools x y = grind arith

  pub is_list : (p : ℕ) (o : List ℕ) → IsOrderFrom (induced g (has room)) p o → is_list_of (in_order t o) (minus t p) ≡ true
  is_list p [] order = eq-eqb (minus t p) 0 (same_from_has (minus t p) 0 (λ u. has-minus t p u ∙ (go u (has t u) refl ∙ sym (has-zero u))))
    where
      go : (u : ℕ) (b : Bool) → has t u ≡ b → (b && not (has p u)) ≡ false
      go u true e = rw (order, all-is g.vertices u (site.low u (site.t_in u e))) refl
      go u false e = refl
  is_list p (v ∷ o) order = go (has t v) refl (is_list (union p (one v)) o order.3)
    where
      go : (b : Bool) → has t v ≡ b → is_list_of (in_order t o) (minus t (union p (one v))) ≡ true
          → is_list_of (cond b (v ∷ in_order t o) (in_order t o)) (minus t p) ≡ true
      go true e h = both_true (has (minus t p) v) (is_list_of (in_order t o) (minus (minus t p) (one v))) (has-minus t p v ∙ rw (e, order.1) refl)
          (subst (λ z. is_list_of (in_order t o) z ≡ true) (same_from_has (minus t (union p (one v))) (minus (minus t p) (one v)) alike) h)
        where
          alike : (u : ℕ) → has (minus t (union p (one v))) u ≡ has (minus (minus t p) (one v)) u
          alike u = (has-minus t (union p (one v)) u ∙ ap (λ b. has t u && not b) (has-or p (one v) u))
              ∙ (bools (has t u) (has p u) (has (one v) u) ∙ sym (has-minus (minus t p) (one v) u ∙ ap (λ b. b && not (has (one v) u)) (has-minus t p u)))
            where
              bools : (x y z : Bool) → (x && not (y || z)) ≡ ((x && not y) && not z)
              bools x y z = grind arith
      go false e h = subst (λ z. is_list_of (in_order t o) z ≡ true) (same_from_has (minus t (union p (one v))) (minus t p) alike) h
        where
          alike : (u : ℕ) → has (minus t (union p (one v))) u ≡ has (minus t p) u
          alike u = (has-minus t (union p (one v)) u ∙ ap (λ b. has t u && not b) (has-or p (one v) u))
              ∙ (pick (decide (has (one v) u)) ∙ sym (has-minus t p u))
            where
              pick : (has (one v) u ≡ true) ⊎ (has (one v) u ≡ false) → (has t u && not (has p u || has (one v) u)) ≡ (has t u && not (has p u))
              pick (inl q) = let z : has t u ≡ false = rw (one-is v u q) e in rw z refl
              pick (inr q) = rw q (bools (has t u) (has p u))
                where
                  bools : (x y : Bool) → (x && not (y || false)) ≡ (x && not y)
                  bools x y = grind arith

  whole_product : (ls : List ℕ) (xs : Lists) (x y : Tree) (es fs : Trees) → EachMade g ls xs (tree x (tree y es)) fs → as_one fs ≡ product fs
  whole_product ls (more l (more l2 xs)) x y es (tree f (tree f2 fs)) h = refl
  whole_product ls (more l (more l2 xs)) x y es (tree f no_trees) h = absurd h.1
  whole_product ls (more l (more l2 xs)) x y es no_trees h = absurd h
  whole_product ls (more l no_more) x y es (tree f fs) h = absurd h.1
  whole_product ls (more l no_more) x y es no_trees h = absurd h
  whole_product ls no_more x y es fs h = absurd h

  body_from : (ls : List ℕ) (b : ℕ) (l : List ℕ) (xs : Lists) (fs : Trees) → is_list_of l t ≡ true → EachMade g ls xs (chained b 0 l) fs
      → MakesAll g ls (body_steps l xs) (prob t b 0) (as_one fs)
  body_from ls b [] xs fs e h = absurd (clash (has t site.some) site.some_in (empty-has t site.some e))
  body_from ls b (v ∷ []) (more l no_more) (tree f no_trees) e h = subst (λ z. MakesAll g ls l (prob z b 0) f) (sym (alone t v e)) h.0
  body_from ls b (v ∷ []) (more l no_more) no_trees e h = absurd h
  body_from ls b (v ∷ []) (more l no_more) (tree f (tree f2 fs)) e h = absurd h.1
  body_from ls b (v ∷ []) (more l (more l2 xs)) no_trees e h = absurd h
  body_from ls b (v ∷ []) (more l (more l2 xs)) (tree f fs) e h = absurd h.1
  body_from ls b (v ∷ []) no_more fs e h = absurd h
  body_from ls b (v ∷ w ∷ o) xs fs e h = (
    product (chained b 0 (v ∷ w ∷ o)),
    made_if g (leb 2 (length (v ∷ w ∷ o)) && is_list_of (v ∷ w ∷ o) t) (Row.Make (product (chained b 0 (v ∷ w ∷ o)))) BadOrder
        (product (chained b 0 (v ∷ w ∷ o)))
        (both_true (leb 2 (length (v ∷ w ∷ o))) (is_list_of (v ∷ w ∷ o) t) (le-leb 2 (suc (suc (length o))) (omega arith)) e) refl,
    each_made g ls xs (chained b 0 (v ∷ w ∷ o)) fs no_plans (as_one fs) h
        (whole_product ls xs (prob (one v) b 0) (prob (one w) b (union 0 (one v))) (chained b (union (union 0 (one v)) (one w)) o) fs h),
  )

  body_deep : (l : List ℕ) (xs : Lists) → are_lists_to 5 xs ≡ true → are_plans_within 7 (body_steps l xs) ≡ true
  body_deep [] xs h = refl
  body_deep (v ∷ []) no_more h = refl
  body_deep (v ∷ []) (more l xs) h = steps_more 6 l (steps_more 5 l (and_l (are_plans_within 5 l) (are_lists_to 5 xs) h))
  body_deep (v ∷ w ∷ o) xs h = each_at 5 0 xs no_plans h refl

  lists_deep : (p : ℕ) (o : List ℕ) (fs : Trees) (r : AreFactors g from a t p o fs) → are_lists_to 5 (lists g from a t p o fs r) ≡ true
  unfolding lists
  lists_deep p [] fs none = refl
  lists_deep p (v ∷ o) fs (skip q r) = lists_deep (union p (one v)) o fs r
  lists_deep p (v ∷ o) (tree e fs) (take {m = m} q pl r) = both_true (are_plans_within 5
      (place_list p (universe g.vertices from a) a t m (source_steps from a v m))) (are_lists_to 5 (lists g from a t (union p (one v)) o fs r))
      (place_deep p (universe g.vertices from a) a t m from v) (lists_deep (union p (one v)) o fs r)

  pub record Body (o : List ℕ) (e : Tree) : Type 0 where
    pub steps : Plans
    pub are : AreBodySteps g o from a t steps
    pub deep : are_plans_within 7 steps ≡ true
    pub made : (ls : List ℕ) → IsCited ls from a → MakesAll g ls steps (prob t (minus (all g.vertices) t) 0) e

  pub body_made : (o : List ℕ) (e : Tree) → IsOrderFrom (induced g (has room)) 0 o → IsBody g o from a t e → Body o e
  body_made o e order r = record {
    steps = body_steps (in_order t o) (lists g from a t 0 o r.factors r.are);
    are = record { lists = lists g from a t 0 o r.factors r.are; are = lists_are g from a t 0 o r.factors r.are; is = refl };
    deep = body_deep (in_order t o) (lists g from a t 0 o r.factors r.are) (lists_deep 0 o r.factors r.are);
    made = λ ls c. subst (λ z. MakesAll g ls (body_steps (in_order t o) (lists g from a t 0 o r.factors r.are)) (prob t (minus (all g.vertices) t) 0) z)
        (sym r.is)
        (body_from ls (minus (all g.vertices) t) (in_order t o) (lists g from a t 0 o r.factors r.are) r.factors
        (subst (λ z. is_list_of (in_order t o) z ≡ true) (same_from_has (minus t 0) t base) (is_list 0 o order))
        (each_place ls c 0 0 o r.factors r.are (λ w u b i. absurd (clash (has 0 u) i (has-zero u))) order (same_from_has 0 (common t 0) zero_same)));
  }
    where
      base : (u : ℕ) → has (minus t 0) u ≡ has t u
      base u = has-minus t 0 u ∙ rw (has-zero u) (bools (has t u))
        where
          bools : (x : Bool) → (x && not false) ≡ x
          bools x = grind arith

      zero_same : (u : ℕ) → has 0 u ≡ has (common t 0) u
      zero_same u = sym (has-and t 0 u ∙ rw (has-zero u) (bools (has t u)))
        where
          bools : (x : Bool) → (x && false) ≡ false
          bools x = grind arith
