-- What is listed, and what the branches left hold.
use Rattle.std.proofs.Common.{◌≡◌, ℕ, ◌<◌, Bool, true, false, ◌||◌, ◌==◌, ◌⊎◌, inl, inr, refl, sym, ap, List, [], ◌∷◌, ◌++◌, arith, subst}
use Rattle.std.proofs.lemmas.Bool.{cases_Bool, eqb-true, eq-eqb}
use mathlib.Core.Path.{fun_ext}
use Rattle.minimal_sets.proofs.Tests.{same_truth}
use Rattle.mixed_graph.specs.declared.sets.VSet.{VSet}
use Rattle.mixed_graph.specs.Vocabulary.{has}
use Rattle.minimal_sets.specs.Separators.{Reached, start, IsMinimalSeparator, IsOnSide, IsClosest, IsInseparable}
use Rattle.minimal_sets.proofs.SeparatorLaws.{outside, either_way, alone, part_false}
use Rattle.minimal_sets.specs.Lists.{Each, Pairwise}
use Rattle.minimal_sets.specs.Branches.{IsNode, IsIn, IsForked, IsStill}
use Rattle.minimal_sets.specs.Frames.{IsFrame}
use Rattle.minimal_sets.specs.Listings.{IsTestOf}
use Rattle.minimal_sets.specs.Progress.{Apart, Away, IsSoFar, IsAtWork, AreOther}
use Rattle.minimal_sets.proofs.Ordered.{same_bits}
use Rattle.minimal_sets.proofs.Forks.{settled}
use Rattle.minimal_sets.specs.declared.separators.branching.Node.{Node}
use Rattle.minimal_sets.proofs.ListFacts.{each_push, each_pop, each_map, each_both, each_from_none, pairwise_push, pairwise_pop, some_left}
use Rattle.minimal_sets.proofs.ListFacts.{some_right, some_pop}

module _ (near : ℕ → ℕ → Bool) (R X Y : ℕ → Bool) where
  starts : IsFrame near R X Y → (z : ℕ → Bool) → IsMinimalSeparator near R X Y z → IsOnSide near X z X
  starts frame z k v x = start x (part_false z R k.within v (frame.x_fixed v x))

  -- there is no separator
  pub listing_none : IsFrame near R X Y → IsInseparable near R X Y X → IsSoFar near R X Y [] []
  listing_none frame none = record { nodes = tt; each = tt; once = tt; apart = tt; away = tt; all = λ z k. absurd (none z k (starts frame z k)) }

  -- the nearest separator of all
  pub listing_one : IsFrame near R X Y → (n : Node) → IsClosest near R X Y X (has n.separator.bits) (has n.side.bits) → ((v : ℕ) → has n.kept.bits v ≡ false)
      → IsSoFar near R X Y [] (n ∷ [])
  listing_one frame n k none = record {
    nodes = (
      record { here = settled near R X Y X (has n.separator.bits) (has n.side.bits) k; kept = λ v e. absurd (let o = none v in grind (arith, e, o)) },
      tt,
    );
    each = tt;
    once = tt;
    apart = (tt, tt);
    away = ((λ z b s. s), tt);
    all = λ z m. inr (inl (record { minimal = m; side = k.closest z m (starts frame z m); keeps = λ v e. absurd (let o = none v in grind (arith, e, o)) }));
  }

  pub working_begin : (done : List VSet) (todo : List Node) (n : Node) → IsSoFar near R X Y done (todo ++ n ∷ []) → IsAtWork near R X Y done n todo
  working_begin done todo n l =
      let a = each_pop (IsNode near R X Y) todo n l.nodes in
      let b = pairwise_pop (Apart near R X Y) todo n l.apart in
      let c = each_pop (Away near R X Y done) todo n l.away in
      record {
        node = a.1;
        nodes = a.0;
        each = l.each;
        once = l.once;
        own_apart = b.1;
        apart = b.0;
        own_away = c.1;
        away = c.0;
        all = λ z k. elim (l.all z k) [ inl d ↦ inl d | inr s ↦ inr (some_pop (λ n. IsIn near R X Y n z) todo n s) ];
      }

  module _ (frame : IsFrame near R X Y) (done : List VSet) (todo : List Node) (n : Node) (w : IsAtWork near R X Y done n todo) (v : ℕ)
      (member : has n.separator.bits v ≡ true)
      (m : Node) (separator_is : m.separator.bits ≡ n.separator.bits) (side_is : m.side.bits ≡ n.side.bits)
      (kept_is : (u : ℕ) → has m.kept.bits u ≡ (has n.kept.bits u || (u == v))) where
    -- the branch in which v is kept
    kept_node : IsNode near R X Y m
    kept_node = record {
      here = rw (separator_is, side_is) w.node.here;
      kept = rw separator_is (λ u e. elim (cases_Bool (has n.kept.bits u)) [
        | inl i ↦ w.node.kept u i
        | inr o ↦ rw (eqb-true u v (let p = kept_is u in grind arith)) member
      ]);
    }

    kept_inside : (z : ℕ → Bool) → IsIn near R X Y m z → IsIn near R X Y n z
    kept_inside z b = record {
      minimal = b.minimal;
      side = subst (λ d. IsOnSide near X z (has d)) side_is b.side;
      keeps = λ u e. b.keeps u (let p = kept_is u in grind arith);
    }

    kept_has : (z : ℕ → Bool) → IsIn near R X Y m z → z v ≡ true
    kept_has z b = b.keeps v (let p = kept_is v in let q : (v == v) ≡ true = eq-eqb v v refl in grind arith)

    kept_all : (z : ℕ → Bool) → IsIn near R X Y n z → z v ≡ true → IsIn near R X Y m z
    kept_all z b e = record {
      minimal = b.minimal;
      side = rw side_is b.side;
      keeps = λ u i. elim (cases_Bool (has n.kept.bits u)) [
        | inl j ↦ b.keeps u j
        | inr o ↦ rw (eqb-true u v (let p = kept_is u in grind arith)) e
      ];
    }

    either_branch : (z : ℕ → Bool) → IsIn near R X Y n z → IsIn near R X Y m z ⊎ Reached near X z v
    either_branch z b = elim (either_way near frame.turn R X Y frame.y_fixed (has n.side.bits) (has n.separator.bits) (has n.side.bits) w.node.here
        (has n.kept.bits) z b v member) [
          | inl e ↦ inl (kept_all z b e)
          | inr r ↦ inr r
        ]

    pub working_still : IsStill near R X Y n v → IsAtWork near R X Y done m todo
    working_still still = record {
      node = kept_node;
      nodes = w.nodes;
      each = w.each;
      once = w.once;
      own_apart = each_map (λ k. Apart near R X Y k n) (λ k. Apart near R X Y k m) todo (λ k a z p q. a z p (kept_inside z q)) w.own_apart;
      apart = w.apart;
      own_away = λ z b s. w.own_away z (kept_inside z b) s;
      away = w.away;
      all = λ z k. elim (w.all z k) [
        | inl d ↦ inl d
        | inr (inl t) ↦ inr (inl t)
        | inr (inr b) ↦ elim (either_branch z b) [ inl e ↦ inr (inr e) | inr r ↦ absurd (still z b r) ]
      ];
    }

    pub working_forked : (f : Node) → IsForked near R X Y n v f → IsAtWork near R X Y done m (todo ++ f ∷ [])
    working_forked f k = record {
      node = kept_node;
      nodes = each_push (IsNode near R X Y) todo f w.nodes k.node;
      each = w.each;
      once = w.once;
      own_apart = each_push (λ k. Apart near R X Y k m) todo f (each_map (λ k. Apart near R X Y k n) (λ k. Apart near R X Y k m) todo
          (λ k a z p q. a z p (kept_inside z q)) w.own_apart)
          (λ z p q. let e = kept_has z q in let o = outside near X z v (k.aside z p) in grind arith);
      apart = pairwise_push (Apart near R X Y) todo f w.apart (each_map (λ k. Apart near R X Y k n) (λ k. Apart near R X Y k f) todo
          (λ k' a z p q. a z p (k.inside z q)) w.own_apart);
      own_away = λ z b s. w.own_away z (kept_inside z b) s;
      away = each_push (Away near R X Y done) todo f w.away (λ z b s. w.own_away z (k.inside z b) s);
      all = λ z c. elim (w.all z c) [
        | inl d ↦ inl d
        | inr (inl t) ↦ inr (inl (some_left (λ n. IsIn near R X Y n z) todo f t))
        | inr (inr b) ↦ elim (either_branch z b) [ inl e ↦ inr (inr e) | inr r ↦ inr (inl (some_right (λ n. IsIn near R X Y n z) todo f (k.all z b r))) ]
      ];
    }

  -- a branch whose separator is kept whole
  pub working_end : IsFrame near R X Y → (done : List VSet) (todo : List Node) (n : Node) → IsAtWork near R X Y done n todo
      → ((v : ℕ) → has n.separator.bits v ≡ true → has n.kept.bits v ≡ true)
      → IsSoFar near R X Y (done ++ n.separator ∷ []) todo
  working_end frame done todo n w whole = record {
    nodes = w.nodes;
    each = each_push (λ s. IsMinimalSeparator near R X Y (has s.bits)) done n.separator w.each w.node.here.minimal;
    once = pairwise_push (λ s t. s.bits ≡ t.bits → ⊥) done n.separator w.once
        (each_map (λ s. IsTestOf (has n.separator.bits) s → ⊥) (λ s. s.bits ≡ n.separator.bits → ⊥) done (λ s h e. h (λ v. ap (λ b. has b v) (sym e)))
        (each_from_none (IsTestOf (has n.separator.bits)) done (w.own_away (has n.separator.bits) own)));
    apart = w.apart;
    away = each_both (Away near R X Y done) (λ m. Apart near R X Y m n) (Away near R X Y (done ++ n.separator ∷ [])) todo
        (λ m a b z p s. elim (some_pop (IsTestOf z) done n.separator s)
        [ inl d ↦ a z p d | inr t ↦ b z p (subst (λ k. IsIn near R X Y n k) (sym (fun_ext (λ v. t v))) own) ]) w.away w.own_apart;
    all = λ z k. elim (w.all z k) [
      | inl d ↦ inl (some_left (IsTestOf z) done n.separator d)
      | inr (inl t) ↦ inr t
      | inr (inr b) ↦ inl (some_right (IsTestOf z) done n.separator
          (let q = alone near frame.turn R X Y frame.y_fixed (has n.side.bits) (has n.separator.bits) (has n.side.bits) w.node.here (has n.kept.bits)
          z whole b in
          λ v. same_truth (z v) (has n.separator.bits v) (λ e. q.1 v e) (λ e. q.0 v e)))
    ];
  }
    where
      own : IsIn near R X Y n (has n.separator.bits)
      own = record { minimal = w.node.here.minimal; side = w.node.here.side_is; keeps = w.node.kept }

-- minimal separators whose masks differ have other members
pub all_other : (near : ℕ → ℕ → Bool) (R X Y : ℕ → Bool) → ((v : ℕ) → R v ≡ true → v < 64) → (done : List VSet)
    → Each (λ s. IsMinimalSeparator near R X Y (has s.bits)) done → Pairwise (λ s t. s.bits ≡ t.bits → ⊥) done → Pairwise AreOther done
all_other near R X Y low [] e o = tt
all_other near R X Y low (s ∷ done) e o = (
  each_both (λ t. IsMinimalSeparator near R X Y (has t.bits)) (λ t. s.bits ≡ t.bits → ⊥) (AreOther s) done
      (λ t m d same. d (same_bits s.bits t.bits (λ v h. low v (e.0.within v h)) (λ v h. low v (m.within v h)) same)) e.1 o.0,
  all_other near R X Y low done e.1 o.1,
)
