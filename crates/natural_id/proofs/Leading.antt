-- The ways that lead to y, and the sets of what leads there.
use Rattle.std.proofs.Common.{ℕ, ◌≡◌, ◌<◌, ◌↔◌, Bool, true, false, not, refl, sym, ap, ◌∙◌, ◌||◌, ◌&&◌, arith, List, [], ◌∷◌, inl, inr, ◌⊎◌, eqb-true}
use Rattle.std.proofs.lemmas.Bool.{and_from}
use Rattle.mixed_graph.specs.Vocabulary.{has, MixedGraph, IsMixedGraph, IsAncestor, IsDirectedPath, induced, union, minus, all}
use Rattle.mixed_graph.proofs.MaskLaws.{has_minus, has_join}
use Rattle.mixed_graph.proofs.Paths.{end_below}
use Rattle.finite_models.proofs.Bools.{and_first, and_second}
use Rattle.finite_models.proofs.SumLaws.{eqb-refl}
use Rattle.hedge.specs.Vocabulary.{IsSetOf}
use Rattle.do_rules.specs.Vocabulary.{cut_out}
use Rattle.identification_theory.specs.Vocabulary.{AreAncestorsIn}
use Rattle.identification_theory.proofs.Sets.{all-is}
use Rattle.nested_models.specs.Vocabulary.{LeadsPast, LeadsThrough, IsNestedQuery}
use Rattle.nested_models.proofs.Leading.{to_cut, past_or_through}

no_of : (b : Bool) → not b ≡ true → b ≡ false
no_of b h = grind (arith, h)

-- what has a path without arrows out of a set to vertices off it has one outside the set
module _ (g : MixedGraph) (ok : IsMixedGraph g) (a : ℕ → Bool) (u : ℕ) (is : (v : ℕ) → has u v ≡ a v) (t : ℕ → Bool) (off : (v : ℕ) → t v ≡ true → a v ≡ false) where
  abbrev others : ℕ
  others = minus (all g.vertices) u

  other : (v : ℕ) → v < g.vertices → a v ≡ false → has others v ≡ true
  other v il o = has_minus (all g.vertices) u v ∙ bools (has (all g.vertices) v) (has u v) (all-is g.vertices v il) (is v ∙ o)
    where
      bools : (p q : Bool) → p ≡ true → q ≡ false → (p && not q) ≡ true
      bools p q h k = grind (arith, h, k)

  clear : (end v : ℕ) (path : List ℕ) → IsDirectedPath (cut_out g a) v path end → t end ≡ true → a v ≡ false
  clear end v [] p i = off v (ap t p ∙ i)
  clear end v (c ∷ path) p i = no_of (a v) (and_second (g.arrow v c) (not (a v)) p.0)

  pub from_cut : (v : ℕ) → IsAncestor (cut_out g a) t v → IsAncestor (induced g (has others)) t v
  from_cut v k = record { vertex = k.vertex; path = k.path; end = k.end; leads = go v k.path k.leads; inside = k.inside }
    where
      go : (v : ℕ) (path : List ℕ) → IsDirectedPath (cut_out g a) v path k.end → IsDirectedPath (induced g (has others)) v path k.end
      go v [] p = p
      go v (c ∷ path) p =
          let arrow = and_first (g.arrow v c) (not (a v)) p.0 in (
            and_from (g.arrow v c) (has others v && has others c) arrow
                (and_from (has others v) (has others c) (other v (ok.tail_below v c arrow) (clear k.end v (c ∷ path) p k.inside))
                (other c (ok.head_below v c arrow) (clear k.end c path p.1 k.inside))),
            go c path p.1,
          )

module _ (g : MixedGraph) (ok : IsMixedGraph g) (x m y : ℕ) where
  pub past_is : (u past : ℕ) → ((v : ℕ) → has u v ≡ (has x v || has m v)) → ((v : ℕ) → has y v ≡ true → has x v ≡ false)
      → ((v : ℕ) → has y v ≡ true → has m v ≡ false) → AreAncestorsIn g (minus (all g.vertices) u) y past
      → IsSetOf past (LeadsPast g (has x) (has m) (has y))
  past_is u past is y_x y_m are = record {
    sound = λ v e. to_cut g (λ p. has x p || has m p) u is (has y) v (are.sound v e);
    complete = λ v l. are.complete v (from_cut g ok (λ p. has x p || has m p) u is (has y) off v l);
  }
    where
      none : (p q : Bool) → p ≡ false → q ≡ false → (p || q) ≡ false
      none p q h k = grind (arith, h, k)

      off : (v : ℕ) → has y v ≡ true → (has x v || has m v) ≡ false
      off v e = none (has x v) (has m v) (y_x v e) (y_m v e)

  pub through_is : (past parents mediators through : ℕ) → ((v : ℕ) → has m v ≡ true → has x v ≡ false)
      → IsSetOf past (LeadsPast g (has x) (has m) (has y))
      → ((v : ℕ) → (has parents v ≡ true) ↔ ((c : ℕ) × (has past c ≡ true) × (g.arrow v c ≡ true)))
      → ((v : ℕ) → has mediators v ≡ (has m v && has parents v)) → AreAncestorsIn g (minus (all g.vertices) x) mediators through
      → IsSetOf through (LeadsThrough g (has x) (has m) (has y))
  through_is past parents mediators through m_x is_past is_parents is_mediators are = record {
    sound = λ v e.
        let k = to_cut g (has x) x (λ p. refl) (has mediators) v (are.sound v e) in
        let both = sym (is_mediators k.end) ∙ k.inside in
        let acts = (is_parents k.end).0 (and_second (has m k.end) (has parents k.end) both) in
        record {
          mediator = k.end;
          member = and_first (has m k.end) (has parents k.end) both;
          leads = record { vertex = k.vertex; path = k.path; end = k.end; leads = k.leads; inside = eqb-refl k.end };
          child = acts.0;
          acts = acts.2;
          past = is_past.sound acts.0 acts.1;
        };
    complete = λ v l. are.complete v (from_cut g ok (has x) x (λ p. refl) (has mediators) off v (record {
      vertex = l.leads.vertex;
      path = l.leads.path;
      end = l.leads.end;
      leads = l.leads.leads;
      inside = ap (has mediators) (eqb-true l.leads.end l.mediator l.leads.inside) ∙ is_mediators l.mediator
          ∙ and_from (has m l.mediator) (has parents l.mediator) l.member ((is_parents l.mediator).1 (l.child, is_past.complete l.child l.past, l.acts));
    }));
  }
    where
      off : (v : ℕ) → has mediators v ≡ true → has x v ≡ false
      off v e = m_x v (and_first (has m v) (has parents v) (sym (is_mediators v) ∙ e))

-- a child of x that leads to y or z outside x, and not through m, leads to y past it
module _ (g : MixedGraph) (ok : IsMixedGraph g) (x m y z d : ℕ) (asked : IsNestedQuery g (has x) (has m) (has y) (has z))
    (are : AreAncestorsIn g (minus (all g.vertices) x) (union y z) d) where
  pub child_past : (p v : ℕ) → has x p ≡ true → g.arrow p v ≡ true → has d v ≡ true → (LeadsThrough g (has x) (has m) (has y) v → ⊥)
      → LeadsPast g (has x) (has m) (has y) v
  child_past p v e a i none = go (has y k.end) refl
    where
      k : IsAncestor (cut_out g (has x)) (has (union y z)) v
      k = to_cut g (has x) x (λ p. refl) (has (union y z)) v (are.sound v i)

      plain : (v : ℕ) (path : List ℕ) → IsDirectedPath (cut_out g (has x)) v path k.end → IsDirectedPath g v path k.end
      plain v [] p = p
      plain v (c ∷ path) p = (and_first (g.arrow v c) (not (has x v)) p.0, plain c path p.1)

      settle : LeadsPast g (has x) (has m) (has y) v ⊎ LeadsThrough g (has x) (has m) (has y) v → LeadsPast g (has x) (has m) (has y) v
      settle (inl l) = l
      settle (inr l) = absurd (none l)

      go : (b : Bool) → has y k.end ≡ b → LeadsPast g (has x) (has m) (has y) v
      go true h = settle (past_or_through g ok (has x) (has m) (has y) asked.y_m k.end v k.path k.vertex k.leads h)
      go false h = absurd (asked.before k.end (bools (has y k.end) (has z k.end) h (sym (has_join y z k.end) ∙ k.inside)) (record {
        vertex = end_below g ok.head_below v k.path k.end k.vertex (plain v k.path k.leads);
        path = v ∷ k.path;
        start = p;
        leads = (a, plain v k.path k.leads);
        inside = e;
      }))
        where
          bools : (p q : Bool) → p ≡ false → (p || q) ≡ true → q ≡ true
          bools p q h k = grind (arith, h, k)
