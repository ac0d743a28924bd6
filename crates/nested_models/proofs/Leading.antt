-- What leads to y outside x.
use Rattle.std.proofs.Common.{ℕ, ◌≡◌, ◌<◌, Bool, true, false, not, eqb, refl, sym, ap, ◌∙◌, ◌||◌, ◌&&◌, arith, List, [], ◌∷◌, inl, inr, ◌⊎◌}
use Rattle.std.proofs.lemmas.Bool.{and_from, not_from_false}
use Rattle.mixed_graph.specs.Vocabulary.{has, MixedGraph, IsMixedGraph, IsAncestor, IsDirectedPath, induced, minus, all}
use Rattle.mixed_graph.proofs.MaskLaws.{has_minus}
use Rattle.mixed_graph.proofs.Paths.{ancestor_member, ancestor_parent}
use Rattle.finite_models.proofs.Bools.{and_first, and_second}
use Rattle.finite_models.proofs.SumLaws.{eqb-refl}
use Rattle.do_rules.specs.Vocabulary.{cut_out}
use Rattle.nested_models.specs.Nested.{LeadsPast, LeadsThrough}

no_of : (b : Bool) → not b ≡ true → b ≡ false
no_of b h = grind (arith, h)

-- what has a path outside a set has one without arrows out of the set
module _ (g : MixedGraph) (a : ℕ → Bool) (u : ℕ) (is : (v : ℕ) → has u v ≡ a v) where
  abbrev others : ℕ
  others = minus (all g.vertices) u

  outside : (v : ℕ) → has others v ≡ true → a v ≡ false
  outside v e = sym (is v) ∙ bools (has (all g.vertices) v) (has u v) (sym (has_minus (all g.vertices) u v) ∙ e)
    where
      bools : (p q : Bool) → (p && not q) ≡ true → q ≡ false
      bools p q h = grind (arith, h)

  pub to_cut : (t : ℕ → Bool) (v : ℕ) → IsAncestor (induced g (has others)) t v → IsAncestor (cut_out g a) t v
  to_cut t v k = record { vertex = k.vertex; path = k.path; end = k.end; leads = go v k.path k.leads; inside = k.inside }
    where
      go : (v : ℕ) (path : List ℕ) → IsDirectedPath (induced g (has others)) v path k.end → IsDirectedPath (cut_out g a) v path k.end
      go v [] p = p
      go v (c ∷ path) p = (
        and_from (g.arrow v c) (not (a v)) (and_first (g.arrow v c) (has others v && has others c) p.0)
            (not_from_false (a v) (outside v (and_first (has others v) (has others c) (and_second (g.arrow v c) (has others v && has others c) p.0)))),
        go c path p.1,
      )

-- what leads to y outside x does so past m, or through it
module _ (g : MixedGraph) (ok : IsMixedGraph g) (x m y : ℕ → Bool) (y_m : (v : ℕ) → y v ≡ true → m v ≡ false) where
  before : (v c : ℕ) → g.arrow v c ≡ true → x v ≡ false → LeadsPast g x m y c ⊎ LeadsThrough g x m y c → LeadsPast g x m y v ⊎ LeadsThrough g x m y v
  before v c a o (inl l) = go (m v) refl
    where
      none : (p q : Bool) → p ≡ false → q ≡ false → not (p || q) ≡ true
      none p q h k = grind (arith, h, k)

      go : (b : Bool) → m v ≡ b → LeadsPast g x m y v ⊎ LeadsThrough g x m y v
      go true e = inr (record {
        mediator = v;
        member = e;
        leads = ancestor_member (cut_out g x) (λ p. eqb p v) v (ok.tail_below v c a) (eqb-refl v);
        child = c;
        acts = a;
        past = l;
      })
      go false e = inl (ancestor_parent (cut_out g (λ p. x p || m p)) y v c (ok.tail_below v c a)
          (and_from (g.arrow v c) (not (x v || m v)) a (none (x v) (m v) o e)) l)
  before v c a o (inr l) = inr (record {
    mediator = l.mediator;
    member = l.member;
    leads = ancestor_parent (cut_out g x) (λ p. eqb p l.mediator) v c (ok.tail_below v c a) (and_from (g.arrow v c) (not (x v)) a (not_from_false (x v) o)) l.leads;
    child = l.child;
    acts = l.acts;
    past = l.past;
  })

  pub past_or_through : (end v : ℕ) (path : List ℕ) → v < g.vertices → IsDirectedPath (cut_out g x) v path end → y end ≡ true
      → LeadsPast g x m y v ⊎ LeadsThrough g x m y v
  past_or_through end v [] il p i = inl (ancestor_member (cut_out g (λ p. x p || m p)) y v il (ap y p ∙ i))
  past_or_through end v (c ∷ path) il p i =
      let a = and_first (g.arrow v c) (not (x v)) p.0 in
      before v c a (no_of (x v) (and_second (g.arrow v c) (not (x v)) p.0)) (past_or_through end c path (ok.head_below v c a) p.1 i)
