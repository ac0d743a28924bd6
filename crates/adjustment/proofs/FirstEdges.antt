-- The first edges of proper causal paths are the arrows from x to the vertices between.
use Rattle.std.proofs.Common.{ℕ, ◌≡◌, Bool, true, false, not, refl, sym, ap, ◌∙◌, ◌&&◌, ◌↔◌, inl, inr, List, [], ◌∷◌, IsTrue}
use Rattle.std.proofs.lemmas.Bool.{and_parts, and_from, not-true, not_from_false, false_from_ne_true}
use Rattle.mixed_graph.specs.Vocabulary.{MixedGraph, IsMixedGraph, Within}
use Rattle.mixed_graph.proofs.Restricting.{same_graph}
use Rattle.m_separation.specs.declared.marks.Mark.TheVariants.{Out}
use Rattle.m_separation.specs.Vocabulary.{Step}
use Rattle.adjustment.specs.Proper.{IsOn, IsBetween, BeginsProperCausalPath, IsBackDoorGraph}
use Rattle.adjustment.proofs.Causal.{forwards, causal_forwards, proper_forwards, above_from}

-- g without the arrows of e
abbrev pub cut_arrows : MixedGraph → (ℕ → ℕ → Bool) → MixedGraph
cut_arrows g e = record g { arrow = λ u v. g.arrow u v && not (e u v) }

-- the arrows from x to b
abbrev pub firsts : (x b : ℕ → Bool) → ℕ → ℕ → Bool
firsts x b u v = x u && b v

-- a walk's first vertex lies on it
pub on_here : (v : ℕ) (r : List Step) → IsOn v v r
on_here v [] = refl
on_here v (s ∷ r) = inl refl

pub between_of_first : (g : MixedGraph) (X Y : ℕ → Bool) (u v : ℕ) → BeginsProperCausalPath g X Y u v → IsBetween g X Y v
between_of_first g X Y u v f = record {
  first = u;
  steps = record { mark = Out; to = v } ∷ f.0;
  proper = f.1;
  causal = (refl, f.2);
  on = inr (on_here v f.0);
  outside = f.1.outside.0;
}

module _ (g : MixedGraph) (is_graph : IsMixedGraph g) (X Y : ℕ → Bool) (within : Within g.vertices X) where
  pub first_of_between : (u v : ℕ) → X u ≡ true → g.arrow u v ≡ true → IsBetween g X Y v → BeginsProperCausalPath g X Y u v
  first_of_between u v x a b = let i = above_from g is_graph X Y within v b in (
    forwards i.path,
    proper_forwards g is_graph X Y u (v ∷ i.path) i.end x i.inside (and_from (g.arrow u v) (not (X v)) a (not_from_false (X v) b.outside), i.leads),
    causal_forwards i.path,
  )

  module _ (B : ℕ → Bool) (is_between : (v : ℕ) → IsTrue (B v) ↔ IsBetween g X Y v) where
    not_first : (u v : ℕ) → IsTrue (g.arrow u v) → IsTrue (not (firsts X B u v)) → BeginsProperCausalPath g X Y u v → ⊥
    not_first u v a n f =
        let no : (X u && B v) ≡ false = not-true (X u && B v) n in
        let yes : (X u && B v) ≡ true = and_from (X u) (B v) f.1.begins ((is_between v).1 (between_of_first g X Y u v f)) in cc

    kept : (u v : ℕ) → IsTrue (g.arrow u v) → (BeginsProperCausalPath g X Y u v → ⊥) → IsTrue (g.arrow u v && not (firsts X B u v))
    kept u v a n = and_from (g.arrow u v) (not (X u && B v)) a
        (not_from_false (X u && B v) (false_from_ne_true (X u && B v) (λ e. let p = and_parts (X u) (B v) e in
        n (first_of_between u v p.0 a ((is_between v).0 p.1)))))

    -- the graph without these arrows is the back-door graph
    pub is_back_door_graph : IsBackDoorGraph g X Y (cut_arrows g (firsts X B))
    is_back_door_graph = record {
      vertices = refl;
      arrows = λ u v. ((λ e. let p = and_parts (g.arrow u v) (not (X u && B v)) e in (p.0, not_first u v p.0 p.1)), (λ p. kept u v p.0 p.1));
      spouses = λ u v. refl;
    }

    -- and no other is
    pub back_door_graph_is : (h : MixedGraph) → IsBackDoorGraph g X Y h → h ≡ cut_arrows g (firsts X B)
    back_door_graph_is h k =
        ap (λ (n : ℕ). let f : MixedGraph = record { vertices = n; arrow = h.arrow; both = h.both } in f) k.vertices
        ∙ same_graph g.vertices h.arrow (λ u v. g.arrow u v && not (firsts X B u v)) h.both g.both
        (λ u v. same (h.arrow u v) (g.arrow u v && not (firsts X B u v))
        (λ e. let p = (k.arrows u v).0 e in kept u v p.0 p.1)
        (λ e. let p = and_parts (g.arrow u v) (not (X u && B v)) e in (k.arrows u v).1 (p.0, not_first u v p.0 p.1))) k.spouses
      where
        same : (p q : Bool) → (p ≡ true → q ≡ true) → (q ≡ true → p ≡ true) → p ≡ q
        same true true f h = refl
        same true false f h = sym (f refl)
        same false true f h = h refl
        same false false f h = refl
