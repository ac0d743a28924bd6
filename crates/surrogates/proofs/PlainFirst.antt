-- Where identification answers a formula, it is the one over experiments.
use Rattle.std.proofs.Common.{ℕ, ◌+◌, ◌≡◌, ◌<◌, Bool, true, false, not, refl, sym, ap₂, subst, ◌∙◌, ◌&&◌, ◌⊎◌, inl, inr, List, [], length}
use mathlib.Core.Path.{fun_ext}
use Rattle.identification_theory.proofs.Bools.{both_true, not_i}
use Rattle.identification_theory.proofs.Sets.{all-is, has-minus}
use Rattle.identification_theory.specs.Vocabulary.{AreAncestorsIn, AreFactored, IsFactor, IsIdentified, IsIdentifiedBy, Source}
use Rattle.mixed_graph.proofs.Masks.{has-zero}
use Rattle.mixed_graph.specs.Vocabulary.{has, IsMixedGraph, MixedGraph, IsOrder, all, minus}
use Rattle.prob_expr.specs.Tree.{Tree, prob}
use Rattle.prob_expr.specs.Vocabulary.{PlainFormula, Trees}
use Rattle.surrogates.proofs.Rooms.{zero_apart}
use Rattle.surrogates.specs.Surrogates.{without, ComesFirst, AreFactoredWith, IsComposedOver, IsSurrogate}

-- without the empty set the graph is the same
pub same_graph : (g : MixedGraph) → IsMixedGraph g → without g 0 ≡ g
same_graph g ok = ap₂ (λ a b. record { vertices = g.vertices; arrow = a; both = b }) (fun_ext (λ p. fun_ext (λ v. arrows p v (g.arrow p v) refl)))
    (fun_ext (λ p. fun_ext (λ v. links p v (g.both p v) refl)))
  where
    bools : (p q : Bool) → p ≡ true → q ≡ true → (true && (p && q)) ≡ true
    bools p q h1 h2 = rw (h1, h2) refl

    in_room : (v : ℕ) → v < g.vertices → has (minus (all g.vertices) 0) v ≡ true
    in_room v l = has-minus (all g.vertices) 0 v ∙ both_true (has (all g.vertices) v) (not (has 0 v)) (all-is g.vertices v l) (not_i (has 0 v) (has-zero v))

    arrows : (p v : ℕ) (b : Bool) → g.arrow p v ≡ b → (g.arrow p v && (has (minus (all g.vertices) 0) p && has (minus (all g.vertices) 0) v)) ≡ g.arrow p v
    arrows p v true e = rw e (bools (has (minus (all g.vertices) 0) p) (has (minus (all g.vertices) 0) v) (in_room p (ok.tail_below p v e))
        (in_room v (ok.head_below p v e)))
    arrows p v false e = rw e refl

    links : (p v : ℕ) (b : Bool) → g.both p v ≡ b → (g.both p v && (has (minus (all g.vertices) 0) p && has (minus (all g.vertices) 0) v)) ≡ g.both p v
    links p v true e = rw e (bools (has (minus (all g.vertices) 0) p) (has (minus (all g.vertices) 0) v) (in_room p (ok.both_below p v e))
        (in_room v (ok.both_below v p (ok.symmetric p v e))))
    links p v false e = rw e refl

module _ (g : MixedGraph) (ok : IsMixedGraph g) (o : List ℕ) (order : IsOrder g o (length o)) (zs : List ℕ) where
  plain_all : (k : ℕ) (cs : List ℕ) (ds : List Tree) (fs : Trees) → AreFactored g o k cs ds fs → AreFactoredWith g zs k cs ds fs
  plain_all k _ _ _ AreFactored.none = AreFactoredWith.none
  plain_all k _ _ _ (AreFactored.next {c = c} {a = a} {cs = cs} {ds = ds} {es = es} {e = e} {fs = fs} n f r) =
      AreFactoredWith.next {z = 0} (ComesFirst.here (zero_apart c)) (record {
        a = a;
        ancestors = subst (λ h. AreAncestorsIn h (all g.vertices) c a) (sym (same_graph g ok)) n;
        order = o;
        is_order = subst (λ h. IsOrder h o (length o)) (sym (same_graph g ok)) order;
        factor = subst (λ h. IsFactor h o c a (Source.Under 0) k ds e) (sym (same_graph g ok)) f;
      }) (plain_all (k + length ds) cs es fs r)

pub plain_first : (g : MixedGraph) → IsMixedGraph g → (zs : List ℕ) (x y : ℕ) (f : PlainFormula) → IsIdentified g x y f → IsSurrogate g zs x y f
plain_first g ok zs x y f i = record { order = i.order; is_order = i.is_order; answer = go i.answer }
  where
    go : IsIdentifiedBy g i.order x y f → ((x ≡ 0) × (f ≡ record { defs = []; main = prob y 0 0 })) ⊎ ((x ≡ 0 → ⊥) × IsComposedOver g i.order zs x y f)
    go (inl t) = inl t
    go (inr t) = inr (
      t.0,
      record {
        split = t.1.split;
        factors = t.1.factors;
        are_factored = plain_all g ok i.order i.is_order zs 0 t.1.split.districts f.defs t.1.factors t.1.are_factored;
        main = t.1.main;
      },
    )
