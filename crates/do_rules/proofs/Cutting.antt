-- The cuts as restrictions.
use Rattle.std.proofs.Common.{◌≡◌, ℕ, ◌<◌, Bool, true, false, not, ◌&&◌, ◌||◌, List, get_or, nat_lt, refl, ap, ◌∙◌, arith}
use Rattle.std.proofs.lemmas.Bool.{lt-ltb, and_from, and_parts}
use Rattle.mixed_graph.specs.Vocabulary.{has, MixedGraph, IsMixedGraph, restricted}
use Rattle.mixed_graph.proofs.Restricting.{same_graph}
use Rattle.do_rules.specs.Cuts.{cut_into, cut_out, cut_edges}
use Rattle.do_rules.proofs.Fewer.{graph_of_fewer}

-- tests that agree where the edge is
kept : (e p q : Bool) → (e ≡ true → p ≡ q) → (e && p) ≡ (e && q)
kept true p q h = h refl
kept false p q h = refl

both_are : (p q p' q' : Bool) → p ≡ p' → q ≡ q' → (p && q) ≡ (p' && q')
both_are p q p' q' e f = rw (e, f) refl

inside : (a x : Bool) → a ≡ true → (a && not x) ≡ not x
inside true x e = refl
inside false x e = absurd (grind (arith, e))

pub restricted-into : (g : MixedGraph) (x all rest : ℕ → Bool) → IsMixedGraph g → ((v : ℕ) → all v ≡ nat_lt v g.vertices)
    → ((v : ℕ) → rest v ≡ (all v && not (x v))) →
    restricted g all rest rest ≡ cut_into g x
restricted-into g x all rest k a r = same_graph g.vertices _ _ _ _
    (λ u v. kept (g.arrow u v) (all u && rest v) (not (x v)) (λ e. both_are (all u) (rest v) true (not (x v)) (within u (k.tail_below u v e))
    (outside v (k.head_below u v e))))
    (λ u v. kept (g.both u v) (rest u && rest v) (not (x u) && not (x v))
    (λ e. both_are (rest u) (rest v) (not (x u)) (not (x v)) (outside u (k.both_below u v e)) (outside v (k.both_below v u (k.symmetric u v e)))))
  where
    within : (v : ℕ) → v < g.vertices → all v ≡ true
    within v lt = a v ∙ lt-ltb v g.vertices lt

    outside : (v : ℕ) → v < g.vertices → rest v ≡ not (x v)
    outside v lt = r v ∙ inside (all v) (x v) (within v lt)

pub restricted-out : (g : MixedGraph) (z all rest : ℕ → Bool) → IsMixedGraph g → ((v : ℕ) → all v ≡ nat_lt v g.vertices)
    → ((v : ℕ) → rest v ≡ (all v && not (z v))) →
    restricted g rest all all ≡ cut_out g z
restricted-out g z all rest k a r = same_graph g.vertices _ _ _ _
    (λ u v. kept (g.arrow u v) (rest u && all v) (not (z u)) (λ e. both_are (rest u) (all v) (not (z u)) true (outside u (k.tail_below u v e))
    (within v (k.head_below u v e)) ∙ and_true (not (z u))))
    (λ u v. kept (g.both u v) (all u && all v) true (λ e. both_are (all u) (all v) true true (within u (k.both_below u v e))
    (within v (k.both_below v u (k.symmetric u v e)))) ∙ and_true (g.both u v))
  where
    within : (v : ℕ) → v < g.vertices → all v ≡ true
    within v lt = a v ∙ lt-ltb v g.vertices lt

    outside : (v : ℕ) → v < g.vertices → rest v ≡ not (z v)
    outside v lt = r v ∙ inside (all v) (z v) (within v lt)

    and_true : (p : Bool) → (p && true) ≡ p
    and_true true = refl
    and_true false = refl

-- without one test and then another is without either
pub not_either : (p q r : Bool) → ((p && not q) && not r) ≡ (p && not (q || r))
not_either true true r = refl
not_either true false r = refl
not_either false q r = refl

or_swap : (p q : Bool) → (p || q) ≡ (q || p)
or_swap true true = refl
or_swap true false = refl
or_swap false true = refl
or_swap false false = refl

pub IsMixedGraph-cut_edges : (g : MixedGraph) (out both : List ℕ) → IsMixedGraph g → IsMixedGraph (cut_edges g out both)
IsMixedGraph-cut_edges g out both k = graph_of_fewer (cut_edges g out both) g (record {
  vertices = refl;
  arrows = λ u v e. (and_parts (g.arrow u v) (not (has (get_or out u 0) v)) e).0;
  spouses = λ u v e. (and_parts (g.both u v) (not (has (get_or both u 0) v || has (get_or both v 0) u)) e).0;
  symmetric = λ u v e. let p = and_parts (g.both u v) (not (has (get_or both u 0) v || has (get_or both v 0) u)) e in
      and_from (g.both v u) (not (has (get_or both v 0) u || has (get_or both u 0) v)) (k.symmetric u v p.0)
      (ap not (or_swap (has (get_or both v 0) u) (has (get_or both u 0) v)) ∙ p.1);
}) k
