-- The pillow from a district and the parents of its members.
use Rattle.std.proofs.Common.{◌≡◌, ◌≢◌, ℕ, ◌^◌, true, not, ◌&&◌, ◌||◌, ◌==◌, ◌⊎◌, IsTrue, inl, inr, refl, sym, ◌∙◌, arith}
use Rattle.std.proofs.lemmas.Bool.{and_parts, and_from, or_cases, or_left, or_right, ne_eqb}
use Rattle.mixed_graph.specs.Vocabulary.{has, MixedGraph, IsMixedGraph}
use Rattle.mixed_graph.proofs.Masks.{has-pow}
use Rattle.hedge.specs.Vocabulary.{IsSetOf, IsDistrict, at}
use Rattle.hedge.proofs.Parts.{link_through}
use Rattle.identification_theory.specs.Vocabulary.{IsParent, IsNear, IsPillow}

other_than : (u v : ℕ) → not (u == v) ≡ true → u ≢ v
other_than u v n e = absurd (let q : (u == v) ≡ true = (rw e (same v)) in grind (arith, n, q))
  where
    same : (v : ℕ) → (v == v) ≡ true
    same v = grind arith

module _ (g : MixedGraph) (valid : IsMixedGraph g) (s v near above m : ℕ) (district : IsDistrict g s (2 ^ v) near)
    (parents : IsSetOf above (IsParent g (λ w. IsTrue (has near w))))
    (is : (u : ℕ) → has m u ≡ ((has near u || (has above u && has s u)) && not (u == v))) where
  to_near : (u : ℕ) → IsTrue (has near u) → IsNear g s v u
  to_near u i = link_through g valid (has s) (has (2 ^ v)) (λ w. w == v) u (λ w e. at (sym (has-pow v w) ∙ e)) (district.sound u i)

  from_near : (u : ℕ) → IsNear g s v u → IsTrue (has near u)
  from_near u n = district.complete u (link_through g valid (has s) (λ w. w == v) (has (2 ^ v)) u (λ w e. at (has-pow v w ∙ e)) n)

  inside : (u : ℕ) → (IsNear g s v u ⊎ (IsTrue (has s u) × IsParent g (IsNear g s v) u)) → (has near u || (has above u && has s u)) ≡ true
  inside u (inl n) = or_left _ _ (from_near u n)
  inside u (inr p) = or_right _ _ (and_from _ _ (parents.complete u (record {
    child = p.1.child;
    arrow = p.1.arrow;
    within = from_near p.1.child p.1.within;
  })) p.0)

  outside : (u : ℕ) → (has near u ≡ true) ⊎ ((has above u && has s u) ≡ true) → IsNear g s v u ⊎ (IsTrue (has s u) × IsParent g (IsNear g s v) u)
  outside u (inl n) = inl (to_near u n)
  outside u (inr p) = let q = and_parts _ _ p in let r = parents.sound u q.0 in
      inr (q.1, record { child = r.child; arrow = r.arrow; within = to_near r.child r.within })

  pub pillow_is : IsPillow g s v m
  pillow_is = record {
    sound = λ u i. let q = and_parts _ _ (sym (is u) ∙ i) in (other_than u v q.1, outside u (or_cases _ _ q.0));
    complete = λ u p. is u ∙ and_from _ _ (inside u p.1) (not_same u p.0);
  }
    where
      not_same : (u : ℕ) → u ≢ v → not (u == v) ≡ true
      not_same u d = rw (ne_eqb u v d) refl
