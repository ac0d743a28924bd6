-- The ancestors of y, x and z, and those of x and z, into which no arrow leads from x.
use Rattle.std.proofs.Common.{ℕ, ◌≡◌, ◌<◌, Bool, true, false, refl, ◌∷◌, []}
use Rattle.mixed_graph.specs.Vocabulary.{has, MixedGraph, IsMixedGraph, IsAncestor, union}
use Rattle.hedge.specs.Vocabulary.{IsSetOf}
use Rattle.treated_models.specs.Vocabulary.{HasParents}
use Rattle.treated_id.specs.Sets.{AreBefore, IsAfter}

module _ (g : MixedGraph) (ok : IsMixedGraph g) (a : ℕ) (t : ℕ → Bool) (are : IsSetOf a (IsAncestor g t)) where
  pub ancestors_low : (v : ℕ) → has a v ≡ true → v < g.vertices
  ancestors_low v e = (are.sound v e).vertex

  -- a parent of an ancestor is one
  pub ancestors_parents : HasParents g (has a)
  ancestors_parents p v arrow e =
      let k = are.sound v e in
      are.complete p (record { vertex = ok.tail_below p v arrow; path = v ∷ k.path; end = k.end; leads = (arrow, k.leads); inside = k.inside })

  pub ancestors_own : (v : ℕ) → v < g.vertices → t v ≡ true → has a v ≡ true
  ancestors_own v il e = are.complete v (record { vertex = il; path = []; end = v; leads = refl; inside = e })

-- ancestors of more are more
pub ancestors_more : (g : MixedGraph) (a b : ℕ) (t u : ℕ → Bool) → IsSetOf a (IsAncestor g t) → IsSetOf b (IsAncestor g u) → ((v : ℕ) → t v ≡ true → u v ≡ true)
    → (v : ℕ) → has a v ≡ true → has b v ≡ true
ancestors_more g a b t u is_a is_b more v e =
    let k = is_a.sound v e in
    is_b.complete v (record { vertex = k.vertex; path = k.path; end = k.end; leads = k.leads; inside = more k.end k.inside })

-- where x and z don't come after x, no arrow leads from x into their ancestors
pub untouched : (g : MixedGraph) (x z c : ℕ) → AreBefore g x z → IsSetOf c (IsAncestor g (has (union x z))) → (p v : ℕ) → g.arrow p v ≡ true → has c v ≡ true
    → has x p ≡ false
untouched g x z c before are p v arrow e = go (has x p) refl
  where
    go : (b : Bool) → has x p ≡ b → has x p ≡ false
    go false q = q
    go true q =
        let k = are.sound v e in
        let after : IsAfter g x k.end = record { start = p; next = v; path = k.path; inside = q; leads = (arrow, k.leads) } in
        absurd (before k.end k.inside after)
