-- Directed paths inside sets that agree on the vertices.
use Rattle.std.proofs.Common.{◌≡◌, ℕ, ◌<◌, ◌^◌, Bool, not, ◌&&◌, nat_lt, List, [], ◌∷◌, IsTrue, inl, inr, sym, ap, ◌∙◌}
use Rattle.std.proofs.lemmas.Bool.{and_parts, and_from, lt-ltb}
use Rattle.mixed_graph.specs.Vocabulary.{has, MixedGraph, IsMixedGraph, IsDirectedPath, IsAncestor, induced}
use Rattle.mixed_graph.proofs.Masks.{some_in_meet}
use Rattle.hedge.specs.declared.hedge.Hedge.{Hedge}
use Rattle.hedge.specs.Hedges.{outside, Meets, AreRightLinks}
use Rattle.hedge.specs.Faults.{IsWrongLink}

path_same : (g : MixedGraph) (valid : IsMixedGraph g) (s t : ℕ → Bool) → ((u : ℕ) → u < g.vertices → s u ≡ t u) → (v : ℕ) (path : List ℕ) (u : ℕ) →
    IsDirectedPath (induced g s) v path u → IsDirectedPath (induced g t) v path u
path_same g valid s t same v [] u p = p
path_same g valid s t same v (x ∷ xs) u p =
    let a = and_parts (g.arrow v x) (s v && s x) p.0 in
    let b = and_parts (s v) (s x) a.1 in (
      and_from _ _ a.0 (and_from _ _ (sym (same v (valid.tail_below v x a.0)) ∙ b.0) (sym (same x (valid.head_below v x a.0)) ∙ b.1)),
      path_same g valid s t same x xs u p.1,
    )

pub reaches_same : (g : MixedGraph) (valid : IsMixedGraph g) (s t : ℕ → Bool) → ((u : ℕ) → u < g.vertices → s u ≡ t u) → (y : ℕ → Bool) (v : ℕ) →
    IsAncestor (induced g s) y v → IsAncestor (induced g t) y v
reaches_same g valid s t same y v a = record {
  vertex = a.vertex;
  path = a.path;
  end = a.end;
  leads = path_same g valid s t same v a.path a.end a.leads;
  inside = a.inside;
}

-- inside the vertices, what isn't in x
pub free_is : (n x free : ℕ) → ((u : ℕ) → has free u ≡ (nat_lt u n && not (has x u))) → (u : ℕ) → u < n → has free u ≡ outside x u
free_is n x free is u l = is u ∙ ap (λ b. b && not (has x u)) (lt-ltb u n l)

-- a meet that isn't empty
pub meets_of : (s t meet : ℕ) → ((v : ℕ) → has meet v ≡ (has s v && has t v)) → (meet ≡ 0 → ⊥) → meet < 2 ^ 64 → Meets (has s) (has t)
meets_of s t meet is full fits = let m = some_in_meet meet s t is full fits in record { vertex = m.0; in_first = m.1; in_second = m.2 }

-- where the links are right, no fault of theirs stands
pub link_wrong : (g : MixedGraph) (h : Hedge) (v : ℕ) → IsWrongLink g h v → AreRightLinks g h → ⊥
link_wrong g h v (inl w) r = w.wrong (r.placed v w.among)
link_wrong g h v (inr (inl w)) r = absurd (let i = r.inside w.1.place w.1.listed in let o = w.1.outside in cc)
link_wrong g h v (inr (inr w)) r = w.2.wrong (λ i p l e. r.partners i p l)
