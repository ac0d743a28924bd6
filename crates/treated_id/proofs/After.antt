-- What comes after x: the descendants of its children.
use Rattle.std.proofs.Common.{◌≡◌, ℕ, ◌<◌, Bool, true, ◌&&◌, List, [], ◌∷◌, sym, ◌∙◌, arith}
use Rattle.mixed_graph.specs.Vocabulary.{has, MixedGraph, IsMixedGraph, IsDescendant, IsDirectedPath, union}
use Rattle.mixed_graph.proofs.MaskLaws.{filled_has}
use Rattle.finite_models.proofs.Bools.{and_first, and_second}
use Rattle.hedge.specs.Vocabulary.{IsSetOf}
use Rattle.treated_id.specs.Sets.{IsAfter, AreBefore}

-- a directed path from a vertex ends at one
path_low : (g : MixedGraph) → IsMixedGraph g → (v : ℕ) (xs : List ℕ) (u : ℕ) → v < g.vertices → IsDirectedPath g v xs u → u < g.vertices
path_low g ok v [] u il e = rw (sym e) il
path_low g ok v (x ∷ xs) u il e = path_low g ok x xs u (ok.head_below v x e.0) e.1

module _ (g : MixedGraph) (ok : IsMixedGraph g) (x z children below after : ℕ)
    (are_children : (u : ℕ) → (has children u ≡ true → (p : ℕ) × (has x p ≡ true) × (g.arrow p u ≡ true))
    × (((p : ℕ) × (has x p ≡ true) × (g.arrow p u ≡ true)) → has children u ≡ true))
    (are_below : (v : ℕ) → (has below v ≡ true → IsDescendant g (has children) v) × (IsDescendant g (has children) v → has below v ≡ true))
    (is : (v : ℕ) → has after v ≡ (has (union x z) v && has below v)) where
  after_from : (v : ℕ) → IsDescendant g (has children) v → IsAfter g x v
  after_from v d = let k = (are_children d.start).0 d.inside in
      record { start = k.0; next = d.start; path = d.path; inside = k.1; leads = (k.2, d.leads) }

  after_to : (v : ℕ) → IsAfter g x v → IsDescendant g (has children) v
  after_to v a = record {
    vertex = path_low g ok a.next a.path v (ok.head_below a.start a.next a.leads.0) a.leads.1;
    path = a.path;
    start = a.next;
    leads = a.leads.1;
    inside = (are_children a.next).1 (a.start, a.inside, a.leads.0);
  }

  pub after_is : IsSetOf after (λ v. (has (union x z) v ≡ true) × IsAfter g x v)
  after_is = record {
    sound = λ v i. let e = sym (is v) ∙ i in (
      and_first (has (union x z) v) (has below v) e,
      after_from v ((are_below v).0 (and_second (has (union x z) v) (has below v) e)),
    );
    complete = λ v k. is v ∙ both (has (union x z) v) (has below v) k.0 ((are_below v).1 (after_to v k.1));
  }
    where
      both : (p q : Bool) → p ≡ true → q ≡ true → (p && q) ≡ true
      both p q h j = grind (arith, h, j)

  pub none_after : after ≡ 0 → AreBefore g x z
  none_after none v i a = filled_has after v (after_is.complete v (i, a)) none
