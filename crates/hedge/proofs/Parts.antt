-- Links and districts, and how they part a set.
use Rattle.std.proofs.Common.{◌≡◌, ℕ, ◌^◌, Bool, true, ◌==◌, IsTrue, refl, sym, ◌∙◌, subst}
use Rattle.std.proofs.lemmas.Bool.{eqb-true, eq-eqb}
use Rattle.mixed_graph.specs.Vocabulary.{has, MixedGraph, IsMixedGraph}
use Rattle.mixed_graph.specs.Reached.{Reached}
use Rattle.mixed_graph.proofs.Masks.{has-pow}
use Rattle.hedge.specs.Linked.{IsLinked, IsSetOf, IsDistrict, IsJoinedSet, IsMaximalJoined}
use Rattle.hedge.specs.Linked.IsLinked.{at, by}

module _ (g : MixedGraph) (valid : IsMixedGraph g) where
  -- what is reached by bidirected edges inside a set is linked inside it
  pub linked_from_reached : (a s : ℕ → Bool) (v : ℕ) → Reached g.both s a v → IsLinked g a s v
  linked_from_reached a s v (Reached.start i w) = at i
  linked_from_reached a s v (Reached.next {u} r b w) = by w (valid.symmetric u v b) (linked_from_reached a s u r)

  pub reached_from_linked : (a s : ℕ → Bool) → ((v : ℕ) → IsTrue (s v) → IsTrue (a v)) → (v : ℕ) → IsLinked g a s v → Reached g.both s a v
  reached_from_linked a s inside v (at i) = Reached.start i (inside v i)
  reached_from_linked a s inside v (by {v = w} i b r) = Reached.next (reached_from_linked a s inside w r) (valid.symmetric v w b) i

  -- what bidirected edges inside a link to a part of a is in a
  pub link_in : (a s : ℕ → Bool) (u : ℕ) → ((w : ℕ) → IsTrue (s w) → IsTrue (a w)) → IsLinked g a s u → IsTrue (a u)
  link_in a s u h (at e) = h u e
  link_in a s u h (by j b r) = j

  -- a link to what is linked is a link
  pub link_through : (a s t : ℕ → Bool) (u : ℕ) → ((w : ℕ) → IsTrue (s w) → IsLinked g a t w) → IsLinked g a s u → IsLinked g a t u
  link_through a s t u h (at e) = h u e
  link_through a s t u h (by {v = w} i b r) = by i b (link_through a s t w h r)

  self : (v : ℕ) → IsTrue (v == v)
  self v = eq-eqb v v refl

  to_one : (a : ℕ → Bool) (v w u : ℕ) → IsTrue (w == v) → IsLinked g a (λ x. x == u) v → IsLinked g a (λ x. x == u) w
  to_one a v w u e r = subst (IsLinked g a (λ x. x == u)) (sym (eqb-true w v e)) r

  link_back : (a : ℕ → Bool) (v u : ℕ) → IsTrue (a v) → IsLinked g a (λ w. w == v) u → IsLinked g a (λ w. w == u) v
  link_back a v u i (at e) = at (eq-eqb v u (sym (eqb-true u v e)))
  link_back a v u i (by {v = w} j b r) = link_through a (λ x. x == w) (λ x. x == u) v
      (λ x e. to_one a w x u e (by (link_in a (λ x. x == v) w (λ x e. subst (λ y. a y ≡ true) (sym (eqb-true x v e)) i) r) (valid.symmetric u w b)
      (at (self u)))) (link_back a v w i r)

  -- where each member comes to v inside the set, the set is joined
  pub joined_by : (a v : ℕ) → IsTrue (has a v) → ((u : ℕ) → IsTrue (has a u) → IsLinked g (has a) (λ w. w == v) u) → IsJoinedSet g a
  joined_by a v i h u w iu iw = link_through (has a) (λ x. x == v) (λ x. x == w) u (λ x e. to_one (has a) v x w e (link_back (has a) v w i (h w iw))) (h u iu)

  -- a link inside a to s is one inside the set of all that are so linked
  kept_inside : (a t : ℕ) (s : ℕ → Bool) (u : ℕ) → IsSetOf t (IsLinked g (has a) s) → IsLinked g (has a) s u → IsLinked g (has t) s u
  kept_inside a t s u k (at e) = at e
  kept_inside a t s u k (by {v = w} i b r) = by (k.complete u (by i b r)) b (kept_inside a t s w k r)

  link_wider : (a b s : ℕ → Bool) (u : ℕ) → ((w : ℕ) → IsTrue (a w) → IsTrue (b w)) → IsLinked g a s u → IsLinked g b s u
  link_wider a b s u h (at e) = at e
  link_wider a b s u h (by {v = w} i c r) = by (h u i) c (link_wider a b s w h r)

  link_at : (a s t : ℕ → Bool) (u : ℕ) → ((w : ℕ) → IsTrue (s w) → IsTrue (t w)) → IsLinked g a s u → IsLinked g a t u
  link_at a s t u h (at e) = at (h u e)
  link_at a s t u h (by {v = w} i b r) = by i b (link_at a s t w h r)

  -- the district of a member of d is a maximal joined set
  pub district_maximal : (d v t : ℕ) → IsTrue (has d v) → IsDistrict g d (2 ^ v) t → IsMaximalJoined g d t
  district_maximal d v t i k = record {
    inside = λ u e. link_in (has d) (has (2 ^ v)) u (λ w e. subst (λ y. has d y ≡ true) (sym (only w e)) i) (k.sound u e);
    some = (v, k.complete v (at one_self));
    joined = joined_by t v (k.complete v (at one_self)) (λ u e. link_at (has t) (has (2 ^ v)) (λ w. w == v) u (λ w e. sym (has-pow v w) ∙ e)
        (kept_inside d t (has (2 ^ v)) u k (k.sound u e)));
    most = λ s w sub join i j u e. k.complete u (link_through (has d) (λ x. x == w) (has (2 ^ v)) u
        (λ x e. subst (IsLinked g (has d) (has (2 ^ v))) (sym (eqb-true x w e)) (k.sound w j)) (link_wider (has s) (has d) (λ x. x == w) u sub (join u w e i)));
  }
    where
      one_self : IsTrue (has (2 ^ v) v)
      one_self = has-pow v v ∙ self v

      only : (w : ℕ) → IsTrue (has (2 ^ v) w) → w ≡ v
      only w e = eqb-true w v (sym (has-pow v w) ∙ e)
