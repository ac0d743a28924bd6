-- The latent projection of a mixed graph is a mixed graph.
use Rattle.std.proofs.Common.{ℕ, ◌<◌, ◌≡◌, Bool, true, false, List, [], ◌∷◌, ◌++◌, refl, sym, subst}
use Rattle.std.proofs.lemmas.Bool.{false_from_ne_true}
use Rattle.mixed_graph.specs.Vocabulary.{MixedGraph, IsMixedGraph, IsDirectedPath}
use Rattle.mixed_graph.proofs.Paths.{end_below}
use Rattle.latent_projection.specs.Projection.{LeadsThrough, IsProjection}
use Rattle.latent_projection.proofs.Treks.{IsTrek, fork, edge, clash}
use Rattle.latent_projection.proofs.LatentPaths.{trek_of, path_of}

module _ (g p : MixedGraph) (l : ℕ → Bool) (ok : IsMixedGraph g) (is : IsProjection g l p) where
  -- ---- arrows
  tail_observed : (a b : ℕ) → p.arrow a b ≡ true → l a ≡ false
  tail_observed a b e = false_from_ne_true (l a) (λ h. clash (p.arrow a b) e ((is.isolated a h).no_child b))

  head_observed : (a b : ℕ) → p.arrow a b ≡ true → l b ≡ false
  head_observed a b e = false_from_ne_true (l b) (λ h. clash (p.arrow a b) e ((is.isolated b h).no_parent a))

  led : (a b : ℕ) → p.arrow a b ≡ true → LeadsThrough g l a b
  led a b e = (is.arrow a b (tail_observed a b e) (head_observed a b e)).0 e

  below : (a : ℕ) → a < g.vertices → a < p.vertices
  below a h = subst (λ n. a < n) (sym is.vertices) h

  led_below : (a b : ℕ) → LeadsThrough g l a b → b < g.vertices
  led_below a b r = end_below g ok.head_below r.next r.rest b (ok.head_below a r.next r.path.0) r.path.1

  joined : (a : ℕ) (xs : List ℕ) (b : ℕ) (ys : List ℕ) (c : ℕ) → IsDirectedPath g a xs b → IsDirectedPath g b ys c → IsDirectedPath g a (xs ++ ys) c
  joined a [] b ys c e q = subst (λ v. IsDirectedPath g v ys c) (sym e) q
  joined a (x ∷ xs) b ys c e q = (e.0, joined x xs b ys c e.1 q)

  -- the path of g along a path of the projection
  record Longer (v u : ℕ) : Type 0 where
    path : List ℕ
    leads : IsDirectedPath g v path u

  longer : (v : ℕ) (xs : List ℕ) (u : ℕ) → IsDirectedPath p v xs u → Longer v u
  longer v [] u q = record { path = []; leads = q }
  longer v (x ∷ xs) u q =
      let r = led v x q.0 in
      let t = longer x xs u q.1 in
      record { path = r.next ∷ (r.rest ++ t.path); leads = (r.path.0, joined r.next r.rest x t.path u r.path.1 t.leads) }

  no_cycle : (v x : ℕ) (xs : List ℕ) → IsDirectedPath p v (x ∷ xs) v → ⊥
  no_cycle v x xs q =
      let r = led v x q.0 in
      let t = longer x xs v q.1 in
      ok.acyclic v r.next (r.rest ++ t.path) (r.path.0, joined r.next r.rest x t.path v r.path.1 t.leads)

  -- ---- bidirected edges
  first_observed : (a b : ℕ) → p.both a b ≡ true → l a ≡ false
  first_observed a b e = false_from_ne_true (l a) (λ h. clash (p.both a b) e ((is.isolated a h).no_spouse b).0)

  second_observed : (a b : ℕ) → p.both a b ≡ true → l b ≡ false
  second_observed a b e = false_from_ne_true (l b) (λ h. clash (p.both a b) e ((is.isolated b h).no_spouse a).1)

  record Joined (a b : ℕ) : Type 0 where
    first : l a ≡ false
    second : l b ≡ false
    differ : a ≡ b → ⊥
    trek : IsTrek g l a b

  joined_by : (a b : ℕ) → p.both a b ≡ true → Joined a b
  joined_by a b e =
      let first = first_observed a b e in
      let second = second_observed a b e in
      let h = (is.both a b first second).0 e in
      record { first = first; second = second; differ = h.0; trek = trek_of g l a b h.1 }

  turned : (a b : ℕ) → IsTrek g l a b → IsTrek g l b a
  turned a b (fork c e x y) = fork c e y x
  turned a b (edge c d e x y) = edge d c (ok.symmetric c d e) y x

  both_back : (a b : ℕ) → Joined a b → p.both b a ≡ true
  both_back a b j =
      let differ : b ≡ a → ⊥ = λ s. j.differ (sym s) in
      (is.both b a j.second j.first).1 (differ, path_of g l b a j.second j.first differ (turned a b j.trek))

  trek_below : (a b : ℕ) → l a ≡ false → IsTrek g l a b → a < g.vertices
  trek_below a b o (fork c e x y) = go x.path x.leads
    where
      go : (xs : List ℕ) → IsDirectedPath g c xs a → a < g.vertices
      go [] q = clash (l a) (subst (λ v. l v ≡ true) q e) o
      go (z ∷ zs) q = end_below g ok.head_below z zs a (ok.head_below c z q.0) q.1
  trek_below a b o (edge c d e x y) = end_below g ok.head_below c x.path a (ok.both_below c d e) x.leads

  not_joined_to_itself : (v : ℕ) → p.both v v ≡ false
  not_joined_to_itself v = false_from_ne_true (p.both v v) (λ e. (joined_by v v e).differ refl)

  -- the latent projection of a mixed graph is a mixed graph
  pub IsMixedGraph-projection : IsMixedGraph p
  IsMixedGraph-projection = record {
    tail_below = λ a b e. let r = led a b e in below a (ok.tail_below a r.next r.path.0);
    head_below = λ a b e. below b (led_below a b (led a b e));
    both_below = λ a b e. let j = joined_by a b e in below a (trek_below a b j.first j.trek);
    symmetric = λ a b e. both_back a b (joined_by a b e);
    no_loop = not_joined_to_itself;
    acyclic = no_cycle;
  }
