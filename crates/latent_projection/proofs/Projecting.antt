-- A projection by treks is the latent projection.
use Rattle.std.proofs.Common.{ℕ, ◌≡◌, Bool, true}
use Rattle.std.proofs.lemmas.Bool.{false_from_ne_true}
use Rattle.mixed_graph.specs.Vocabulary.{MixedGraph}
use Rattle.latent_projection.specs.Projection.{LeadsThrough, IsProjection}
use Rattle.latent_projection.proofs.Treks.{LeadsOn, ProjectsByTreks, clash}
use Rattle.latent_projection.proofs.LatentPaths.{trek_of, path_of}

module _ (g p : MixedGraph) (l : ℕ → Bool) (is : ProjectsByTreks g l p) where
  led_of : (a b : ℕ) → LeadsOn g l a b → LeadsThrough g l a b
  led_of a b r = record { next = r.next; rest = r.rest.path; path = (r.first, r.rest.leads); latent = r.rest.before }

  led_from : (a b : ℕ) → LeadsThrough g l a b → LeadsOn g l a b
  led_from a b r = record { next = r.next; first = r.path.0; rest = record { path = r.rest; leads = r.path.1; before = r.latent } }

  differ : (a b : ℕ) → p.both a b ≡ true → a ≡ b → ⊥
  differ a b e s = clash (p.both b b) (rw s at e) (is.apart b)

  pub projection_by_treks : IsProjection g l p
  projection_by_treks = record {
    vertices = is.vertices;
    arrow = λ a b x y. ((λ e. led_of a b (is.led a b e)), (λ r. is.led_back a b x y (led_from a b r)));
    both = λ a b x y. (
      (λ e. (differ a b e, path_of g l a b x y (differ a b e) (is.trek a b e))),
      (λ r. is.trek_back a b x y r.0 (trek_of g l a b r.1)),
    );
    isolated = λ v h. record {
      no_child = λ u. false_from_ne_true (p.arrow v u) (λ e. clash (l v) h (is.tail_observed v u e));
      no_parent = λ u. false_from_ne_true (p.arrow u v) (λ e. clash (l v) h (is.head_observed u v e));
      no_spouse = λ u. (
        false_from_ne_true (p.both v u) (λ e. clash (l v) h (is.both_observed v u e).0),
        false_from_ne_true (p.both u v) (λ e. clash (l v) h (is.both_observed u v e).1),
      );
    };
  }
