-- Separation is independence.
use Rattle.std.proofs.Common.{ℕ, ◌*◌, ◌≡◌, ◌<◌, Bool, true, false, refl, ◌||◌, ◌∷◌, []}
use Rattle.std.proofs.lemmas.Bool.{false_from_ne_true, or_left, or_right}
use Rattle.mixed_graph.specs.Vocabulary.{MixedGraph, IsMixedGraph, IsAncestor}
use Rattle.m_separation.specs.Vocabulary.{IsSeparated}
use Rattle.finite_models.specs.Vocabulary.{FiniteModel, event_weight}
use Rattle.finite_models.proofs.Bools.{either, same_truth}
use Rattle.finite_models.proofs.Following.{Follows}
use Rattle.finite_models.proofs.Solutions.{IsRanked}
use Rattle.finite_models.proofs.Tested.{Test, stable, tested}
use Rattle.do_rules.proofs.Product.{independent}
use Rattle.do_rules.proofs.Reach.{Linked, here, by_both, by_child, by_parent, reach}

module _ (g : MixedGraph) (m : FiniteModel) (rank : ℕ → ℕ) (is_graph : IsMixedGraph g) (ranked : IsRanked g rank) (follows : Follows g m) (X Y W : ℕ → Bool)
    (x_low : (v : ℕ) → X v ≡ true → v < g.vertices) (y_low : (v : ℕ) → Y v ≡ true → v < g.vertices) (w_low : (v : ℕ) → W v ≡ true → v < g.vertices)
    (x_out : (v : ℕ) → X v ≡ true → W v ≡ false) (y_out : (v : ℕ) → Y v ≡ true → W v ≡ false) (sep : IsSeparated g X Y W) where
  Above : ℕ → Type 0
  Above v = IsAncestor g (λ v. X v || (Y v || W v)) v

  member : (v : ℕ) → (X v || (Y v || W v)) ≡ true → Above v
  unfolding Above
  member v e = record {
    vertex = either (X v) (Y v || W v) (v < g.vertices) e (x_low v) (λ r. either (Y v) (W v) (v < g.vertices) r (y_low v) (w_low v));
    path = [];
    end = v;
    leads = refl;
    inside = e;
  }

  above_parent : (p v : ℕ) → g.arrow p v ≡ true → Above v → Above p
  unfolding Above
  above_parent p v a r = record { vertex = is_graph.tail_below p v a; path = v ∷ r.path; end = r.end; leads = (a, r.leads); inside = r.inside }

  -- sets that W separates are independent given W, in a model that follows the graph
  pub separated_independent : (s : ℕ → ℕ) → event_weight m (λ v. X v || (Y v || W v)) s * event_weight m W s
      ≡ event_weight m (λ v. X v || W v) s * event_weight m (λ v. Y v || W v) s
  unfolding Above
  separated_independent s =
      stable (event_weight m (λ v. X v || (Y v || W v)) s * event_weight m W s) (event_weight m (λ v. X v || W v) s * event_weight m (λ v. Y v || W v) s)
      (λ differ. tested Above g.vertices (λ S. tested (Linked g S.test W Y) g.vertices (λ K. differ (from S K))))
    where
      from : (S : Test Above g.vertices) (K : Test (Linked g S.test W Y) g.vertices)
          → event_weight m (λ v. X v || (Y v || W v)) s * event_weight m W s ≡ event_weight m (λ v. X v || W v) s * event_weight m (λ v. Y v || W v) s
      from S K =
          independent g m rank ranked follows S.test K.test W
          (λ p v a e. S.complete p (is_graph.tail_below p v a) (above_parent p v a (S.sound v e)))
          (λ u v su sv b. same_truth (K.test u) (K.test v)
          (λ e. K.complete v (is_graph.both_below v u (is_graph.symmetric u v b)) (by_both sv (is_graph.symmetric u v b) (K.sound u e)))
          (λ e. K.complete u (is_graph.both_below u v b) (by_both su b (K.sound v e))))
          (λ p v sv a o. same_truth (K.test p) (K.test v)
          (λ e. K.complete v (is_graph.head_below p v a) (by_parent sv a o (K.sound p e)))
          (λ e. K.complete p (is_graph.tail_below p v a) (by_child (S.complete p (is_graph.tail_below p v a) (above_parent p v a (S.sound v sv))) a o
          (K.sound v e))))
          X Y
          (λ v e. S.complete v (x_low v e) (member v (or_left (X v) (Y v || W v) e)))
          (λ v e. S.complete v (y_low v e) (member v (or_right (X v) (Y v || W v) (or_left (Y v) (W v) e))))
          (λ v e. S.complete v (w_low v e) (member v (or_right (X v) (Y v || W v) (or_right (Y v) (W v) e))))
          (λ v e. false_from_ne_true (K.test v) (λ k. let c = reach g X Y W S.test is_graph x_low (λ u su. S.sound u su) x_out y_out sep v (K.sound v k) in
          sep v c.steps (record {
            vertex = x_low v e;
            begins = e;
            ends = c.ends;
            first_outside = x_out v e;
            last_outside = c.last_outside;
            walk = c.walk;
            passed = c.passed;
          })))
          (λ v e. K.complete v (y_low v e) (here e))
          s
