-- Separation makes independence and the equations of the rules.
use Rattle.std.proofs.Common.{ℕ, ◌*◌, ◌≡◌, ◌≤◌, Bool, true, false, ◌||◌, subst}
use Rattle.std.proofs.lemmas.Bool.{false_from_ne_true, or_from}
use Rattle.mixed_graph.specs.Vocabulary.{MixedGraph, IsMixedGraph, Apart}
use Rattle.m_separation.specs.Vocabulary.{IsSeparated}
use Rattle.finite_models.specs.Vocabulary.{FiniteModel, Fits, IsAssignment, IsPositiveModel, event_weight, weight_of}
use Rattle.finite_models.proofs.Bools.{not_both}
use Rattle.finite_models.proofs.Following.{follows_of}
use Rattle.finite_models.proofs.Positive.{positive_weight}
use Rattle.finite_models.proofs.Ranks.{with_rank}
use Rattle.do_rules.specs.Rules.{AreThreeSets, AreFourSets, AreIndependent, IsRuleGraph, IsBlockedFor, IsRuleFor}
use Rattle.do_rules.specs.declared.rules.Rule.{Rule}
use Rattle.do_rules.specs.declared.rules.Rule.TheVariants.{One, Two, Three}
use Rattle.do_rules.proofs.Separation.{separated_independent}
use Rattle.do_rules.proofs.TwoRules.{rule_1, rule_2}
use Rattle.do_rules.proofs.RuleThree.{rule_3}

flipped : (s t : ℕ → Bool) → Apart s t → Apart t s
flipped s t apart v e = false_from_ne_true (s v) (λ h. not_both (t v) e (apart v h))

-- a set apart from two sets is apart from both together
apart_from_both : (s x w : ℕ → Bool) → Apart x s → Apart s w → (v : ℕ) → s v ≡ true → (x v || w v) ≡ false
apart_from_both s x w xs sw v e = or_from (x v) (w v) (flipped x s xs v e) (sw v e)

module _ (g : MixedGraph) (ok : IsMixedGraph g) where
  -- sets that w separates are independent given w, in each model that fits the graph
  pub independent_holds : (x y w : ℕ → Bool) → AreThreeSets g.vertices x y w → IsSeparated g x y w → AreIndependent g x y w
  independent_holds x y w sets sep m fit s =
      with_rank g ok (event_weight m (λ v. x v || (y v || w v)) s * event_weight m w s)
      (event_weight m (λ v. x v || w v) s * event_weight m (λ v. y v || w v) s)
      (λ rank ranked. separated_independent g m rank ok ranked (follows_of g m fit) x y w sets.x_within sets.y_within sets.w_within sets.x_w sets.y_w sep s)

  module _ (x y z w : ℕ → Bool) (sets : AreFourSets g.vertices x y z w) where
    positive : (m : FiniteModel) → Fits g m → IsPositiveModel m → (s : ℕ → ℕ) → IsAssignment m.vertices m.size s → (b a : ℕ → Bool) → 1 ≤ weight_of m b a s
    positive m fit pos s within b a = positive_weight g m ok (follows_of g m fit) pos b a s within

    y_given : (v : ℕ) → y v ≡ true → (x v || w v) ≡ false
    y_given = apart_from_both y x w sets.x_y sets.y_w

    z_given : (v : ℕ) → z v ≡ true → (x v || w v) ≡ false
    z_given = apart_from_both z x w sets.x_z sets.z_w

    graph_holds : (r : Rule) (h : MixedGraph) → IsRuleGraph r g x z w h → IsSeparated h y z (λ v. x v || w v) → IsRuleFor r g x y z w
    graph_holds One h is sep m fit pos s within = record {
      left_bottom = positive m fit pos s within x (λ v. z v || w v);
      right_bottom = positive m fit pos s within x w;
      products = with_rank g ok (weight_of m x (λ v. y v || (z v || w v)) s * weight_of m x w s)
          (weight_of m x (λ v. y v || w v) s * weight_of m x (λ v. z v || w v) s)
          (λ rank ranked. rule_1 g m rank ok ranked (follows_of g m fit)
          s within x y z w sets.x_within sets.y_within sets.z_within sets.w_within y_given z_given
          (subst (λ k. IsSeparated k y z (λ v. x v || w v)) is sep));
    }
    graph_holds Two h is sep m fit pos s within = record {
      left_bottom = positive m fit pos s within (λ v. x v || z v) w;
      right_bottom = positive m fit pos s within x (λ v. z v || w v);
      products = with_rank g ok (weight_of m (λ v. x v || z v) (λ v. y v || w v) s * weight_of m x (λ v. z v || w v) s)
          (weight_of m x (λ v. y v || (z v || w v)) s * weight_of m (λ v. x v || z v) w s)
          (λ rank ranked. rule_2 g m rank ok ranked (follows_of g m fit) s within x z (flipped x z sets.x_z)
          y w sets.x_within sets.y_within sets.z_within sets.w_within y_given z_given sets.y_z
          (subst (λ k. IsSeparated k y z (λ v. x v || w v)) is sep));
    }
    graph_holds Three h is sep m fit pos s within = record {
      left_bottom = positive m fit pos s within (λ v. x v || z v) w;
      right_bottom = positive m fit pos s within x w;
      products = with_rank g ok (weight_of m (λ v. x v || z v) (λ v. y v || w v) s * weight_of m x w s)
          (weight_of m x (λ v. y v || w v) s * weight_of m (λ v. x v || z v) w s)
          (λ rank ranked. rule_3 g m rank ok ranked (follows_of g m fit) s within pos x y z w is.0 sets.x_within sets.y_within sets.z_within sets.w_within
          (flipped x y sets.x_y) sets.y_w sets.y_z (flipped x z sets.x_z) sets.z_w (flipped x w sets.x_w) is.1.inside is.1.no_ancestor
          (subst (λ k. IsSeparated k y z (λ v. x v || w v)) is.2 sep));
    }

    -- what a rule asks makes its equation
    pub rule_holds : (r : Rule) → IsBlockedFor r g x y z w → IsRuleFor r g x y z w
    rule_holds r b = graph_holds r b.graph b.is_graph b.separated
