-- Two models that differ on what a target turns into differ on the target.
use Rattle.std.proofs.Common.{ℕ, ◌≡◌, ◌≤◌, ap, subst, inl, inr, List, ◌∙◌}
use Rattle.mixed_graph.specs.Vocabulary.{has, MixedGraph, IsMixedGraph}
use Rattle.mixed_graph.proofs.Masks.{has-zero}
use Rattle.finite_models.proofs.Bools.{not_both}
use Rattle.fractions.specs.Vocabulary.{IsEqual}
use Rattle.fractions.proofs.FractionLaws.{equal_sym, equal_trans}
use Rattle.hedge.specs.declared.hedge.Hedge.{Hedge}
use Rattle.hedge.specs.Vocabulary.{IsHedge}
use Rattle.prob_expr.specs.Vocabulary.{PlainTarget, effect}
use Rattle.prob_expr.proofs.Allowed.{in_second}
use Rattle.conditional_id.specs.Conditionals.{IsConditionalTarget, IsTurned, AreEqualEffects}
use Rattle.conditional_id.specs.HedgeLaws.{AreModelsOf, HaveOpenWalks, HedgesGiveModelsTurned}
use Rattle.conditional_id.proofs.Answered.{turned_is_same}
use Rattle.conditional_id.proofs.TurningLaw.{turned_target}
use Rattle.conditional_id.proofs.Models.{hedges_give_models}

-- two models of one target are models of another with the same effect
same_effect : (g : MixedGraph) (t r : PlainTarget) → AreEqualEffects g t r → AreModelsOf g r → AreModelsOf g t
same_effect g t r same m = record {
  first = m.first;
  second = m.second;
  first_fits = m.first_fits;
  second_fits = m.second_fits;
  first_two = m.first_two;
  second_two = m.second_two;
  first_positive = m.first_positive;
  second_positive = m.second_positive;
  observed = m.observed;
  differ = record {
    at = m.differ.at;
    within = m.differ.within;
    unequal = λ e. m.differ.unequal
        (equal_trans (effect m.first r m.differ.at) (effect m.first t m.differ.at) (effect m.second r m.differ.at)
        (equal_sym (effect m.first t m.differ.at) (effect m.first r m.differ.at)
        (same m.first m.first_fits m.first_positive m.differ.at m.differ.within))
        (equal_trans (effect m.first t m.differ.at) (effect m.second t m.differ.at) (effect m.second r m.differ.at) e
        (same m.second m.second_fits m.second_positive m.differ.at
        (in_second m.first m.second m.observed.vertices m.observed.sizes m.differ.at m.differ.within))));
  };
}

pub hedges_give_models_turned : HedgesGiveModelsTurned
hedges_give_models_turned = λ g ok few t target x' z' moved turned walks h hedge. go g ok few t target x' z' moved turned walks h hedge turned
  where
    go : (g : MixedGraph) → IsMixedGraph g → g.vertices ≤ 64 → (t : PlainTarget) → IsConditionalTarget g t → (x' z' : ℕ) (moved : List ℕ)
        → IsTurned g t x' z' moved → HaveOpenWalks g x' t.y z' → (h : Hedge) → IsHedge g x' z' h → IsTurned g t x' z' moved → AreModelsOf g t
    go g ok few t target x' z' moved turned walks h hedge (inl k) = absurd (not_both (has x' hedge.meets.vertex) hedge.meets.in_second
        (ap (λ n. has n hedge.meets.vertex) (k.1 ∙ k.0) ∙ has-zero hedge.meets.vertex))
    go g ok few t target x' z' moved turned walks h hedge (inr k) =
        same_effect g t (record { x = x'; y = t.y; given = z' }) (turned_is_same g ok t target x' z' moved turned)
        (hedges_give_models g ok few x' t.y z' (turned_target g t.y t.x t.given x' z' moved k.1 target) walks h hedge)
