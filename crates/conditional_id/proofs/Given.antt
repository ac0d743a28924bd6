-- A hedge for what is left excludes a formula for the target.
use Rattle.std.proofs.Common.{ℕ, ◌*◌, ◌≤◌, ap, inl, inr, List, IsTrue, ◌∙◌}
use Rattle.mixed_graph.specs.Vocabulary.{has, MixedGraph, IsMixedGraph}
use Rattle.mixed_graph.proofs.Masks.{has-zero}
use Rattle.finite_models.specs.Vocabulary.{total}
use Rattle.finite_models.proofs.Bools.{not_both}
use Rattle.fractions.proofs.FractionLaws.{equal_sym, equal_trans}
use Rattle.hedge.specs.declared.hedge.Hedge.{Hedge}
use Rattle.hedge.specs.Vocabulary.{IsHedge}
use Rattle.counter_models.specs.Vocabulary.{first_model, second_mechanism, data_of}
use Rattle.counter_models.proofs.Witness.{effects}
use Rattle.prob_expr.specs.Vocabulary.{PlainTarget, effect}
use Rattle.prob_expr.proofs.Allowed.{in_second}
use Rattle.prob_expr.proofs.Observed.{formula_fixes_effect}
use Rattle.conditional_id.specs.Conditionals.{IsConditionalTarget, IsTurned, IsTurning, AreTurned}
use Rattle.conditional_id.specs.Conditionals.AreTurned.{still, move}
use Rattle.conditional_id.proofs.Answered.{turned_is_same}
use Rattle.conditional_id.proofs.TurningLaw.{moved_target}
use Rattle.counter_models.proofs.Bridge.{whole}
use Rattle.counter_models.proofs.HedgePair.{pair, is_pair}
use Rattle.conditional_id.specs.HedgeLaws.{IsFixed, HedgesExcludeGiven, HedgesExcludeTurned, HedgesExcludeFormula}
use Rattle.conditional_id.proofs.Excluding.{leaf_pairs_exclude}
use Rattle.conditional_id.proofs.Grown.{grown, grown_hedge, grown_roots}
use Rattle.conditional_id.proofs.ParityLeaves.{read_bit, leaf_pair}

-- a hedge whose roots hold all of z that is in small
rooted : (g : MixedGraph) → IsMixedGraph g → g.vertices ≤ 64 → (x y z : ℕ) → IsConditionalTarget g (record { x = x; y = y; given = z })
    → ((v : ℕ) → IsTrue (has z v) → IsTurning g x y z v → ⊥)
    → (h : Hedge) → IsHedge g x z h → ((v : ℕ) → IsTrue (has h.small.bits v) → IsTrue (has z v) → IsTrue (has h.roots.bits v))
    → IsFixed g (record { x = x; y = y; given = z }) → ⊥
rooted g ok few x y z target none h hedge roots fixed =
    let two = pair g ok few x z h hedge in
    let is = is_pair g ok few x z h hedge in
    let d = data_of z h is.kept two.carry.next in
    let w = whole g ok few x z h hedge target.sets.x_w is.kept two.carry.next is.are_kept in
    let e = effects g ok (has x) d w in
    e.unequal (ap (λ k. k * total (first_model g.vertices d))
    (leaf_pairs_exclude g ok x y z target none fixed (first_model g.vertices d) (second_mechanism g.vertices d) (read_bit d)
    (leaf_pair g ok (has x) d w roots) e.at e.within))

pub hedges_exclude_given : HedgesExcludeGiven
hedges_exclude_given = λ g ok few x y z target none h hedge fixed.
    rooted g ok few x y z target none (grown g few x z h hedge) (grown_hedge g few x z h hedge) (λ v s i. grown_roots g few x z h hedge v s i) fixed

-- what is left doesn't turn
none_left : (g : MixedGraph) (y : ℕ) {x z x' z' : ℕ} {vs : List ℕ} → AreTurned g y x z x' z' vs → (v : ℕ) → IsTrue (has z' v) → IsTurning g x' y z' v → ⊥
none_left g y (still n) v i k = n v i k
none_left g y (move a b c rest) v i k = none_left g y rest v i k

left_target : (g : MixedGraph) (y : ℕ) {x z x' z' : ℕ} {vs : List ℕ} → AreTurned g y x z x' z' vs → IsConditionalTarget g (record { x = x; y = y; given = z })
    → IsConditionalTarget g (record { x = x'; y = y; given = z' })
left_target g y (still n) k = k
left_target g y (move {x} {z} {v = v} a b c rest) k = left_target g y rest (moved_target g y x z v a k)

pub hedges_exclude_turned : HedgesExcludeTurned
hedges_exclude_turned = λ g ok few t target x' z' moved turned h hedge fixed. go g ok few t target x' z' moved turned h hedge fixed turned
  where
    go : (g : MixedGraph) → IsMixedGraph g → g.vertices ≤ 64 → (t : PlainTarget) → IsConditionalTarget g t → (x' z' : ℕ) (moved : List ℕ)
        → IsTurned g t x' z' moved → (h : Hedge) → IsHedge g x' z' h → IsFixed g t → IsTurned g t x' z' moved → ⊥
    go g ok few t target x' z' moved turned h hedge fixed (inl k) = not_both (has x' hedge.meets.vertex) hedge.meets.in_second
        (ap (λ n. has n hedge.meets.vertex) (k.1 ∙ k.0) ∙ has-zero hedge.meets.vertex)
    go g ok few t target x' z' moved turned h hedge fixed (inr k) =
        hedges_exclude_given g ok few x' t.y z' (left_target g t.y k.1 target) (none_left g t.y k.1) h hedge
        (λ m₁ m₂ f₁ f₂ t₁ t₂ p₁ p₂ agreed s within.
        equal_trans (effect m₁ (record { x = x'; y = t.y; given = z' }) s) (effect m₁ t s) (effect m₂ (record { x = x'; y = t.y; given = z' }) s)
        (equal_sym (effect m₁ t s) (effect m₁ (record { x = x'; y = t.y; given = z' }) s) (turned_is_same g ok t target x' z' moved turned m₁ f₁ p₁ s within))
        (equal_trans (effect m₁ t s) (effect m₂ t s) (effect m₂ (record { x = x'; y = t.y; given = z' }) s) (fixed m₁ m₂ f₁ f₂ t₁ t₂ p₁ p₂ agreed s within)
        (turned_is_same g ok t target x' z' moved turned m₂ f₂ p₂ s (in_second m₁ m₂ agreed.vertices agreed.sizes s within))))

pub hedges_exclude_formula : HedgesExcludeFormula
hedges_exclude_formula = λ g ok few t target x' z' moved turned h hedge f free equals. hedges_exclude_turned g ok few t target x' z' moved turned h hedge
    (λ m₁ m₂ f₁ f₂ t₁ t₂ p₁ p₂ agreed s within. formula_fixes_effect g ok t f free equals m₁ m₂ f₁ f₂ p₁ p₂ agreed s within)
