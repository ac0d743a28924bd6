-- The answer of a stop.
use Rattle.std.proofs.Common.{◌≡◌, ◌↔◌, ℕ, Bool, true, false, List, Option, Some, None, refl, sym, subst}
use Rattle.std.specs.Prelude.{IsSome, IfSome}
use Rattle.mixed_graph.specs.declared.sets.VSet.{VSet}
use Rattle.mixed_graph.specs.Vocabulary.{MixedGraph}
use Rattle.prob_expr.specs.Vocabulary.{masks_of, effect_on}
use Rattle.hedge.specs.declared.hedge.Hedge.{Hedge}
use Rattle.counter_models.specs.declared.counter_pair.CounterPair.{CounterPair}
use Rattle.identify.specs.Vocabulary.{IsRightHedge}
use Rattle.certificate.specs.Vocabulary.{hedge, hedge_view}
use Rattle.certificate_json.specs.Vocabulary.{IsBareTarget}
use Rattle.effect_answers.specs.Vocabulary.{IsReadBack, HasArrays}
use Rattle.effect_answers.proofs.ReadBack.{hedge_back}
use Rattle.surrogates.specs.declared.answer.CommonHedge.{CommonHedge}
use Rattle.surrogates.specs.Vocabulary.{IsRightBlock, IsStopShown, IsBlockShown, IsBlockedTogether}
use Rattle.surrogate_command.specs.declared.sets.SurrogateSets.{SurrogateSets}
use Rattle.surrogate_command.specs.declared.answer.Answer.{Answer}
use Rattle.surrogate_command.specs.Right.{stop_shown, IsStop, Decides}

-- the certificate of a common hedge is read back
common_back : (q : MixedGraph) (zs : List ℕ) (x y : ℕ) (district : VSet) (common : Option CommonHedge) → IsBareTarget q.vertices (effect_on x y)
    → IfSome common (λ k. IsBlockShown q zs x y district k.hedge k.pair) → IfSome common (λ k. HasArrays k.hedge)
    → IfSome common (λ k. IsReadBack q.vertices (hedge (effect_on x y) (hedge_view k.hedge)))
common_back q zs x y district None target shown arrays = tt
common_back q zs x y district (Some k) target shown arrays = hedge_back q x y k.hedge target arrays shown.hedge

-- what is shown of a stop is a right answer where the stop is
shown_decided : (wanted : Bool) (q : MixedGraph) (s : SurrogateSets) (district : VSet) (h : Hedge) (common : Option CommonHedge)
    → IsStop wanted q s (stop_shown wanted s district h common) → Decides wanted q s (stop_shown wanted s district h common)
shown_decided wanted q s district h None is = is
shown_decided false q s district h (Some k) is = is
shown_decided true q s district h (Some k) is = is

pub stop_decided : (wanted : Bool) (q : MixedGraph) (s : SurrogateSets) (zs : List ℕ) (district : VSet) (h : Hedge) (pair : CounterPair)
    (common : Option CommonHedge) (a : Answer) → zs ≡ masks_of s.experiments.items → IsBareTarget q.vertices (effect_on s.x.bits s.y.bits)
    → IsRightHedge q s.x.bits s.y.bits h pair → IsStopShown q zs s.x.bits s.y.bits district h pair
    → IfSome common (λ k. IsRightBlock q zs s.x.bits s.y.bits k.hedge k.pair)
    → IfSome common (λ k. IsBlockShown q zs s.x.bits s.y.bits district k.hedge k.pair) → IfSome common (λ k. HasArrays k.hedge)
    → (IsSome common ↔ IsBlockedTogether q zs s.x.bits s.y.bits) → a ≡ stop_shown wanted s district h common → Decides wanted q s a
stop_decided wanted q s zs district h pair common a same target right stop blocked shown arrays exact is =
    subst (Decides wanted q s) (sym is) (shown_decided wanted q s district h common (record {
      district = district;
      hedge = h;
      pair = pair;
      common = common;
      right = right;
      stop = subst (λ (l : List ℕ). IsStopShown q l s.x.bits s.y.bits district h pair) same stop;
      blocked = subst (λ (l : List ℕ). IfSome common (λ k. IsRightBlock q l s.x.bits s.y.bits k.hedge k.pair)) same blocked;
      shown = subst (λ (l : List ℕ). IfSome common (λ k. IsBlockShown q l s.x.bits s.y.bits district k.hedge k.pair)) same shown;
      arrays = arrays;
      exact = subst (λ (l : List ℕ). IsSome common ↔ IsBlockedTogether q l s.x.bits s.y.bits) same exact;
      is = refl;
      reads_back = common_back q zs s.x.bits s.y.bits district common target shown arrays;
    }))
