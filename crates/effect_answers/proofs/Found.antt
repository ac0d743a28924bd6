-- What is known of a hedge that the identification answers.
use Rattle.std.proofs.Common.{◌≡◌, ℕ, subst}
use Rattle.mixed_graph.specs.Vocabulary.{MixedGraph}
use Rattle.hedge.specs.declared.hedge.Hedge.{Hedge}
use Rattle.hedge.specs.Vocabulary.{IsHedge}
use Rattle.counter_models.specs.declared.counter_pair.CounterPair.{CounterPair}
use Rattle.counter_models.specs.Vocabulary.{IsPairOf}
use Rattle.identification_theory.specs.Vocabulary.{IsUnidentified}
use Rattle.identify.specs.declared.answer.Answer.{Answer}
use Rattle.identify.specs.declared.answer.FormulaAnswer.{FormulaAnswer}
use Rattle.identify.specs.Vocabulary.{IsRight, IfHedge, IsRightAlone, IfHedgeAlone, IsHedgeOf}
use Rattle.identify.specs.declared.answer.Answer.TheVariants as answers
use Rattle.identify.specs.declared.answer.FormulaAnswer.TheVariants as alone
use Rattle.effect_answers.specs.Hedges.{IsFoundHedge}

module _ (q : MixedGraph) (x y : ℕ) {a : Answer} (h : Hedge) (pair : CounterPair) (is : a ≡ answers.Hedge h pair) where
  -- it is the hedge at which the procedure stops, with its data and its models
  pub found : IsRight q x y a → IfHedge a (λ h pair. IsHedge q x y h) → IfHedge a (λ h pair. IsUnidentified q x y h.small.bits h.big.bits)
      → IfHedge a (λ h pair. IsHedgeOf q h)
      → IfHedge a (IsPairOf q x y) → IsFoundHedge q x y h pair
  found right evidence stop built models = record {
    right = subst (IsRight q x y) is right;
    evidence = subst (λ b. IfHedge b (λ h pair. IsHedge q x y h)) is evidence;
    stop = subst (λ b. IfHedge b (λ h pair. IsUnidentified q x y h.small.bits h.big.bits)) is stop;
    built = subst (λ b. IfHedge b (λ h pair. IsHedgeOf q h)) is built;
    models = subst (λ b. IfHedge b (IsPairOf q x y)) is models;
  }

-- the same where a formula alone was asked for
module _ (q : MixedGraph) (x y : ℕ) {a : FormulaAnswer} (h : Hedge) (pair : CounterPair) (is : a ≡ alone.Hedge h pair) where
  pub found_alone : IsRightAlone q x y a → IfHedgeAlone a (λ h pair. IsHedge q x y h)
      → IfHedgeAlone a (λ h pair. IsUnidentified q x y h.small.bits h.big.bits) → IfHedgeAlone a (λ h pair. IsHedgeOf q h)
      → IfHedgeAlone a (IsPairOf q x y) → IsFoundHedge q x y h pair
  found_alone right evidence stop built models = record {
    right = subst (IsRightAlone q x y) is right;
    evidence = subst (λ b. IfHedgeAlone b (λ h pair. IsHedge q x y h)) is evidence;
    stop = subst (λ b. IfHedgeAlone b (λ h pair. IsUnidentified q x y h.small.bits h.big.bits)) is stop;
    built = subst (λ b. IfHedgeAlone b (λ h pair. IsHedgeOf q h)) is built;
    models = subst (λ b. IfHedgeAlone b (IsPairOf q x y)) is models;
  }
