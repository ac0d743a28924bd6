-- From what is answered for an effect to whether it has a hedge.
use Rattle.std.proofs.Common.{ℕ, ◌≡◌, ◌↔◌, IsTrue, Result, Ok, Err, IfOk, refl, subst}
use Rattle.mixed_graph.specs.Vocabulary.{MixedGraph, one}
use Rattle.hedge.specs.declared.hedge.Hedge.{Hedge as HedgeData}
use Rattle.hedge.specs.Vocabulary.{IsHedge}
use Rattle.prob_expr.specs.Vocabulary.{formula_view}
use Rattle.do_derivation.specs.Vocabulary.{derivation_view}
use Rattle.identify.specs.declared.answer.Answer.{Answer}
use Rattle.identify.specs.Vocabulary.{IsRight, is_hedge}
use Rattle.identify.specs.declared.answer.Answer.TheVariants.{Formula, Hedge}
use Rattle.survey_command.specs.Tallies.{IsAnswerFor}

-- a hedge is answered exactly where there is one, and otherwise a right formula
answered : (g : MixedGraph) (a b : ℕ) (w : Answer) → IsRight g (one a) (one b) w → (IsTrue (is_hedge w) ↔ ((h : HedgeData) × IsHedge g (one a) (one b) h))
    → IsAnswerFor g a b (is_hedge w)
answered g a b (Formula f d) right exact = (λ h. cc (exact.1 h), record { formula = formula_view f; derivation = derivation_view d; right = right })
answered g a b (Hedge h pair) right exact = exact.0 refl

-- the same for the masks of a and b, where there is an answer
pub answered_of : {E : Type 0} (g : MixedGraph) (a b x y : ℕ) (r : Result Answer E) → x ≡ one a → y ≡ one b → IfOk r (λ w. IsRight g x y w)
    → IfOk r (λ w. IsTrue (is_hedge w) ↔ ((h : HedgeData) × IsHedge g x y h)) → IfOk r (λ w. IsAnswerFor g a b (is_hedge w))
answered_of g a b x y (Ok w) ex ey right exact =
    let right_x = subst (λ m. IsRight g m y w) ex right in
    let exact_x = subst (λ m. IsTrue (is_hedge w) ↔ ((h : HedgeData) × IsHedge g m y h)) ex exact in
    answered g a b w (subst (λ m. IsRight g (one a) m w) ey right_x)
    (subst (λ m. IsTrue (is_hedge w) ↔ ((h : HedgeData) × IsHedge g (one a) m h)) ey exact_x)
answered_of g a b x y (Err e) ex ey right exact = tt
