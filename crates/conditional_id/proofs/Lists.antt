-- The steps of the divided formula, as lists.
use Rattle.std.proofs.Common.{ℕ, ◌≡◌, true, false, refl, sym, ap, ap₂, ◌∙◌, List, [], ◌∷◌, ◌++◌}
use Rattle.std.specs.Global.{Box, Vec}
use Rattle.conditional_id.specs.Conditionals.{divided, divided_steps, steps_of, summed_steps}
use Rattle.do_derivation.proofs.StepViews.{step-Make}
use Rattle.do_derivation.specs.Plans.{Move, Plan, plan}
use Rattle.do_derivation.specs.declared.steps.Step.{At, Make, Then}
use Rattle.do_derivation.specs.declared.moves.Move.TheVariants.{WithSet, Bare}
use Rattle.do_derivation.specs.Vocabulary.{no_plans, step_view, steps_view}
use Rattle.do_derivation.specs.declared.steps.Step.{Step}
use Rattle.do_derivation.specs.declared.moves.SetMove.TheVariants as set_move
use Rattle.do_derivation.specs.declared.moves.BareMove.TheVariants as bare_move
use Rattle.identify.proofs.Steps.{onto_append, onto_more, onto_nothing, step-At, step-Then}
use Rattle.identify.specs.Vocabulary.{onto}
use Rattle.identification_theory.specs.Vocabulary.{single}
use Rattle.mixed_graph.specs.declared.sets.VSet.{VSet}
use Rattle.mixed_graph.specs.Vocabulary.{is_empty}
use Rattle.prob_expr.specs.Tree.{quotient, sum}
use Rattle.prob_expr.specs.Vocabulary.{PlainFormula}

-- ---- the formula
pub divided_whole : (y z : ℕ) (f : PlainFormula) → is_empty z ≡ true → f ≡ divided y z f
divided_whole y z f e = rw e refl

pub divided_parts : (y z : ℕ) (f : PlainFormula) → is_empty z ≡ false → record { defs = f.defs; main = quotient f.main (sum y f.main) } ≡ divided y z f
divided_parts y z f e = rw e refl

-- ---- the steps
pub list_steps : (out : List Step) (l : Vec Step) → steps_view (out ++ l.items) ≡ onto out (steps_of (step_view (Then l)))
list_steps out l = sym (onto_nothing (out ++ l.items)) ∙ (onto_append out l.items no_plans
    ∙ (ap (onto out) (onto_nothing l.items) ∙ sym (ap (λ p. onto out (steps_of p)) (step-Then l))))

pub alone_steps : (out : List Step) (s : Step) → steps_of (step_view s) ≡ single (step_view s) → steps_view (out ++ s ∷ []) ≡ onto out (steps_of (step_view s))
alone_steps out s e = sym (onto_nothing (out ++ s ∷ [])) ∙ (onto_more out s no_plans ∙ ap (onto out) (sym e))

pub whole_steps : (y z : ℕ) (out : List Step) (p : Plan) → is_empty z ≡ true → onto out (steps_of p) ≡ onto out (divided_steps y z p)
whole_steps y z out p e = rw e refl

pub summed : (y : VSet) (b : Box Step) → steps_view (([] ++ Make (WithSet set_move.Widen y) ∷ []) ++ At 0 b ∷ []) ≡ summed_steps y.bits (step_view b.value)
summed y b = ap₂ (λ p q. plan p (plan q no_plans)) (step-Make (WithSet set_move.Widen y)) (step-At 0 b)

pub parted : (y z : ℕ) (out : List Step) (below : Vec Step) (p : Plan) → is_empty z ≡ false → steps_view below.items ≡ summed_steps y p
    → onto out (plan (step_view (Make (Bare bare_move.Split))) (plan (Plan.At 0 p) (single (Plan.At 1 (step_view (Then below)))))) ≡ onto out (divided_steps y z p)
parted y z out below p e sums = ap₂ (λ q r. onto out (plan q (plan (Plan.At 0 p) (single (Plan.At 1 r))))) (step-Make (Bare bare_move.Split)) (step-Then below ∙ ap Plan.Then sums)
    ∙ here
  where
    here : onto out (plan (Plan.Make (Move.Bare bare_move.Split)) (plan (Plan.At 0 p) (single (Plan.At 1 (Plan.Then (summed_steps y p)))))) ≡ onto out (divided_steps y z p)
    here = rw e refl
