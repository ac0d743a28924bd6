use Rattle.std.proofs.Common.{rules, refl, ◌≢◌, ◌≡◌, ◌∙◌, ℕ, true, List, All, Option, Some, None, sym, subst, arith}
use Rattle.count_rows.specs.Vocabulary.{Table}
use Rattle.count_eval.specs.Vocabulary.{is_used}
use Rattle.bound_values.specs.declared.found.CellCrossing.{CellCrossing}
use Rattle.bound_values.specs.declared.questions.Method.{Method}
use Rattle.bound_values.specs.declared.questions.Method.TheVariants.{Instruments, LevelPairs, Adjustment}
use Rattle.bound_values.specs.declared.questions.Question.{Question}
use Rattle.table_cells.specs.Vocabulary.{cells_along}
use Rattle.bound_values.specs.Cells.{first_cell, crossing_cells}
use Rattle.bound_values.specs.Questions.{asked_of}
use Rattle.bound_values.specs.Found.{IsFirstCrossing, IsCrossingOf, crossing_in, first_crossed}
use Rattle.bound_values.proofs.Parts.{crossing_used}
use Rattle.table_cells.proofs.Tables.{first_is_cell}
use Rattle.bound_values.proofs.found.crossing_of.Goals as goal

pub first_crossing-requires-clause-vertices : goal.first_crossing-requires-clause-vertices
first_crossing-requires-clause-vertices c =
    subst (λ (vs : List ℕ). All (λ v. is_used c.args.scope.now.counts.now v ≡ true) vs) (sym (c.deref.ensures.value ∙ c.in_ok-vertices-in-Instruments.ensures))
    (crossing_used c.args.scope.now.counts.now c.args.scope.now.question c.requires.asked)

pub first_crossing-requires-clause-cell : goal.first_crossing-requires-clause-cell
unfolding first_cell
first_crossing-requires-clause-cell c = first_is_cell 64 c.args.scope.now.counts.now
    (λ v h. (let b = c.requires.below v h in let few = c.requires.few in omega (arith, b, few)))

-- the first crossing is that of the question, where it isn't asked by adjustment
first_is : (method : Method) → method ≢ Adjustment → (n : ℕ) (t : Table) (q : Question)
    → crossing_in method n t q ≡ first_crossed method n t (asked_of q) (crossing_cells t q)
first_is Instruments other n t q = refl
first_is LevelPairs other n t q = refl
first_is Adjustment other n t q = absurd (other refl)

of_question : (n : ℕ) (t : Table) (q : Question) → q.method ≢ Adjustment → (r : Option CellCrossing)
    → IsFirstCrossing q.method n t (asked_of q) (crossing_cells t q) r → IsCrossingOf n t q r
of_question n t q other None h = first_is q.method other n t q ∙ h
of_question n t q other (Some c) h = (first_is q.method other n t q ∙ h.0, h.1)

pub returns-in_ok-vertices-in-Instruments : goal.returns-in_ok-vertices-in-Instruments
unfolding first_cell
returns-in_ok-vertices-in-Instruments c =
    let n = c.args.scope.now.n in let t = c.args.scope.now.counts.now in let q = c.args.scope.now.question in
    let other : q.method ≢ Adjustment = search rules in
    of_question n t q other c.first_crossing.result
    (subst (λ (vs : List ℕ). IsFirstCrossing q.method n t (asked_of q) (cells_along t first_cell vs) c.first_crossing.result)
    (c.deref.ensures.value ∙ c.in_ok-vertices-in-Instruments.ensures) c.first_crossing.ensures)
