use Rattle.std.proofs.Common.{◌≡◌, ◌∙◌, ℕ, true, List, All, sym, subst, arith}
use Rattle.count_eval.specs.Vocabulary.{is_used}
use Rattle.table_cells.specs.Vocabulary.{cells_along}
use Rattle.bound_values.specs.Cells.{first_cell}
use Rattle.bound_values.specs.Told.{Appends, IsFaultAt}
use Rattle.bound_values.proofs.Ends.{are_bounds}
use Rattle.bound_values.specs.Questions.{asked_of}
use Rattle.bound_values.proofs.Parts.{printed_used}
use Rattle.table_cells.proofs.Tables.{first_is_cell}
use Rattle.bound_values.proofs.found.bounds_of.Goals as goal

pub push_bounds-requires-clause-vertices : goal.push_bounds-requires-clause-vertices
push_bounds-requires-clause-vertices c =
    subst (λ (vs : List ℕ). All (λ v. is_used c.args.scope.now.counts.now v ≡ true) vs) (sym (c.deref.ensures.value ∙ c.in-Ok.ensures))
    (printed_used c.args.scope.now.counts.now c.args.scope.now.question c.requires.scope.asked)

pub push_bounds-requires-clause-cell : goal.push_bounds-requires-clause-cell
unfolding first_cell
push_bounds-requires-clause-cell c = first_is_cell 64 c.args.scope.now.counts.now
    (λ v h. (let b = c.requires.scope.below v h in let few = c.requires.scope.few in omega (arith, b, few)))

pub returns-in-Ok-push_bounds-clause-bounds : goal.returns-in-Ok-push_bounds-clause-bounds
unfolding first_cell
returns-in-Ok-push_bounds-clause-bounds c =
    let n = c.args.scope.now.n in let t = c.args.scope.now.counts.now in let q = c.args.scope.now.question in
    let vertices = c.deref.ensures.value ∙ c.in-Ok.ensures in
    let appended = subst (λ (vs : List ℕ). Appends c.args.exact q.method n t (asked_of q) (cells_along t first_cell vs) c.new-bounds.result.items
    c.push_bounds.new.out.items) vertices c.in-Ok-push_bounds.ensures.bounds in
    are_bounds c.laws.ensures.effect c.laws-2.ensures.paired c.laws-3.ensures.effect c.args.exact n t q c.requires.scope.pairs c.requires.apart c.push_bounds.new.out c.new-bounds.result.items
    c.new-bounds.ensures.items appended

pub returns-clause-fault : goal.returns-clause-fault
unfolding first_cell
returns-clause-fault c =
    let n = c.args.scope.now.n in let t = c.args.scope.now.counts.now in let q = c.args.scope.now.question in
    subst (λ (vs : List ℕ). IsFaultAt c.args.exact q.method n t (asked_of q) (cells_along t first_cell vs) c.in-Err.fault)
    (c.deref.ensures.value ∙ c.in-Ok.ensures) c.in-Err.ensures.fault
