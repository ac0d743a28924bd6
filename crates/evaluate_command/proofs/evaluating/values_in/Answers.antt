use Rattle.std.proofs.Common.{◌≡◌, ℕ, true, List, All, sym, ap, subst, ◌∙◌}
use Rattle.count_eval.specs.Vocabulary.{is_used}
use Rattle.count_eval.specs.Rules.{rule}
use Rattle.table_cells.specs.Vocabulary.{cells_along, IsCell}
use Rattle.evaluate_command.specs.Effects.{effect_in}
use Rattle.evaluate_command.specs.Listed.{plain_in}
use Rattle.evaluate_command.specs.Printing.{Appends, IsFaultAt}
use Rattle.evaluate_command.proofs.Evaluable.{evaluable, used, varied_used, table_below}
use Rattle.evaluate_command.proofs.Printed.{all_evaluated, all_unvalued}
use Rattle.table_cells.proofs.Tables.{first_is_cell}
use Rattle.evaluate_command.proofs.evaluating.values_in.Goals as goal

pub prepare-requires : goal.prepare-requires
prepare-requires g c = evaluable (effect_in c.args.seen.now c.args.found.now) c.requires.identified c.args.counts.now c.used-used.ensures.table c.requires.used

pub push_cells-requires-clause-vertices : goal.push_cells-requires-clause-vertices
push_cells-requires-clause-vertices g c =
    subst (λ (vs : List ℕ). All (λ v. is_used c.args.counts.now v ≡ true) vs) (sym (c.deref.ensures.value ∙ c.in-Ok.ensures))
    (varied_used (effect_in c.args.seen.now c.args.found.now) c.requires.identified c.args.counts.now c.used-used.ensures.table c.requires.used)

pub push_cells-requires-clause-cell : goal.push_cells-requires-clause-cell
push_cells-requires-clause-cell g c =
    let t = c.args.counts.now in
    let n = c.args.seen.now.graph.n in
    let first = c.deref_mut.ensures.value ∙ c.in-Ok-vec.ensures.items_if_clones_equal (λ y h. h) in
    let below = table_below (effect_in c.args.seen.now c.args.found.now) c.requires.identified t c.used-used.ensures.table c.requires.used in
    subst (λ k. IsCell k t c.deref_mut.result.now) (sym c.in-Ok-prepare.ensures.vertices)
    (subst (λ (cell : List ℕ). IsCell n t cell) (sym first) (first_is_cell n t below))

pub returns-in-Ok-push_cells-clause-values : goal.returns-in-Ok-push_cells-clause-values
returns-in-Ok-push_cells-clause-values g c =
    let kind = g.Q.Quantity.kind in let covers = g.Q.Quantity.covers in let numbers = g.Q.Quantity.numbers in
    let e = effect_in c.args.seen.now c.args.found.now in let t = c.args.counts.now in
    let p = c.in-Ok-prepare.prepared in let made = c.in-Ok-prepare.ensures in
    let first = c.deref_mut.ensures.value ∙ c.in-Ok-vec.ensures.items_if_clones_equal (λ y h. h) in
    let all = c.deref.ensures.value ∙ c.in-Ok.ensures in
    all_evaluated (rule kind c.args.zero) covers g.met.Q.Quantity.lawful c.laws.ensures.matched e c.requires.identified t
    (used e c.requires.identified t c.used-used.ensures.table c.requires.used) p
    (λ i. record { vertices = sym made.vertices i; counts = sym made.counts i; formula = sym made.formula i; zero = p.zero })
    (cells_along t c.deref_mut.result.now c.deref.result.now) (λ i. cells_along t (first i) (all i))
    (plain_in numbers c.new-values.result.items) (plain_in numbers c.push_cells.new.out.items) (ap (plain_in numbers) c.new-values.ensures.items)
    (subst (λ z. Appends (rule kind z) covers p (cells_along t c.deref_mut.result.now c.deref.result.now) (plain_in numbers c.new-values.result.items)
    (plain_in numbers c.push_cells.new.out.items)) made.zero c.in-Ok-push_cells.ensures.values)

pub returns-clause-fault : goal.returns-clause-fault
returns-clause-fault g c = λ kept.
    let kind = g.Q.Quantity.kind in
    let e = effect_in c.args.seen.now c.args.found.now in let t = c.args.counts.now in
    let p = c.in-Ok-prepare.prepared in let made = c.in-Ok-prepare.ensures in
    let first = c.deref_mut.ensures.value ∙ c.in-Ok-vec.ensures.items_if_clones_equal (λ y h. h) in
    let all = c.deref.ensures.value ∙ c.in-Ok.ensures in
    all_unvalued (rule kind c.args.zero) e t p
    (λ i. record { vertices = sym made.vertices i; counts = sym made.counts i; formula = sym made.formula i; zero = p.zero })
    (cells_along t c.deref_mut.result.now c.deref.result.now) (λ i. cells_along t (first i) (all i)) c.in-Err.fault
    (subst (λ z. IsFaultAt (rule kind z) p (cells_along t c.deref_mut.result.now c.deref.result.now) c.in-Err.fault) made.zero (c.in-Err.ensures.fault kept))
