use Rattle.std.proofs.Common.{◌≡◌, sym, ap, subst, ◌∙◌}
use Rattle.mixed_graph.specs.Vocabulary.{has}
use Rattle.count_rows.specs.Vocabulary.{Table}
use Rattle.count_table.specs.Tables.{AreCounts, HasLevels}
use Rattle.count_table.proofs.CountsLaws.{by_index, rows_tell}
use Rattle.count_table.proofs.counts.Counts.code_of.Goals as goal

pub code_over-requires-clause-at : goal.code_over-requires-clause-at
code_over-requires-clause-at c =
    let ready = subst (λ (t : Table). HasLevels t (has c.args.of.bits) c.args.at.now) (sym c.self.view_is) c.requires in
    rw (c.as_slice.ensures.value, c.as_slice-2.ensures.value) (by_index _ (has c.args.of.bits) c.args.at.now c.self.invariant.table ready)

pub returns-clause-agrees : goal.returns-clause-agrees
returns-clause-agrees c =
    let are = subst AreCounts c.self.view_is c.self.invariant.table in
    let vertices : c.as_slice.result.now ≡ c.args.self.now.vertices = c.as_slice.ensures.value ∙ ap (λ (t : Table). t.vertices) c.self.view_is in
    let levels : c.as_slice-2.result.now ≡ c.args.self.now.levels = c.as_slice-2.ensures.value ∙ ap (λ (t : Table). t.levels) c.self.view_is in
    rw (c.code_over.ensures, vertices, levels) (rows_tell c.args.self.now (has c.args.of.bits) c.args.at.now are c.requires)
