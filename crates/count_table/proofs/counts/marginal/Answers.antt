use Rattle.std.proofs.Common.{ℕ, ◌∙◌, List, length, map, sum, sym, ap, arith}
use Rattle.std.proofs.lemmas.List.{length-map}
use Rattle.std.proofs.lemmas.List.Sums.{sum-map}
use Rattle.mixed_graph.specs.Vocabulary.{has}
use Rattle.count_table.specs.LaneSums.{matched_sum}
use Rattle.count_rows.specs.Vocabulary.{Row}
use Rattle.count_table.specs.Cells.{sizes_of}
use Rattle.count_table.specs.Codes.{code_of_cell, mask_under}
use Rattle.count_table.proofs.RowLists.{masked_is_counted}
use Rattle.count_table.proofs.counts.marginal.Goals as goal

pub masked_sum-requires : goal.masked_sum-requires
masked_sum-requires c =
    let rows = c.args.c.now.rows in
    let all = ap sum c.cells.ensures.counts ∙ sum-map (λ (r : Row). r.count) rows in
    let most = c.cells.ensures.table.most in
    record {
      lengths =
          ap (λ (l : List ℕ). length l) c.cells.ensures.counts ∙ length-map rows (λ (r : Row). r.count)
          ∙ sym (ap (λ (l : List ℕ). length l) c.codes.ensures.codes ∙ length-map rows (λ (r : Row). code_of_cell (sizes_of c.args.c.now.levels) r.cell));
      room = omega (arith, all, most);
    }

pub returns : goal.returns
returns c =
    let t = c.args.c.now in
    let code : List ℕ → ℕ = code_of_cell (sizes_of t.levels) in
    let mask = mask_under t.vertices (sizes_of t.levels) (has c.args.of.bits) in
    let want = c.code_of-want.result in
    c.masked_sum.ensures
    ∙ ap (λ m. matched_sum m want (length c.cells.result.now) c.cells.result.now c.codes.result.now) c.mask_of-mask.ensures
    ∙ ap (λ (l : List ℕ). matched_sum mask want (length l) l c.codes.result.now) c.cells.ensures.counts
    ∙ ap (λ (l : List ℕ). matched_sum mask want (length (map (λ (r : Row). r.count) t.rows)) (map (λ (r : Row). r.count) t.rows) l) c.codes.ensures.codes
    ∙ ap (λ n. matched_sum mask want n (map (λ (r : Row). r.count) t.rows) (map (λ (r : Row). code r.cell) t.rows)) (length-map t.rows (λ (r : Row). r.count))
    ∙ masked_is_counted t.vertices code mask want t.rows (has c.args.of.bits) _ c.code_of-want.ensures.agrees
