use Rattle.std.proofs.Common.{◌≤◌, ◌-◌, ◌∙◌, sym, ap, take, drop, length, get_or, arith}
use Rattle.count_rows.proofs.FieldLists.{bounds, field_between}
use Rattle.count_rows.proofs.fields.between.Goals as goal

pub start-from-requires-clause-before : goal.start-from-requires-clause-before
start-from-requires-clause-before c =
    (bounds 0 c.args.ends.now (length c.args.bytes.now) c.args.place c.requires.ordered c.requires.there).0

pub slice_bounds-result-count : goal.slice_bounds-result-count
slice_bounds-result-count c =
    let b = bounds 0 c.args.ends.now (length c.args.bytes.now) c.args.place c.requires.ordered c.requires.there in
    let w : c.start-from.result ≤ get_or c.args.ends.now c.args.place 0 = omega (arith, b.0, c.start-from.ensures) in w

pub slice_bounds-result-start : goal.slice_bounds-result-start
slice_bounds-result-start c =
    let b = bounds 0 c.args.ends.now (length c.args.bytes.now) c.args.place c.requires.ordered c.requires.there in
    let w : c.start-from.result ≤ get_or c.args.ends.now c.args.place 0 = omega (arith, b.0, c.start-from.ensures) in w

pub slice_bounds-result-end : goal.slice_bounds-result-end
slice_bounds-result-end c =
    let b = bounds 0 c.args.ends.now (length c.args.bytes.now) c.args.place c.requires.ordered c.requires.there in
    let w : get_or c.args.ends.now c.args.place 0 ≤ length c.args.bytes.now = omega (arith, b.1) in w

pub returns : goal.returns
returns c =
    ap (λ s. take (get_or c.args.ends.now c.args.place 0 - s) (drop s c.args.bytes.now)) c.start-from.ensures
    ∙ sym (field_between 0 c.args.ends.now c.args.bytes.now c.args.place c.requires.there)
