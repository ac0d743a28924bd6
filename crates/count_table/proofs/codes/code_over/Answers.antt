use Rattle.std.proofs.Common.{ℕ, ◌≡◌, ◌+◌, ◌*◌, ◌<◌, ◌-◌, ◌^◌, List, [], length, get_or, drop, ap, sym, ◌∙◌, arith, slice_index}
use Rattle.std.proofs.lemmas.List.{get_or-map}
use Rattle.mixed_graph.specs.Vocabulary.{has}
use Rattle.count_rows.specs.Vocabulary.{Field}
use Rattle.count_table.specs.Cells.{sizes_of}
use Rattle.count_table.specs.Codes.{room}
use Rattle.count_table.proofs.TableSteps.{AreFew, few-one, few-drop, item_length, code-small, code_next, code_end, field_fits, kept-small, below_from}
use Rattle.count_table.proofs.TableSteps.{below-drop}
use Rattle.count_table.proofs.codes.code_over.Goals as goal
use Rattle.count_table.proofs.codes.code_over.Goals.{After-count, After-room_for}

pub loop-i-init : goal.loop-i-init
loop-i-init c =
    record {
      within = omega arith;
      so_far = sym (code_end c.args.vertices.now c.args.levels.now (has c.args.of.bits) _ (length c.args.vertices.now) (omega arith));
    }

-- the number of levels of the vertex before i
levels : (c : After-count) → c.count.result ≡ length (get_or c.args.levels.now (c.loop-i.i - 1) [])
levels c = item_length c.args.levels.now (c.loop-i.i - 1) c.count.result c.index-levels-i.result
    (omega (arith, c.loop-i-test.true, c.loop-i.invariant.within, c.requires.matched)) c.index-levels-i.is c.count.ensures.count

pub room_for-requires-clause-few : goal.room_for-requires-clause-few
room_for-requires-clause-few c =
    let n = levels (goal.at.room_for-requires-clause-few c).After-count in
    let (pos, few) = few-one c.args.levels.now (c.loop-i.i - 1) (omega (arith, c.loop-i-test.true, c.loop-i.invariant.within, c.requires.matched))
    (record { each = c.requires.each; few = c.requires.few }) in
    omega (arith, n, few)

-- the code so far is small, and so is what is added
fits : (c : After-room_for) (kept : ℕ) → kept < 2 ^ 20 → c.loop-i.code * c.room_for.result + kept < 2 ^ 61
fits c kept lt =
    let few : AreFew c.args.levels.now = record { each = c.requires.each; few = c.requires.few } in
    let below = below_from c.args.vertices.now (sizes_of c.args.levels.now) (has c.args.of.bits) (λ v. slice_index c.args.at.now v)
    (λ i lt t. (c.requires.at i lt t).1) in
    let m = code-small (drop c.loop-i.i c.args.vertices.now) (drop c.loop-i.i c.args.levels.now) (has c.args.of.bits) (λ v. slice_index c.args.at.now v)
    (few-drop c.args.levels.now c.loop-i.i few)
    (below-drop c.args.vertices.now c.args.levels.now (has c.args.of.bits) (λ v. slice_index c.args.at.now v) c.loop-i.i below) in
    let e = c.loop-i.invariant.so_far in
    field_fits c.loop-i.code c.room_for.result kept (omega (arith, m, e)) c.room_for.ensures.most lt

pub overflow_mul-code : goal.overflow_mul-code
overflow_mul-code c = let f = fits (goal.at.overflow_mul-code c).After-room_for 0 (omega arith) in omega (arith, f)

pub overflow_add-code : goal.overflow_add-code
overflow_add-code c =
    let lt : c.loop-i.i - 1 < length c.args.levels.now = omega (arith, c.loop-i-test.true, c.loop-i.invariant.within, c.requires.matched) in
    let lv : c.loop-i.i - 1 < length c.args.vertices.now = omega (arith, lt, c.requires.matched) in
    let (pos, most) = few-one c.args.levels.now (c.loop-i.i - 1) lt (record { each = c.requires.each; few = c.requires.few }) in
    let size = get_or-map (λ (ys : List Field). length ys) c.args.levels.now (c.loop-i.i - 1) [] 0 lt in
    let kept = kept-small (has c.args.of.bits (get_or c.args.vertices.now (c.loop-i.i - 1) 0))
    (slice_index c.args.at.now (get_or c.args.vertices.now (c.loop-i.i - 1) 0)) (2 ^ 20)
    (λ t. (let b = (c.requires.at (c.loop-i.i - 1) lv t).1 in omega (arith, b, size, most))) (omega arith) in
    let k = c.number_in.ensures in
    let f = fits (goal.at.overflow_add-code c).After-room_for c.number_in.result (rw k kept) in
    omega (arith, f)

pub loop-i-preserved : goal.loop-i-preserved
loop-i-preserved c = record {
  within = omega (arith, c.loop-i.invariant.within);
  so_far = code_next c.args.vertices.now c.args.levels.now (has c.args.of.bits)
      _ c.loop-i.i c.loop-i.code c.room_for.result c.number_in.result c.loop-i-test.true c.loop-i.invariant.within c.requires.matched
      c.loop-i.invariant.so_far (c.room_for.ensures.room ∙ ap room (levels (goal.at.loop-i-preserved c).After-count)) c.number_in.ensures;
}
