use Rattle.std.proofs.Common.{ℕ, ◌≡◌, ◌<◌, ◌*◌, ◌+◌, ◌-◌, ◌^◌, [], length, get_or, drop, ap, sym, ◌∙◌, arith}
use Rattle.mixed_graph.specs.Vocabulary.{has}
use Rattle.count_table.specs.Codes.{room}
use Rattle.count_table.proofs.TableSteps.{AreFew, few-one, few-drop, item_length, mask-small, mask_next, mask_end, field_fits, kept-small}
use Rattle.count_table.proofs.codes.mask_over.Goals as goal
use Rattle.count_table.proofs.codes.mask_over.Goals.{After-count, After-room_for-room}

pub loop-i-init : goal.loop-i-init
loop-i-init c =
    record {
      within = omega arith;
      so_far = sym (mask_end c.args.vertices.now c.args.levels.now (has c.args.of.bits) (length c.args.vertices.now) (omega arith));
    }

-- the number of levels of the vertex before i
levels : (c : After-count) → c.count.result ≡ length (get_or c.args.levels.now (c.loop-i.i - 1) [])
levels c = item_length c.args.levels.now (c.loop-i.i - 1) c.count.result c.index-levels-i.result
    (omega (arith, c.loop-i-test.true, c.loop-i.invariant.within, c.requires.matched)) c.index-levels-i.is c.count.ensures.count

pub room_for-room-requires-clause-few : goal.room_for-room-requires-clause-few
room_for-room-requires-clause-few c =
    let n = levels (goal.at.room_for-room-requires-clause-few c).After-count in
    let (pos, few) = few-one c.args.levels.now (c.loop-i.i - 1) (omega (arith, c.loop-i-test.true, c.loop-i.invariant.within, c.requires.matched))
    (record { each = c.requires.each; few = c.requires.few }) in
    omega (arith, n, few)

-- the mask so far is small, and so is what is added
fits : (c : After-room_for-room) (kept : ℕ) → kept < 2 ^ 20 → c.loop-i.mask * c.room_for-room.result + kept < 2 ^ 61
fits c kept lt =
    let few : AreFew c.args.levels.now = record { each = c.requires.each; few = c.requires.few } in
    let m = mask-small (drop c.loop-i.i c.args.vertices.now) (drop c.loop-i.i c.args.levels.now) (has c.args.of.bits)
    (few-drop c.args.levels.now c.loop-i.i few) in
    let e = c.loop-i.invariant.so_far in
    field_fits c.loop-i.mask c.room_for-room.result kept (omega (arith, m, e)) c.room_for-room.ensures.most lt

pub overflow_mul-mask : goal.overflow_mul-mask
overflow_mul-mask c = let f = fits (goal.at.overflow_mul-mask c).After-room_for-room 0 (omega arith) in omega (arith, f)

pub overflow_add-mask : goal.overflow_add-mask
overflow_add-mask c =
    let most = c.room_for-room.ensures.most in
    let kept = kept-small (has c.args.of.bits (get_or c.args.vertices.now (c.loop-i.i - 1) 0)) (c.room_for-room.result - 1) (2 ^ 20)
    (λ _. omega (arith, most)) (omega arith) in
    let k = c.highest_in.ensures in
    let f = fits (goal.at.overflow_add-mask c).After-room_for-room c.highest_in.result (rw k kept) in
    omega (arith, f)

pub loop-i-preserved : goal.loop-i-preserved
loop-i-preserved c = record {
  within = omega (arith, c.loop-i.invariant.within);
  so_far = mask_next c.args.vertices.now c.args.levels.now (has c.args.of.bits)
      c.loop-i.i c.loop-i.mask c.room_for-room.result c.highest_in.result c.loop-i-test.true c.loop-i.invariant.within c.requires.matched
      c.loop-i.invariant.so_far (c.room_for-room.ensures.room ∙ ap room (levels (goal.at.loop-i-preserved c).After-count)) c.highest_in.ensures;
}
