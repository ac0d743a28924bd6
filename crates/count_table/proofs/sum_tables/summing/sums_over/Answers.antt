use Rattle.std.proofs.Common.{ℕ, ◌≡◌, ◌<◌, ◌+◌, ◌*◌, ◌/◌, List, length, get_or, sum, ap, sym, ◌∙◌, arith}
use Rattle.std.specs.Global.{Vec}
use Rattle.mixed_graph.specs.Vocabulary.{has}
use Rattle.count_table.specs.LaneSums.{axis_total}
use Rattle.count_table.specs.Axes.{Axes}
use Rattle.count_table.proofs.SummingSteps.{IsNext, IsNextStep, used-axes, next_is, next_step, summing_start, summing_keep, summing_out, summing_end}
use Rattle.count_table.proofs.sum_tables.summing.sums_over.Goals as goal
use Rattle.count_table.proofs.sum_tables.summing.sums_over.Goals.{After-has, then-has, else-has+in_ok-sums-2}

pub loop-i-init : goal.loop-i-init
loop-i-init c =
    summing_start c.args.c.now (has c.args.of.bits) c.in_ok-sums.sums.items c.cells.result.now c.len-inner.result c.cells.ensures.table c.cells.ensures.counts
    c.in_ok-sums.ensures.items
    (c.len-inner.ensures ∙ c.in_ok-sums.ensures.len ∙ ap (λ (l : List ℕ). length l) (sym c.in_ok-sums.ensures.items))

-- the vertex i of all used ones
next : (c : After-has) → IsNext c.args.c.now c.loop-i.i (get_or c.sizes-sizes.result.now c.loop-i.i 0) (get_or c.vertices-vertices.result.now c.loop-i.i 0)
next c = next_is c.args.c.now (has c.used.result.bits) c.vertices-vertices.result.now c.sizes-sizes.result.now c.loop-i.i c.used.ensures.table
    c.used.ensures.members
    (c.vertices-vertices.ensures ∙ ap (λ (a : Axes). a.vertices) c.in_ok-used.ensures)
    (c.sizes-sizes.ensures ∙ ap (λ (a : Axes). a.sizes) c.in_ok-used.ensures) (omega arith)

-- what its step needs
step : (c : After-has) → IsNextStep c.args.c.now (has c.args.of.bits) c.loop-i.i (get_or c.sizes-sizes.result.now c.loop-i.i 0)
    (get_or c.vertices-vertices.result.now c.loop-i.i 0) c.loop-i.sums.items c.loop-i.outer c.loop-i.inner
step c = next_step c.args.c.now (has c.args.of.bits) c.loop-i.i (get_or c.sizes-sizes.result.now c.loop-i.i 0)
    (get_or c.vertices-vertices.result.now c.loop-i.i 0) c.loop-i.sums.items c.loop-i.outer c.loop-i.inner
    (next c) c.loop-i.invariant

pub overflow_mul-outer : goal.overflow_mul-outer
overflow_mul-outer c = let fits = (step (goal.at.overflow_mul-outer c).After-has).fits in omega (arith, fits)

pub without_axis-requires-clause-cells : goal.without_axis-requires-clause-cells
without_axis-requires-clause-cells c = ap (λ (l : List ℕ). length l) c.as_slice.ensures.value
    ∙ (step (goal.at.without_axis-requires-clause-cells c).After-has).long

pub without_axis-requires-clause-few : goal.without_axis-requires-clause-few
without_axis-requires-clause-few c = let fits = (step (goal.at.without_axis-requires-clause-few c).After-has).kept_fits in omega (arith, fits)

pub without_axis-requires-clause-room : goal.without_axis-requires-clause-room
without_axis-requires-clause-room c = let room = (step (goal.at.without_axis-requires-clause-room c).After-has).room in let e =
    ap sum c.as_slice.ensures.value in omega (arith, room, e)

pub loop-i-preserved : goal.loop-i-preserved
loop-i-preserved c =
    let one = next (goal.at.loop-i-preserved c).After-has in
    let n = get_or c.sizes-sizes.result.now c.loop-i.i 0 in
    let v = get_or c.vertices-vertices.result.now c.loop-i.i 0 in
    elim c.if-has.branch [
      | then-has w ↦
          summing_keep c.args.c.now (has c.args.of.bits) c.loop-i.i n v c.loop-i.sums.items c.if-has.sums.items c.loop-i.outer c.loop-i.inner c.if-has.outer one
          (sym c.has.ensures ∙ w.if-has.true) (ap (λ (x : Vec ℕ). x.items) w.sums-is) w.outer-is c.loop-i.invariant
      | else-has+in_ok-sums-2 w ↦
          let each : (o k : ℕ) → o < c.loop-i.outer → k < c.loop-i.inner / n
          → get_or w.in_ok-sums-2.sums.items (o * (c.loop-i.inner / n) + k) 0 ≡ axis_total n (c.loop-i.inner / n) o k c.loop-i.sums.items =
          rw w.as_slice.ensures.value at w.in_ok-sums-2.ensures.sums in
          summing_out c.args.c.now (has c.args.of.bits) c.loop-i.i n v c.loop-i.sums.items w.in_ok-sums-2.sums.items c.if-has.sums.items c.loop-i.outer
          c.loop-i.inner c.if-has.outer one
          (sym c.has.ensures ∙ w.if-has.false) (ap (λ (x : Vec ℕ). x.items) w.sums-is) w.outer-is c.loop-i.invariant w.in_ok-sums-2.ensures.length each
    ]

pub returns : goal.returns
returns c =
    let same = c.vertices-vertices.ensures ∙ ap (λ (a : Axes). a.vertices) c.in_ok-used.ensures
    ∙ used-axes c.args.c.now (has c.used.result.bits) c.used.ensures.members in
    let e = ap (λ (l : List ℕ). length l) same in
    summing_end c.args.c.now (has c.args.of.bits) c.loop-i.i c.loop-i.sums.items c.loop-i.outer c.loop-i.inner (omega (arith, e, c.loop-i-test.false))
    c.loop-i.invariant
