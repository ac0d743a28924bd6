use Rattle.std.proofs.Common.{ℕ, ◌≡◌, List, ap, sym, ◌∙◌, arith}
use Rattle.std.specs.Global.{Vec}
use Rattle.std.specs.List.{filter}
use Rattle.mixed_graph.specs.Vocabulary.{has}
use Rattle.count_table.specs.Axes.{Axes}
use Rattle.count_table.proofs.Choosing.{IsPart, AreTaken, chosen_none, chosen_in, chosen_out, chosen_fits, chosen_end, taken-axes}
use Rattle.count_table.proofs.sum_tables.places.Places.of.Goals as goal
use Rattle.count_table.proofs.sum_tables.places.Places.of.Goals.{After-intersection-members, After-loop-v, then-has+in_ok-push+in_ok-push-2, else-has}

pub loop-v-init : goal.loop-v-init
loop-v-init c = chosen_none c.args.c.now (has c.intersection-members.result.bits)
    c.new-vertices.result.items c.new-sizes.result.items c.new-vertices.ensures.items c.new-sizes.ensures.items

-- the members are those of the set that are used
part : (c : After-intersection-members) → IsPart c.args.c.now (has c.used.result.bits) (has c.args.of.bits) (has c.intersection-members.result.bits)
part c = record { all = c.used.ensures.members; members = c.intersection-members.ensures.members; table = c.used.ensures.table }

pub overflow_mul-count : goal.overflow_mul-count
overflow_mul-count c =
    let fits = chosen_fits c.args.c.now (has c.used.result.bits) (has c.args.of.bits)
    (has c.intersection-members.result.bits) c.loop-v.v c.loop-v.vertices.items c.loop-v.sizes.items c.loop-v.count
    c.levels-levels.result c.loop-v-test.true (part (goal.at.overflow_mul-count c).After-intersection-members) (sym c.has.ensures ∙ c.if-has.true)
    c.levels-levels.ensures c.loop-v.invariant in
    omega (arith, fits)

pub loop-v-preserved : goal.loop-v-preserved
loop-v-preserved c = elim c.if-has.branch [
  | then-has+in_ok-push+in_ok-push-2 w ↦
      chosen_in c.args.c.now (has c.intersection-members.result.bits) c.loop-v.v c.loop-v.vertices.items c.loop-v.sizes.items c.if-has.vertices.items
      c.if-has.sizes.items
      c.loop-v.count c.if-has.count
      w.levels-levels.result (sym c.has.ensures ∙ w.if-has.true) w.levels-levels.ensures
      (ap (λ (x : Vec ℕ). x.items) w.vertices-is ∙ w.in_ok-push.ensures.items) (ap (λ (x : Vec ℕ). x.items) w.sizes-is ∙ w.in_ok-push-2.ensures.items)
      w.count-is c.loop-v.invariant
  | else-has w ↦
      chosen_out c.args.c.now (has c.intersection-members.result.bits)
      c.loop-v.v c.loop-v.vertices.items c.loop-v.sizes.items c.if-has.vertices.items c.if-has.sizes.items
      c.loop-v.count c.if-has.count
      (sym c.has.ensures ∙ w.if-has.false) (ap (λ (x : Vec ℕ). x.items) w.vertices-is) (ap (λ (x : Vec ℕ). x.items) w.sizes-is) w.count-is c.loop-v.invariant
]

-- all of them are taken
taken : (c : After-loop-v) → c.loop-v.v ≡ 64 → IsPart c.args.c.now (has c.used.result.bits) (has c.args.of.bits) (has c.intersection-members.result.bits)
    → AreTaken c.args.c.now (has c.args.of.bits) c.loop-v.vertices.items c.loop-v.sizes.items c.loop-v.count
taken c end h = chosen_end c.args.c.now (has c.used.result.bits) (has c.args.of.bits) (has c.intersection-members.result.bits)
    c.loop-v.v c.loop-v.vertices.items c.loop-v.sizes.items c.loop-v.count
    end h c.loop-v.invariant

pub invariant_of-result : goal.invariant_of-result
invariant_of-result c =
    let all = taken (goal.at.invariant_of-result c).After-loop-v (omega arith) (part (goal.at.invariant_of-result c).After-intersection-members) in
    record {
      axes = taken-axes c.args.c.now (has c.args.of.bits) c.loop-v.vertices.items c.loop-v.sizes.items c.loop-v.count c.used.ensures.table all;
      count = all.count;
    }

pub returns : goal.returns
returns c =
    let all = taken (goal.at.returns c).After-loop-v (omega arith) (part (goal.at.returns c).After-intersection-members) in
    let axes : List ℕ → List ℕ → Axes = λ vs ns. record { vertices = vs; sizes = ns } in
    ap (λ (vs : List ℕ). axes vs c.loop-v.sizes.items) all.vertices ∙ ap (axes (filter (has c.args.of.bits) c.args.c.now.vertices)) all.sizes
