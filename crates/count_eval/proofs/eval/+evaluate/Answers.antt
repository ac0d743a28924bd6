use Rattle.std.proofs.Common.{◌≡◌, ◌+◌, ◌<◌, ◌≤◌, ◌||◌, ◌∙◌, ap, ap₂, sym, subst, arith, rules, map, drop, length, Some, None}
use Rattle.std.proofs.lemmas.List.{length-map}
use Rattle.prob_expr.specs.Tree.{product}
use Rattle.prob_expr.specs.View.{view}
use Rattle.prob_expr.specs.Vocabulary.{views, cap}
use Rattle.prob_expr.proofs.Views.{views_more, none_after}
use Rattle.count_eval.specs.Rules.{rule, is_zero, or_zero}
use Rattle.count_eval.specs.Steps.{one_more, each_level, whole}
use Rattle.count_eval.specs.Stops.{after, placed}
use Rattle.count_eval.specs.Evaluated.{node_behind, evaluated}
use Rattle.count_eval.specs.Laws.{IsUsed, AreUsed}
use Rattle.count_eval.specs.Programs.{weights_in, is_used, cell_of, stop_of, seen, seen_so_far, seen_more, known, IsBelow, AreBelow}
use Rattle.count_eval.specs.Spots.{limit_of, value_at, cells_from, factors_from, zero_from}
use Rattle.count_eval.proofs.Measures
use Rattle.count_eval.proofs.Variants
use Rattle.count_eval.proofs.CellSteps
use Rattle.count_eval.proofs.eval.+evaluate.Goals as goal

pub value_at-returns-in-Prob : goal.value_at-returns-in-Prob
value_at-returns-in-Prob g t c =
    let w = weights_in c.args.scope.now.n (g.L.Lookup.counts c.args.scope.now.lookup.now) in
    let e = ap view c.in-Prob.is ∙ Variants.view-Prob c.in-Prob.of c.in-Prob.doing c.in-Prob.given in
    c.term.ensures ∙ ap (value_at (rule g.Q.Quantity.kind c.args.scope.now.zero) w (map view c.args.scope.now.defs.now) c.args.at) (sym e)

pub value_at-returns-in-Sum : goal.value_at-returns-in-Sum
value_at-returns-in-Sum g t c =
    let k = (rule g.Q.Quantity.kind c.args.scope.now.zero) in let w = weights_in c.args.scope.now.n (g.L.Lookup.counts c.args.scope.now.lookup.now) in
    let ds = map view c.args.scope.now.defs.now in
    let e = ap view c.in-Sum.is ∙ Variants.view-Sum c.in-Sum.over c.in-Sum.body in
    c.whole.ensures ∙ ap (λ x. after (seen_more g.Q.Quantity.numbers c.cells_from-total.result) (whole x)) c.from_ratio.ensures
    ∙ ap (λ x. after x (whole (k.kind.from_ratio 0 1)))
    (c.cells_from-total.ensures ∙ ap (λ b. cells_from k w ds (record { at = c.args.at; over = c.in-Sum.over }) (view b) 0 c.args.at.cell None) c.deref.ensures)
    ∙ CellSteps.sum_is k w ds c.args.at c.in-Sum.over (view c.in-Sum.body.value)
    ∙ ap (value_at k w ds c.args.at) (sym e)

pub value_at-returns-in_ok-b-in-Quotient : goal.value_at-returns-in_ok-b-in-Quotient
value_at-returns-in_ok-b-in-Quotient g t c =
    let k = (rule g.Q.Quantity.kind c.args.scope.now.zero) in let w = weights_in c.args.scope.now.n (g.L.Lookup.counts c.args.scope.now.lookup.now) in
    let ds = map view c.args.scope.now.defs.now in
    let numbers = g.Q.Quantity.numbers in let at = c.args.at in
    let x = c.in-Quotient.top in let y = c.in-Quotient.bottom in let first = c.next_node-first.result in let second = c.node_behind-second.result in
    c.outcome.ensures ∙ ap (placed at.def at.node (cell_of at.cell)) c.div.ensures
    ∙ CellSteps.quotient_is k w ds at (view x.value) (view y.value) (numbers c.in_ok-a-in-Quotient.a) (numbers c.in_ok-b-in-Quotient.b)
    first second c.next_node-first.ensures
    (c.node_behind-second.ensures ∙ ap (λ z. node_behind (view z) first) c.deref-in-Quotient-2.ensures)
    (ap (seen numbers) (sym c.in_ok-a-in-Quotient.was) ∙ c.value_at.ensures
    ∙ ap (λ z. value_at k w ds (record at { node = first }) (view z)) c.deref-in-Quotient.ensures)
    (ap (seen numbers) (sym c.in_ok-b-in-Quotient.was) ∙ c.value_at-in-Quotient.ensures
    ∙ ap (λ z. value_at k w ds (record at { node = second }) (view z)) c.deref-in-Quotient-3.ensures)
    ∙ ap (value_at k w ds at) (sym (ap view c.in-Quotient.is ∙ Variants.view-Quotient x y))

pub value_at-value_at-requires-in-Named : goal.value_at-value_at-requires-in-Named
value_at-value_at-requires-in-Named g t c =
    let defs = c.args.scope.now.defs.now in let limit = limit_of (map view defs) c.args.at.def in let j = c.in-Named.k in
    let used = is_used (g.L.Lookup.counts c.args.scope.now.lookup.now) in let e = view c.index-scope-k.result in
    let below : j < limit = subst (IsBelow limit) (ap view c.in-Named.is ∙ Variants.view-Named j) c.requires.below in
    let named = Measures.named_at defs j c.index-scope-k.result (omega (arith, below, c.requires.limit)) c.index-scope-k.is in
    let own : IsBelow j e = subst (λ n. IsBelow n e) (omega arith) (Measures.ordered_at 0 j (map view defs) e c.requires.scope.ordered named.within named.is) in
    let asked : IsUsed used e = Measures.used_at used j (map view defs) e c.requires.scope.used named.within named.is in
    let less = Measures.before_at j limit (map view defs) e below named.within named.is in
    search (rules, own, asked, less, below)

pub value_at-returns-in_default : goal.value_at-returns-in_default
value_at-returns-in_default g t c =
    let defs = c.args.scope.now.defs.now in let ds = map view defs in let limit = limit_of ds c.args.at.def in let j = c.in-Named.k in
    let k = (rule g.Q.Quantity.kind c.args.scope.now.zero) in let w = weights_in c.args.scope.now.n (g.L.Lookup.counts c.args.scope.now.lookup.now) in
    let s = cell_of c.args.at.cell in let r = view c.index-scope-k.result in
    let e = ap view c.in-Named.is ∙ Variants.view-Named j in
    let below : j < limit = subst (IsBelow limit) e c.requires.below in
    let named = Measures.named_at defs j c.index-scope-k.result (omega (arith, below, c.requires.limit)) c.index-scope-k.is in
    c.value_at-in-Named.ensures ∙ ap (λ d. value_at k w ds (record { def = Some j; node = 0; cell = c.args.at.cell }) (view d)) (sym c.index-scope-k.is)
    ∙ ap (λ m. evaluated k w (known k w ds j) (Some m) 0 r s) (let same : j ≡ cap j = omega arith in same)
    ∙ sym (Measures.known_at k w ds j limit r s below named.within named.is)
    ∙ ap (value_at k w ds c.args.at) (sym e)

pub value_at-returns-in-Some : goal.value_at-returns-in-Some
value_at-returns-in-Some g t c =
    let defs = c.args.scope.now.defs.now in let ds = map view defs in let limit = limit_of ds c.args.at.def in let j = c.in-Named.k in
    let k = (rule g.Q.Quantity.kind c.args.scope.now.zero) in let w = weights_in c.args.scope.now.n (g.L.Lookup.counts c.args.scope.now.lookup.now) in
    let s = cell_of c.args.at.cell in
    let e = ap view c.in-Named.is ∙ Variants.view-Named j in
    let long = length-map defs view in
    sym (ap (value_at k w ds c.args.at) e
    ∙ Measures.known_below k w ds j limit s (subst (IsBelow limit) e c.requires.below) (omega (arith, c.requires.limit, long))
    ∙ c.requires.scope.held j s (g.Q.Quantity.numbers c.in-Some.q) c.in-Some.ensures)

pub cells_from-returns-then-not-has : goal.cells_from-returns-then-not-has
cells_from-returns-then-not-has g t c =
    let w = weights_in c.args.scope.now.n (g.L.Lookup.counts c.args.scope.now.lookup.now) in
    c.cells_from.ensures
    ∙ CellSteps.skip (rule g.Q.Quantity.kind c.args.scope.now.zero) w (map view c.args.scope.now.defs.now) c.args.sum (view c.args.body.now)
    c.args.v c.args.cell (omega (arith, c.from.ensures, c.if-from-scope.false))
    (sym c.has.ensures ∙ c.if-not-has.true) (seen_so_far g.Q.Quantity.numbers c.args.so_far)

pub cells_from-returns-in-Err : goal.cells_from-returns-in-Err
cells_from-returns-in-Err g t c =
    let w = weights_in c.args.scope.now.n (g.L.Lookup.counts c.args.scope.now.lookup.now) in let numbers = g.Q.Quantity.numbers in
    let low : c.args.v < c.args.scope.now.n = omega (arith, c.from.ensures, c.if-from-scope.false) in
    CellSteps.loop_err (rule g.Q.Quantity.kind c.args.scope.now.zero) w (map view c.args.scope.now.defs.now) c.args.sum (view c.args.body.now)
    c.args.v c.args.cell low (omega (arith, low, c.requires.scope.few))
    (sym c.has.ensures ∙ c.if-not-has.false) (seen_so_far numbers c.args.so_far) (seen_so_far numbers c.loop-x.total) c.loop-x.x
    (seen_more numbers c.cells_from-in-loop-x.result) (stop_of c.in-Err.failure)
    (omega (arith, c.levels-x-end.ensures, c.loop-x-test.true)) c.loop-x.invariant c.cells_from-in-loop-x.ensures (ap (seen_more numbers) (sym c.in-Err.is))

pub cells_from-loop-x-preserved : goal.cells_from-loop-x-preserved
cells_from-loop-x-preserved g t c =
    let w = weights_in c.args.scope.now.n (g.L.Lookup.counts c.args.scope.now.lookup.now) in let numbers = g.Q.Quantity.numbers in
    CellSteps.one_level (CellSteps.level_at (rule g.Q.Quantity.kind c.args.scope.now.zero) w (map view c.args.scope.now.defs.now) c.args.sum
    (view c.args.body.now) c.args.v c.args.cell)
    (seen_so_far numbers c.args.so_far) (seen_so_far numbers c.loop-x.total) c.loop-x.x (seen_more numbers c.cells_from-in-loop-x.result)
    c.loop-x.invariant c.cells_from-in-loop-x.ensures
    ∙ ap (seen_more numbers) c.in-Ok.is

pub cells_from-returns : goal.cells_from-returns
cells_from-returns g t c =
    let w = weights_in c.args.scope.now.n (g.L.Lookup.counts c.args.scope.now.lookup.now) in let numbers = g.Q.Quantity.numbers in
    let ds = map view c.args.scope.now.defs.now in let e = view c.args.body.now in let o = seen_so_far numbers c.args.so_far in
    let low : c.args.v < c.args.scope.now.n = omega (arith, c.from.ensures, c.if-from-scope.false) in
    let end : w.size c.args.v ≡ c.loop-x.x = omega (arith, c.levels-x-end.ensures, c.loop-x-test.false, c.loop-x.auto.x-end) in
    CellSteps.loop_done (rule g.Q.Quantity.kind c.args.scope.now.zero) w ds c.args.sum e c.args.v c.args.cell low (omega (arith, low, c.requires.scope.few))
    (sym c.has.ensures ∙ c.if-not-has.false) o (seen_so_far numbers c.loop-x.total)
    (ap (λ n. each_level n (CellSteps.level_at (rule g.Q.Quantity.kind c.args.scope.now.zero) w ds c.args.sum e c.args.v c.args.cell) o) end
    ∙ c.loop-x.invariant)

pub product_at-value_at-value-requires : goal.product_at-value_at-value-requires
product_at-value_at-value-requires g t c κs within =
    let items = c.deref-factor-items.result.now in let i = c.loop-factor.factor-index in let e = view c.factor-item.result in
    let limit = limit_of (map view c.args.scope.now.defs.now) c.args.at.def in let used = is_used (g.L.Lookup.counts c.args.scope.now.lookup.now) in
    let split = views_more items i c.factor-item.result c.loop-factor-test.true c.factor-item.is in
    let below : IsBelow limit e = (subst (AreBelow limit) split c.loop-factor.invariant.below).0 in
    let asked : IsUsed used e = (subst (AreUsed used) split c.loop-factor.invariant.asked).0 in
    let parts : Measures.nodes_count (views (drop i items)) ≡ Measures.node_count e + Measures.nodes_count (views (drop (i + 1) items)) =
    ap Measures.nodes_count split in
    let same : Measures.nodes_count (views items) ≡ Measures.nodes_count (views c.args.factors.now.items) =
    ap (λ es. Measures.nodes_count (views es)) c.deref-factor-items.ensures.value in
    let fewer : Measures.node_count e ≤ Measures.nodes_count (views c.args.factors.now.items) = omega (arith, parts, same, c.loop-factor.invariant.fewer) in
    search (rules, below, asked, fewer)

pub product_at-loop-factor-preserved : goal.product_at-loop-factor-preserved
product_at-loop-factor-preserved g t c =
    let k = (rule g.Q.Quantity.kind c.args.scope.now.zero) in let counts = g.L.Lookup.counts c.args.scope.now.lookup.now in
    let w = weights_in c.args.scope.now.n counts in let ds = map view c.args.scope.now.defs.now in let at = c.args.at in
    let items = c.deref-factor-items.result.now in let i = c.loop-factor.factor-index in let e = view c.factor-item.result in
    let next = c.loop-factor.next in let zero = c.loop-factor.some_zero in let so_far = seen_more g.Q.Quantity.numbers c.loop-factor.so_far in
    let rest = views (drop (i + 1) items) in let soon = c.loop-factor.invariant in
    let split = views_more items i c.factor-item.result c.loop-factor-test.true c.factor-item.is in
    let parts : Measures.nodes_count (views (drop i items)) ≡ Measures.node_count e + Measures.nodes_count rest = ap Measures.nodes_count split in
    let fewer = soon.fewer in
    record {
      value = ap₂ (λ x n. after x (factors_from k w ds at n rest))
          (c.join_outcome-so_far.ensures ∙ ap (λ v. after so_far (one_more k.kind.mul at.def at.node (cell_of at.cell) v)) c.value_at-value.ensures)
          c.node_behind-next.ensures
          ∙ CellSteps.factor_more k w ds at next e rest so_far ∙ ap (λ ts. after so_far (factors_from k w ds at next ts)) (sym split) ∙ soon.value;
      zeros = ap₂ (λ b n. b || zero_from k w ds at n rest)
          (c.zero_so_far-some_zero.ensures ∙ ap (λ v. zero || is_zero k.kind v) c.value_at-value.ensures) c.node_behind-next.ensures
          ∙ CellSteps.zero_more k w ds at next e rest zero ∙ ap (λ ts. zero || zero_from k w ds at next ts) (sym split) ∙ soon.zeros;
      below = (subst (AreBelow (limit_of ds at.def)) split soon.below).1;
      asked = (subst (AreUsed (is_used counts)) split soon.asked).1;
      fewer = omega (arith, parts, fewer);
    }

pub product_at-returns : goal.product_at-returns
product_at-returns g t c =
    let k = (rule g.Q.Quantity.kind c.args.scope.now.zero) in let counts = g.L.Lookup.counts c.args.scope.now.lookup.now in
    let w = weights_in c.args.scope.now.n counts in let ds = map view c.args.scope.now.defs.now in let at = c.args.at in
    let items = c.deref-factor-items.result.now in
    let next = c.loop-factor.next in let zero = c.loop-factor.some_zero in let so_far = seen_more g.Q.Quantity.numbers c.loop-factor.so_far in
    let le : length items ≤ c.loop-factor.factor-index = omega arith in
    let done = none_after items c.loop-factor.factor-index le in
    c.or_zero.ensures ∙ ap (or_zero k zero) (c.whole.ensures ∙ ap (λ x. after so_far (whole x)) c.from_ratio.ensures)
    ∙ CellSteps.product_is k w ds at (views items) next zero so_far
    (ap (λ ts. after so_far (factors_from k w ds at next ts)) (sym done) ∙ c.loop-factor.invariant.value)
    (ap (λ ts. zero || zero_from k w ds at next ts) (sym done) ∙ c.loop-factor.invariant.zeros)
    ∙ ap (λ es. value_at k w ds at (product (views es))) c.deref-factor-items.ensures.value
