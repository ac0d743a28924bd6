use Rattle.std.proofs.Common.{◌≡◌, ◌≤◌, ◌<◌, ◌-◌, ◌∙◌, ap, sym, subst, set, length, Ok, Err, rules, arith}
use Rattle.mixed_graph.specs.Vocabulary.{has}
use Rattle.quantity.specs.Vocabulary.{gives}
use Rattle.count_eval.specs.Vocabulary.{weights_in, cell_of}
use Rattle.natural_bounds.specs.Vocabulary.{condition}
use Rattle.bound_values.specs.Questions.{asked_of}
use Rattle.bound_values.specs.Values.{total_below, total_over, term_value}
use Rattle.bound_values.proofs.Boxes.{total_done, total_err, total_err_add}
use Rattle.bound_values.proofs.Sums.{condition_same}
use Rattle.bound_values.proofs.strata.+strata_below.Goals as goal

pub strata_below-requires-in-loop-x : goal.strata_below-requires-in-loop-x
strata_below-requires-in-loop-x g t c κs within =
    let table = c.args.scope.now.counts.now in let q = c.args.scope.now.question in let u = c.args.v - 1 in
    let free = sym c.has.ensures ∙ c.if-not-has.false in
    let some : 1 ≤ condition (weights_in c.args.scope.now.n table) (asked_of q) (cell_of (set c.args.cell u c.loop-x.x)) =
    subst (λ k. 1 ≤ k) (sym (condition_same c.args.scope.now.n table (asked_of q) c.args.cell u c.loop-x.x c.requires.apart free)) c.requires.some in
    search (rules, some)

pub returns-in-Err : goal.returns-in-Err
returns-in-Err g t c =
    let kind = g.Q.Quantity.kind in let numbers = g.Q.Quantity.numbers in
    let n = weights_in c.args.scope.now.n c.args.scope.now.counts.now in let q = c.args.scope.now.question in let u = c.args.v - 1 in
    let w = has q.strata.bits in let f = term_value kind q.method c.args.end n (asked_of q) in
    let some = c.if-v-eq0.false in let test = c.loop-x-test.true in
    let low : u < length c.args.cell = (let v = c.requires.vertex in omega (arith, v, some)) in
    let lt : c.loop-x.x < n.size u = omega (arith, test, c.levels-x-end.ensures) in
    total_done kind w n.size f c.args.cell c.args.v u (omega (arith, some)) (sym c.has.ensures ∙ c.if-not-has.false) low (Err c.in-Err.fault)
    (total_err kind (λ x. total_over kind w n.size u f (cell_of (set c.args.cell u x))) c.loop-x.x (n.size u) (numbers c.loop-x.total) c.in-Err.fault lt
    c.loop-x.invariant (ap (gives numbers) (sym c.in-Err.is) ∙ c.strata_below-in-loop-x.ensures))

pub returns-in-Err-add : goal.returns-in-Err-add
returns-in-Err-add g t c =
    let kind = g.Q.Quantity.kind in let numbers = g.Q.Quantity.numbers in
    let n = weights_in c.args.scope.now.n c.args.scope.now.counts.now in let q = c.args.scope.now.question in let u = c.args.v - 1 in
    let w = has q.strata.bits in let f = term_value kind q.method c.args.end n (asked_of q) in
    let some = c.if-v-eq0.false in let test = c.loop-x-test.true in
    let low : u < length c.args.cell = (let v = c.requires.vertex in omega (arith, v, some)) in
    let lt : c.loop-x.x < n.size u = omega (arith, test, c.levels-x-end.ensures) in
    total_done kind w n.size f c.args.cell c.args.v u (omega (arith, some)) (sym c.has.ensures ∙ c.if-not-has.false) low (Err c.in-Err-add.fault)
    (total_err_add kind (λ x. total_over kind w n.size u f (cell_of (set c.args.cell u x))) c.loop-x.x (n.size u) (numbers c.loop-x.total)
    (numbers c.in-Ok.more) c.in-Err-add.fault lt
    c.loop-x.invariant (ap (gives numbers) (sym c.in-Ok.is) ∙ c.strata_below-in-loop-x.ensures)
    (sym c.add.ensures ∙ ap (gives numbers) c.in-Err-add.is))

pub returns : goal.returns
returns g t c =
    let kind = g.Q.Quantity.kind in let numbers = g.Q.Quantity.numbers in
    let n = weights_in c.args.scope.now.n c.args.scope.now.counts.now in let q = c.args.scope.now.question in let u = c.args.v - 1 in
    let w = has q.strata.bits in let f = term_value kind q.method c.args.end n (asked_of q) in
    let some = c.if-v-eq0.false in
    let low : u < length c.args.cell = (let v = c.requires.vertex in omega (arith, v, some)) in
    let end : n.size u ≡ c.loop-x.x = omega (arith, c.levels-x-end.ensures, c.loop-x-test.false, c.loop-x.auto.x-end) in
    total_done kind w n.size f c.args.cell c.args.v u (omega (arith, some)) (sym c.has.ensures ∙ c.if-not-has.false) low (Ok (numbers c.loop-x.total))
    (ap (λ k. total_below kind k (λ x. total_over kind w n.size u f (cell_of (set c.args.cell u x)))) end ∙ c.loop-x.invariant)
