use Rattle.std.proofs.Common.{ℕ, suc, ◌+◌, ◌-◌, ◌*◌, ◌≡◌, set, refl, sym, ap, ap₂, ◌∙◌, arith, rules}
use Rattle.mixed_graph.specs.Vocabulary.{has}
use Rattle.finite_models.specs.Vocabulary.{sum_below, sum_over}
use Rattle.count_eval.specs.Vocabulary.{weights_in, cell_of}
use Rattle.natural_bounds.specs.Vocabulary.{joint, level}
use Rattle.crossed_bounds.specs.Vocabulary.{chosen}
use Rattle.bound_values.specs.Questions.{asked_of, joint_set, AreAlikeOutside}
use Rattle.bound_values.proofs.Pairing.{pair_term, sum_none, sum_skip, sum_done, sum_longer, at_own, at_alike, set_term, set_level, set_alike, y_outside, terms_most, records_most}
use Rattle.bound_values.proofs.Sums.{sum_is}
use Rattle.bound_values.proofs.pairs.+chosen_below.Goals as goal

pub returns-then-v-eq0 : goal.returns-then-v-eq0
returns-then-v-eq0 t c =
    let n = c.args.scope.now.n in let table = c.args.scope.now.counts.now in let q = c.args.scope.now.question in let w = weights_in n table in
    let first = cell_of c.args.first in let second = cell_of c.args.second in
    let a = sum_is table c.args.scope.now.sums.now c.joint-joint.result.bits (joint_set (asked_of q)) c.args.first c.sum.result c.requires.scope.same
    c.joint-joint.ensures.members c.sum.ensures in
    let b = sum_is table c.args.scope.now.sums.now c.joint-joint.result.bits (joint_set (asked_of q)) c.args.second c.sum-then-v-eq0.result
    c.requires.scope.same c.joint-joint.ensures.members c.sum-then-v-eq0.ensures in
    c.chosen.ensures
    ∙ ap₂ (chosen c.args.end)
    (ap₂ (λ (x y : ℕ). x * y) (a ∙ ap (joint w (asked_of q)) (sym (at_own (asked_of q).z first))) c.requires.second)
    (ap₂ (λ (x y : ℕ). x * y) (b ∙ ap (joint w (asked_of q)) (sym (at_alike (asked_of q).z first second c.requires.alike))) c.requires.first)
    ∙ sum_none (has q.y.bits) w.size (pair_term c.args.end w (asked_of q) first second) first c.args.v c.if-v-eq0.true

pub returns-then-not-has : goal.returns-then-not-has
returns-then-not-has t c =
    let w = weights_in c.args.scope.now.n c.args.scope.now.counts.now in let q = c.args.scope.now.question in let some = c.if-v-eq0.false in
    c.chosen_below.ensures ∙ sum_skip (has q.y.bits) w.size (pair_term c.args.end w (asked_of q) (cell_of c.args.first) (cell_of c.args.second))
    (cell_of c.args.first) c.args.v (c.args.v - 1) (omega (arith, some)) (sym c.has.ensures ∙ c.if-not-has.true)

pub loop-x-init : goal.loop-x-init
loop-x-init t c = refl

pub chosen_below-total-requires : goal.chosen_below-total-requires
chosen_below-total-requires t c =
    let n = c.args.scope.now.n in let table = c.args.scope.now.counts.now in let q = c.args.scope.now.question in let u = c.args.v - 1 in
    let out = y_outside c.args.end n table (asked_of q) c.requires.pairs u (sym c.has.ensures ∙ c.if-not-has.false) in
    let some = c.if-v-eq0.false in let small = c.requires.vertex in
    let first : c.args.records.first ≡ level (weights_in n table) (asked_of q) (cell_of (set c.args.first u c.loop-x.x)) =
    c.requires.first ∙ set_level c.args.end n table (asked_of q) c.args.first u c.loop-x.x out in
    let second : c.args.records.second ≡ level (weights_in n table) (asked_of q) (cell_of (set c.args.second u c.loop-x.x)) =
    c.requires.second ∙ set_level c.args.end n table (asked_of q) c.args.second u c.loop-x.x out in
    let alike : AreAlikeOutside (asked_of q).z (cell_of (set c.args.first u c.loop-x.x)) (cell_of (set c.args.second u c.loop-x.x)) =
    set_alike (asked_of q).z c.args.first c.args.second u c.loop-x.x (omega (arith, some, small)) (omega (arith, some, small)) c.requires.alike in
    search (rules, first, second, alike)

-- one value of the vertex more
more : (t : ℕ) (c : goal.After-chosen_below-total t)
    → c.loop-x.total + c.chosen_below-total.result ≡ sum_below (c.loop-x.x + 1) (λ x. sum_over (has c.args.scope.now.question.y.bits)
    (weights_in c.args.scope.now.n c.args.scope.now.counts.now).size (c.args.v - 1)
    (pair_term c.args.end (weights_in c.args.scope.now.n c.args.scope.now.counts.now) (asked_of c.args.scope.now.question) (cell_of c.args.first)
    (cell_of c.args.second)) (cell_of (set c.args.first (c.args.v - 1) x)))
more t c =
    let n = c.args.scope.now.n in let table = c.args.scope.now.counts.now in let q = c.args.scope.now.question in let u = c.args.v - 1 in
    let w = weights_in n table in let y = has q.y.bits in
    let out = y_outside c.args.end n table (asked_of q) c.requires.pairs u (sym c.has.ensures ∙ c.if-not-has.false) in
    let f = λ (x : ℕ). sum_over y w.size u (pair_term c.args.end w (asked_of q) (cell_of c.args.first) (cell_of c.args.second)) (cell_of (set c.args.first u x)) in
    ap₂ (λ (a b : ℕ). a + b) c.loop-x.invariant (c.chosen_below-total.ensures
    ∙ ap (λ (g : (ℕ → ℕ) → ℕ). sum_over y w.size u g (cell_of (set c.args.first u c.loop-x.x)))
    (set_term c.args.end n table (asked_of q) c.args.first c.args.second u c.loop-x.x out))
    ∙ ap (λ k. sum_below k f) (let e : suc c.loop-x.x ≡ c.loop-x.x + 1 = omega arith in e)

pub overflow_add-total : goal.overflow_add-total
overflow_add-total t c =
    let n = c.args.scope.now.n in let table = c.args.scope.now.counts.now in let q = c.args.scope.now.question in let u = c.args.v - 1 in
    let w = weights_in n table in let y = has q.y.bits in let some = c.if-v-eq0.false in let small = c.requires.vertex in
    let test = c.loop-x-test.true in let levels = c.levels-x-end.ensures in
    let g = pair_term c.args.end w (asked_of q) (cell_of c.args.first) (cell_of c.args.second) in
    let f = λ (x : ℕ). sum_over y w.size u g (cell_of (set c.args.first u x)) in
    let here = more t c in
    let longer = sum_longer (c.loop-x.x + 1) (w.size u) f (omega (arith, test, levels)) in
    let whole = sum_done y w.size g c.args.first c.args.v u (omega (arith, some)) (sym c.has.ensures ∙ c.if-not-has.false) (omega (arith, some, small)) in
    let most = terms_most c.args.end n table (asked_of q) c.requires.pairs c.requires.scope.table c.requires.scope.asked (cell_of c.args.first)
    (cell_of c.args.second) c.args.v c.requires.alike in
    let few = records_most c.args.end n table (asked_of q) c.requires.scope.table (cell_of c.args.first) (cell_of c.args.second) in
    omega (arith, here, longer, whole, most, few)

pub loop-x-preserved : goal.loop-x-preserved
loop-x-preserved t c = more t c

pub returns : goal.returns
returns t c =
    let n = c.args.scope.now.n in let table = c.args.scope.now.counts.now in let q = c.args.scope.now.question in let u = c.args.v - 1 in
    let w = weights_in n table in let y = has q.y.bits in let some = c.if-v-eq0.false in let small = c.requires.vertex in
    let g = pair_term c.args.end w (asked_of q) (cell_of c.args.first) (cell_of c.args.second) in
    let end : c.loop-x.x ≡ w.size u = omega (arith, c.levels-x-end.ensures, c.loop-x-test.false, c.loop-x.auto.x-end) in
    c.loop-x.invariant ∙ ap (λ k. sum_below k (λ x. sum_over y w.size u g (cell_of (set c.args.first u x)))) end
    ∙ sum_done y w.size g c.args.first c.args.v u (omega (arith, some)) (sym c.has.ensures ∙ c.if-not-has.false) (omega (arith, some, small))
