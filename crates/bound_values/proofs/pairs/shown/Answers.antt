use Rattle.std.proofs.Common.{ℕ, ◌+◌, ◌*◌, ◌≡◌, ◌≤◌, sym, ap, ap₂, subst, ◌∙◌, arith}
use Rattle.finite_models.specs.Vocabulary.{sum_over}
use Rattle.count_eval.specs.Vocabulary.{weights_in, cell_of}
use Rattle.natural_bounds.specs.Vocabulary.{joint, level}
use Rattle.crossed_bounds.specs.Vocabulary.{other}
use Rattle.bound_values.specs.Questions.{asked_of, joint_set, AreAlikeOutside}
use Rattle.bound_values.proofs.Pairing.{pair_term, other_term, other_level, other_alike, terms_most, records_most, shown_most}
use Rattle.bound_values.proofs.Sums.{sum_is, joint_less, treated_less}
use Rattle.bound_values.proofs.pairs.shown.Goals as goal
use Rattle.bound_values.proofs.pairs.shown.Goals.{After-sum-2, After-other_value-other}

-- the counts of either level with the value of x
joint_first : (c : After-sum-2) → c.sum.result ≡ joint (weights_in c.args.scope.now.n c.args.scope.now.counts.now) (asked_of c.args.scope.now.question) (cell_of c.args.first.now)
joint_first c = sum_is c.args.scope.now.counts.now c.args.scope.now.sums.now c.joint-joint.result.bits (joint_set (asked_of c.args.scope.now.question))
    c.args.first.now c.sum.result c.requires.scope.same c.joint-joint.ensures.members c.sum.ensures

joint_second : (c : After-sum-2) → c.sum-2.result ≡ joint (weights_in c.args.scope.now.n c.args.scope.now.counts.now) (asked_of c.args.scope.now.question) (cell_of c.args.second.now)
joint_second c = sum_is c.args.scope.now.counts.now c.args.scope.now.sums.now c.joint-joint.result.bits (joint_set (asked_of c.args.scope.now.question))
    c.args.second.now c.sum-2.result c.requires.scope.same c.joint-joint.ensures.members c.sum-2.ensures

first_most : (c : After-sum-2) → c.sum.result ≤ c.args.records.first
first_most c =
    let n = c.args.scope.now.n in let t = c.args.scope.now.counts.now in let q = asked_of c.args.scope.now.question in let s = cell_of c.args.first.now in
    let j = joint_first c in let a = joint_less n t q s in let b = treated_less n t q s in let r = c.requires.first in omega (arith, j, a, b, r)

second_most : (c : After-sum-2) → c.sum-2.result ≤ c.args.records.second
second_most c =
    let n = c.args.scope.now.n in let t = c.args.scope.now.counts.now in let q = asked_of c.args.scope.now.question in let s = cell_of c.args.second.now in
    let j = joint_second c in let a = joint_less n t q s in let b = treated_less n t q s in let r = c.requires.second in omega (arith, j, a, b, r)

-- the product of the records
product_few : (c : After-sum-2) → c.args.records.first * c.args.records.second ≤ 1000000000000000000000000000000
product_few c =
    let n = c.args.scope.now.n in let t = c.args.scope.now.counts.now in let q = asked_of c.args.scope.now.question in
    subst (λ k. k ≤ 1000000000000000000000000000000) (sym (ap₂ (λ (a b : ℕ). a * b) c.requires.first c.requires.second))
    (records_most c.args.end n t q c.requires.scope.table (cell_of c.args.first.now) (cell_of c.args.second.now))

-- the levels with the other value of x
turned_alike : (c : After-other_value-other) → AreAlikeOutside (asked_of c.args.scope.now.question).z (cell_of c.other_value-inner.result) (cell_of c.other_value-other.result)
turned_alike c =
    let n = c.args.scope.now.n in let t = c.args.scope.now.counts.now in let q = asked_of c.args.scope.now.question in
    subst (λ s. AreAlikeOutside q.z s (cell_of c.other_value-other.result)) (sym c.other_value-inner.ensures.cell)
    (subst (λ s. AreAlikeOutside q.z (other q.x (cell_of c.args.first.now)) s) (sym c.other_value-other.ensures.cell)
    (other_alike c.args.end n t q c.requires.pairs (cell_of c.args.first.now) (cell_of c.args.second.now) c.requires.alike))

turned_first : (c : After-other_value-other) → c.args.records.first ≡ level (weights_in c.args.scope.now.n c.args.scope.now.counts.now)
    (asked_of c.args.scope.now.question) (cell_of c.other_value-inner.result)
turned_first c =
    let n = c.args.scope.now.n in let t = c.args.scope.now.counts.now in let q = asked_of c.args.scope.now.question in
    c.requires.first ∙ other_level c.args.end n t q c.requires.pairs (cell_of c.args.first.now)
    ∙ ap (level (weights_in n t) q) (sym c.other_value-inner.ensures.cell)

turned_second : (c : After-other_value-other) → c.args.records.second ≡ level (weights_in c.args.scope.now.n c.args.scope.now.counts.now)
    (asked_of c.args.scope.now.question) (cell_of c.other_value-other.result)
turned_second c =
    let n = c.args.scope.now.n in let t = c.args.scope.now.counts.now in let q = asked_of c.args.scope.now.question in
    c.requires.second ∙ other_level c.args.end n t q c.requires.pairs (cell_of c.args.second.now)
    ∙ ap (level (weights_in n t) q) (sym c.other_value-other.ensures.cell)

whole_most : (c : goal.After-chosen_below) → c.sum.result * c.args.records.second + c.sum-2.result * c.args.records.first + c.chosen_below.result
    ≤ 4 * (c.args.records.first * c.args.records.second)
whole_most c =
    let n = c.args.scope.now.n in let t = c.args.scope.now.counts.now in let q = asked_of c.args.scope.now.question in
    let turned = (goal.at.returns-clause-few c).After-other_value-other in let sums = (goal.at.returns-clause-few c).After-sum-2 in
    let most = terms_most c.args.end n t q c.requires.pairs c.requires.scope.table c.requires.scope.asked (cell_of c.other_value-inner.result)
    (cell_of c.other_value-other.result) c.vertex_count.result (turned_alike turned) in
    shown_most c.sum.result c.sum-2.result c.args.records.first c.args.records.second c.chosen_below.result (first_most sums)
    (second_most sums)
    (subst (λ k. k ≤ 2 * (c.args.records.first * c.args.records.second)) (sym c.chosen_below.ensures)
    (subst (λ k. sum_over q.y (weights_in n t).size c.vertex_count.result (pair_term c.args.end (weights_in n t) q (cell_of c.other_value-inner.result)
    (cell_of c.other_value-other.result)) (cell_of c.other_value-inner.result) ≤ 2 * k)
    (sym (ap₂ (λ (a b : ℕ). a * b) (turned_first turned) (turned_second turned))) most))

pub overflow_add-result : goal.overflow_add-result
overflow_add-result c =
    let sums = (goal.at.overflow_add-result c).After-sum-2 in
    let most = shown_most c.sum.result c.sum-2.result c.args.records.first c.args.records.second 0 (first_most sums) (second_most sums) (omega arith) in
    let few = product_few sums in omega (arith, most, few)

pub chosen_below-requires-clause-alike : goal.chosen_below-requires-clause-alike
chosen_below-requires-clause-alike c = turned_alike (goal.at.chosen_below-requires-clause-alike c).After-other_value-other

pub chosen_below-requires-clause-first : goal.chosen_below-requires-clause-first
chosen_below-requires-clause-first c = turned_first (goal.at.chosen_below-requires-clause-first c).After-other_value-other

pub chosen_below-requires-clause-second : goal.chosen_below-requires-clause-second
chosen_below-requires-clause-second c = turned_second (goal.at.chosen_below-requires-clause-second c).After-other_value-other

pub overflow_add-result-2 : goal.overflow_add-result-2
overflow_add-result-2 c = let most = whole_most c in let few = product_few (goal.at.overflow_add-result-2 c).After-sum-2 in omega (arith, most, few)

pub returns-clause-value : goal.returns-clause-value
returns-clause-value c =
    let n = c.args.scope.now.n in let t = c.args.scope.now.counts.now in let q = asked_of c.args.scope.now.question in
    let sums = (goal.at.returns-clause-value c).After-sum-2 in let w = weights_in n t in
    let r = cell_of c.args.first.now in let s = cell_of c.args.second.now in
    ap₂ (λ (x y : ℕ). x + y)
    (ap₂ (λ (x y : ℕ). x + y) (ap₂ (λ (x y : ℕ). x * y) (joint_first sums) c.requires.second) (ap₂ (λ (x y : ℕ). x * y) (joint_second sums) c.requires.first))
    (c.chosen_below.ensures
    ∙ ap (λ v. sum_over q.y w.size v (pair_term c.args.end w q (cell_of c.other_value-inner.result) (cell_of c.other_value-other.result))
    (cell_of c.other_value-inner.result)) c.vertex_count.ensures
    ∙ ap₂ (λ (a b : ℕ → ℕ). sum_over q.y w.size n (pair_term c.args.end w q a b) a) c.other_value-inner.ensures.cell c.other_value-other.ensures.cell
    ∙ ap (λ (f : (ℕ → ℕ) → ℕ). sum_over q.y w.size n f (other q.x r)) (other_term c.args.end n t q c.requires.pairs r s))

pub returns-clause-few : goal.returns-clause-few
returns-clause-few c = whole_most c
