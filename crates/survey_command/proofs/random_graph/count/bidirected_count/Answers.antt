use Rattle.std.proofs.Common.{◌≡◌, ◌+◌, ◌&&◌, not, ℕ, nat_lt, ap, ◌∙◌, arith, get_or}
use Rattle.mixed_graph.specs.Vocabulary.{has, graph_of}
use Rattle.survey_command.specs.Counts.{pairs_from}
use Rattle.survey_command.proofs.Counting.{pairs_from_more, count_le, count_later, spouses_counted}
use Rattle.survey_command.proofs.random_graph.count.bidirected_count.Goals as goal

pub overflow_add-total : goal.overflow_add-total
overflow_add-total c =
    let few = count_le (has c.difference-later.result.bits) c.count-total.result c.count-total.ensures in
    let low = c.loop-v.invariant.1 in let at = c.loop-v-test.true in let size = c.args.g.now.small in omega (arith, few, low, at, size)

pub loop-v-preserved : goal.loop-v-preserved
loop-v-preserved c =
    let few = count_le (has c.difference-later.result.bits) c.count-total.result c.count-total.ensures in
    let low = c.loop-v.invariant.1 in
    let spouses = has (get_or c.args.g.now.spouses c.loop-v.v 0) in
    let is : (b : ℕ) → has c.difference-later.result.bits b ≡ (spouses b && not (nat_lt b (c.loop-v.v + 1))) = λ b. c.difference-later.ensures.members b
    ∙ ap (λ x. x && not (has c.below.result.bits b)) (c.spouses.ensures.members b) ∙ ap (λ x. spouses b && not x) (c.below.ensures.members b) in (
      pairs_from_more 64 (λ a b. has (get_or c.args.g.now.spouses a 0) b && nat_lt a b) c.loop-v.v c.loop-v.total c.count-total.result c.loop-v.invariant.0
          (count_later spouses (has c.difference-later.result.bits) c.loop-v.v c.count-total.result is c.count-total.ensures),
      omega (arith, few, low),
    )

pub returns : goal.returns
returns c =
    let past = c.loop-v-test.false in
    let end = c.loop-v.auto.v-end in
    c.loop-v.invariant.0 ∙ ap (λ k. pairs_from 64 (λ a b. has (get_or c.args.g.now.spouses a 0) b && nat_lt a b) k) (omega (arith, past, end))
    ∙ spouses_counted (graph_of c.args.g.now) c.args.g.now.valid c.args.g.now.small
