use Rattle.std.proofs.Common.{◌≡◌, length, arith, get_or, subst}
use Rattle.mixed_graph.specs.Vocabulary.{has, members_below}
use Rattle.survey_command.proofs.Counting.{pairs_from_more, count_le}
use Rattle.survey_command.proofs.random_graph.count.count_rows.Goals as goal
use Rattle.survey_command.proofs.random_graph.count.count_rows.Goals.{After-count-total}

-- the members of row v are counted
counted : (c : After-count-total) → c.count-total.result ≡ length (members_below (has (get_or c.args.rows.now c.loop-v.v 0)) 64)
counted c = subst (λ m. c.count-total.result ≡ length (members_below (has m) 64)) c.row.ensures c.count-total.ensures

pub overflow_add-total : goal.overflow_add-total
overflow_add-total c =
    let few = count_le (has (get_or c.args.rows.now c.loop-v.v 0)) c.count-total.result (counted (goal.at.overflow_add-total c).After-count-total) in
    let low = c.loop-v.invariant.1 in let at = c.loop-v-test.true in let size = c.requires in omega (arith, few, low, at, size)

pub loop-v-preserved : goal.loop-v-preserved
loop-v-preserved c =
    let few = count_le (has (get_or c.args.rows.now c.loop-v.v 0)) c.count-total.result (counted (goal.at.loop-v-preserved c).After-count-total) in
    let low = c.loop-v.invariant.1 in (
      pairs_from_more 64 (λ a b. has (get_or c.args.rows.now a 0) b) c.loop-v.v c.loop-v.total c.count-total.result c.loop-v.invariant.0
          (counted (goal.at.loop-v-preserved c).After-count-total),
      omega (arith, few, low),
    )
