use Rattle.std.proofs.Common.{map, ap, ◌∙◌, ◌++◌, ◌&&◌}
use Rattle.mixed_graph.specs.Vocabulary.{has, members_below}
use Rattle.dag_reader.specs.Rows.{row_has}
use Rattle.dag_reader.proofs.RowPairs.{rows_begin, rows_more}
use Rattle.dag_reader.proofs.Joined.{members-cut}
use Rattle.dag_reader.proofs.edges.pairs_below.Goals as goal

pub loop-a-init : goal.loop-a-init
loop-a-init c = rows_begin c.new-out.result.items (λ a. map (λ b. (a, b)) (members_below (row_has c.args.rows.now a) c.args.n)) c.new-out.ensures.items

pub loop-a-preserved : goal.loop-a-preserved
loop-a-preserved c =
    rows_more c.loop-a.out.items c.push_row.new.out.items (λ a. map (λ b. (a, b)) (members_below (row_has c.args.rows.now a) c.args.n))
    c.loop-a.a c.loop-a.invariant
    (c.in_ok-push_row.ensures ∙ ap (λ l. c.loop-a.out.items ++ map (λ b. (c.loop-a.a, b)) l)
    (members-cut (row_has c.args.rows.now c.loop-a.a) (has c.intersection.result.bits) c.args.n 64 c.requires
    (λ v. c.intersection.ensures.members v ∙ ap (λ m. has m v && has c.below-below.result.bits v) c.row-row.ensures
    ∙ ap (λ t. row_has c.args.rows.now c.loop-a.a v && t) (c.below-below.ensures.members v))))
