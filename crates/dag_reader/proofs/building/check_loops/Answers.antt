use Rattle.std.proofs.Common.{sym, ◌∙◌}
use Rattle.dag_reader.proofs.MarkLists.{all_inside_more}
use Rattle.dag_reader.proofs.PairLists.{loop_found_inside, no_self_loop}
use Rattle.dag_reader.proofs.building.check_loops.Goals as goal

pub self_loop-requires : goal.self_loop-requires
self_loop-requires c = all_inside_more _ 64 c.args.marks.now c.count-count.ensures.names.few c.requires.inside

pub vertex_name-requires : goal.vertex_name-requires
vertex_name-requires c = loop_found_inside _ c.args.marks.now c.in-Some.v (sym c.in_ok-v.ensures ∙ c.in-Some.is) c.requires.inside

pub returns-then-not-has_loop : goal.returns-then-not-has_loop
returns-then-not-has_loop c =
    let apart = c.has_loop.ensures c.if-not-has_loop.true in
    no_self_loop c.args.marks.now
    (λ v. sym (c.requires.edges.arrows v v) ∙ (apart v).0)
    (λ v. sym (c.requires.edges.doubles v v) ∙ (apart v).1)
