use Rattle.std.proofs.Common.{arith}
use Rattle.mixed_graph.specs.Vocabulary.{graph_of}
use Rattle.survey_command.specs.Tallies.{IsTally}
use Rattle.survey_command.proofs.Tallying.{tally_none, tally_more, tally_room, at_next}
use Rattle.survey_command.proofs.tally.Tally.of_graph.Goals as goal

pub loop-a-init : goal.loop-a-init
loop-a-init c = tally_none (graph_of c.args.g.now) c.none-tally.result c.none-tally.ensures.formulas c.none-tally.ensures.hedges

pub plus-tally-requires : goal.plus-tally-requires
plus-tally-requires c =
    let at = c.loop-a-test.true in let end = c.loop-a.auto.a-end in let small = c.args.g.now.small in
    let room = tally_room (graph_of c.args.g.now) c.loop-a.a c.loop-a.tally c.in_ok-row.row small (omega (arith, at, end, small))
    c.loop-a.invariant c.in_ok-row.ensures in
    record { formulas = room.0; hedges = room.1 }

pub loop-a-preserved : goal.loop-a-preserved
loop-a-preserved c = at_next (λ k. IsTally (graph_of c.args.g.now) k c.plus-tally.result) c.loop-a.a
    (tally_more (graph_of c.args.g.now) c.loop-a.a c.loop-a.tally c.in_ok-row.row c.plus-tally.result c.loop-a.invariant c.in_ok-row.ensures
    c.plus-tally.ensures.formulas c.plus-tally.ensures.hedges)
