use Rattle.std.proofs.Common.{arith}
use Rattle.mixed_graph.specs.Vocabulary.{graph_of}
use Rattle.identify.specs.Vocabulary.{is_hedge}
use Rattle.survey_command.specs.Tallies.{IsRowTally}
use Rattle.survey_command.proofs.Tallying.{row_none, row_skip, row_more, row_room, at_next}
use Rattle.survey_command.proofs.tally.Tally.of_row.Goals as goal

pub loop-b-init : goal.loop-b-init
loop-b-init c = row_none (graph_of c.args.g.now) c.args.a c.none-tally.result c.none-tally.ensures.formulas c.none-tally.ensures.hedges

pub loop-b-preserved-then-a-b : goal.loop-b-preserved-then-a-b
loop-b-preserved-then-a-b c = at_next (λ k. IsRowTally (graph_of c.args.g.now) c.args.a k c.loop-b.tally) c.loop-b.b
    (row_skip (graph_of c.args.g.now) c.args.a c.loop-b.b c.loop-b.tally c.if-a-b.true c.loop-b.invariant)

pub with-tally-requires : goal.with-tally-requires
with-tally-requires c =
    let at = c.loop-b-test.true in let end = c.loop-b.auto.b-end in let small = c.args.g.now.small in
    let room = row_room (graph_of c.args.g.now) c.args.a c.loop-b.b c.loop-b.tally small (omega (arith, at, end, small)) c.loop-b.invariant in
    record { formulas = room.0; hedges = room.1 }

pub loop-b-preserved : goal.loop-b-preserved
loop-b-preserved c = at_next (λ k. IsRowTally (graph_of c.args.g.now) c.args.a k c.with-tally.result) c.loop-b.b
    (row_more (graph_of c.args.g.now) c.args.a c.loop-b.b c.loop-b.tally c.with-tally.result (is_hedge c.in_ok-answer.answer) c.if-a-b.false c.loop-b.invariant
    c.in_ok-answer.ensures c.with-tally.ensures.formulas c.with-tally.ensures.hedges)
