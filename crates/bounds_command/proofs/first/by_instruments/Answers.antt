use Rattle.mixed_graph.specs.Vocabulary.{texts}
use Rattle.diagram.specs.Vocabulary.{lent}
use Rattle.bounds_command.specs.Asking.{bound_lists}
use Rattle.bounds_command.proofs.AskedSets.{four_sets}
use Rattle.bounds_command.proofs.first.by_instruments.Goals as goal

pub by_instrument-requires : goal.by_instrument-requires
by_instrument-requires c = four_sets
    (bound_lists c.args.diagram.now (lent c.args.x) (lent c.args.y) (texts c.args.given.now) (texts c.args.instruments.now) (texts c.args.strata.now))
    c.in-Ok.question c.in-Ok.ensures.question c.args.diagram.now.observed.graph.n c.args.diagram.now.observed.sized

pub returns-in-Ok : goal.returns-in-Ok
returns-in-Ok c = c.by_instrument.ensures
    (bound_lists c.args.diagram.now (lent c.args.x) (lent c.args.y) (texts c.args.given.now) (texts c.args.instruments.now) (texts c.args.strata.now))
    c.in-Ok.ensures.question

pub returns-in-Err : goal.returns-in-Err
returns-in-Err c = c.in-Err.ensures.fault
