use Rattle.std.proofs.Common.{refl}
use Rattle.mixed_graph.specs.Vocabulary.{graph_of}
use Rattle.bound_values.proofs.Used.{counted_of, asked_used}
use Rattle.bounds_command.proofs.InModels.{joint_below, joint_low, found_holds}
use Rattle.bounds_command.proofs.deciding.over_table.Goals as goal

pub bounds_over-requires-clause-asked : goal.bounds_over-requires-clause-asked
bounds_over-requires-clause-asked c = counted_of c.args.question c.args.counts c.used-used.ensures.table c.requires.used
    (joint_low (graph_of c.args.seen.now.graph) c.args.seen.now.names c.args.question c.requires.known)

pub bounds_over-requires-clause-below : goal.bounds_over-requires-clause-below
bounds_over-requires-clause-below c v h = joint_below (graph_of c.args.seen.now.graph) c.args.seen.now.names c.args.question c.requires.known v
    (asked_used c.args.question c.args.counts c.requires.used v h)

pub returns-in-Ok-clause-answer : goal.returns-in-Ok-clause-answer
returns-in-Ok-clause-answer c = record {
  table = refl;
  question = refl;
  exact = refl;
  found = c.in-Ok.ensures.found;
  models = found_holds (graph_of c.args.seen.now.graph) c.args.seen.now.names c.args.question c.requires.known c.args.counts c.used-used.ensures.table
      c.requires.used c.args.exact c.in-Ok.found c.in-Ok.ensures.found;
}
