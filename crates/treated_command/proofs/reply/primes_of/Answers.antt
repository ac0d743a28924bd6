use Rattle.std.proofs.Common.{refl, rules}
use Rattle.mixed_graph.specs.Vocabulary.{graph_of}
use Rattle.treated_command.proofs.Replying.{lowest_named}
use Rattle.treated_command.proofs.reply.primes_of.Goals as goal

pub returns-then-not-is_empty-clause-fault : goal.returns-then-not-is_empty-clause-fault
returns-then-not-is_empty-clause-fault c =
    let acted = c.acted_on-acted.ensures.after in
    let at = acted.sound c.lowest.result c.lowest.ensures.member in
    lowest_named (graph_of c.args.seen.now.graph) c.args.seen.now.names c.args.sets c.lowest.result c.name.result.now
    (record { member = at.0; after = at.1; least = λ u i a. c.lowest.ensures.least u (acted.complete u (i, a)) })
    c.name.ensures c.after.result c.after.ensures

pub returns-then-are_too_many-clause-fault : goal.returns-then-are_too_many-clause-fault
returns-then-are_too_many-clause-fault c = record {
  before = c.acted_on-acted.ensures.none (search rules);
  many = c.are_too_many.ensures.many c.if-are_too_many.true;
}

pub names_of-requires-clause-few : goal.names_of-requires-clause-few
names_of-requires-clause-few c = c.are_too_many.ensures.few c.if-are_too_many.false

pub returns-clause-primes : goal.returns-clause-primes
returns-clause-primes c = record {
  before = c.acted_on-acted.ensures.none (search rules);
  few = c.are_too_many.ensures.few c.if-are_too_many.false;
  asked = record { sets = refl; primes = c.names_of.ensures };
}
