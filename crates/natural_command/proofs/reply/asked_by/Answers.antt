use Rattle.std.proofs.Common.{◌≡◌, ap, ◌∙◌, rules}
use Rattle.mixed_graph.specs.Vocabulary.{has, graph_of}
use Rattle.mixed_graph.proofs.Masks.{has-zero}
use Rattle.finite_models.proofs.Bools.{not_both}
use Rattle.natural_command.specs.Right.{AreBefore}
use Rattle.natural_command.proofs.Pairs.{pair_of, pair_from}
use Rattle.natural_command.proofs.Replying.{lowest_named}
use Rattle.natural_command.proofs.reply.asked_by.Goals as goal
use Rattle.natural_command.proofs.reply.asked_by.Goals.{After-is_empty}

-- where no member of what is given comes after x
before : (c : After-is_empty) → c.intersection-acted.result.bits ≡ 0 → AreBefore (graph_of c.args.seen.now.graph) c.args.question
before c none v i d =
    not_both (has c.intersection-acted.result.bits v)
    (pair_from (has c.args.question.given.bits v) (has c.descendants.result.bits v) (has c.intersection-acted.result.bits v)
    (c.intersection-acted.ensures.members v) i ((c.descendants.ensures v).1 d))
    (ap (λ n. has n v) none ∙ has-zero v)

pub returns-then-not-is_empty-clause-fault : goal.returns-then-not-is_empty-clause-fault
returns-then-not-is_empty-clause-fault c =
    let at = pair_of (has c.args.question.given.bits c.lowest.result) (has c.descendants.result.bits c.lowest.result)
    (has c.intersection-acted.result.bits c.lowest.result) (c.intersection-acted.ensures.members c.lowest.result) c.lowest.ensures.member in
    lowest_named (graph_of c.args.seen.now.graph) c.args.seen.now.names c.args.question c.lowest.result c.name.result.now
    (record {
      member = at.0;
      after = (c.descendants.ensures c.lowest.result).0 at.1;
      least = λ u i d. c.lowest.ensures.least u (pair_from (has c.args.question.given.bits u) (has c.descendants.result.bits u)
          (has c.intersection-acted.result.bits u) (c.intersection-acted.ensures.members u) i ((c.descendants.ensures u).1 d));
    })
    c.name.ensures c.after.result c.after.ensures

pub returns-then-are_too_many-clause-fault : goal.returns-then-are_too_many-clause-fault
returns-then-are_too_many-clause-fault c = record {
  before = before (goal.at.returns-then-are_too_many-clause-fault c).After-is_empty (search rules);
  many = c.are_too_many.ensures.many c.if-are_too_many.true;
}

pub asked_of-requires-clause-before : goal.asked_of-requires-clause-before
asked_of-requires-clause-before c = before (goal.at.asked_of-requires-clause-before c).After-is_empty (search rules)

pub asked_of-requires-clause-few : goal.asked_of-requires-clause-few
asked_of-requires-clause-few c = c.are_too_many.ensures.few c.if-are_too_many.false

pub returns-clause-asked : goal.returns-clause-asked
returns-clause-asked c = record {
  before = before (goal.at.returns-clause-asked c).After-is_empty (search rules);
  few = c.are_too_many.ensures.few c.if-are_too_many.false;
  asked = c.asked_of.ensures;
}
