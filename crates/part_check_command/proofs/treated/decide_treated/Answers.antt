use Rattle.mixed_graph.specs.Vocabulary.{graph_of}
use Rattle.prob_expr.specs.Vocabulary.{target_view}
use Rattle.derived_parts.specs.Vocabulary.{derived_views}
use Rattle.std.proofs.Common.{◌∙◌}
use Rattle.part_check_command.specs.Decisions.{IsFaultAmong}
use Rattle.part_check_command.proofs.Asking.{among_question, known_of_sets}
use Rattle.part_check_command.proofs.Deciding.{refused_among, wanting_alone}
use Rattle.part_check_command.proofs.treated.decide_treated.Goals as goal

pub returns-in-Err-clause-fault : goal.returns-in-Err-clause-fault
returns-in-Err-clause-fault c =
    known_of_sets (graph_of c.args.seen.now.graph) c.args.seen.now.names (target_view c.args.target) c.in-Err.fault c.in-Err.ensures.fault

pub check_treated_parts-requires-clause-target : goal.check_treated_parts-requires-clause-target
check_treated_parts-requires-clause-target c =
    (among_question (graph_of c.args.seen.now.graph) (target_view c.args.target) _ c.requires.sets c.in-Ok.ensures.primes).target

pub returns-in-Ok-check_treated_parts-clause-answer : goal.returns-in-Ok-check_treated_parts-clause-answer
returns-in-Ok-check_treated_parts-clause-answer c = record {
  question = among_question (graph_of c.args.seen.now.graph) (target_view c.args.target) _ c.requires.sets c.in-Ok.ensures.primes;
  asked = c.in-Ok.ensures.primes.asked;
  accepted = c.in-Ok-check_treated_parts.ensures.accepted;
  equals = c.in-Ok-check_treated_parts.ensures.effect;
}

pub returns-clause-answer : goal.returns-clause-answer
returns-clause-answer c =
    let q = graph_of c.args.seen.now.graph in let t = target_view c.args.target in
    refused_among q t (derived_views c.args.parts.items) c.as_slice.result.now c.in-Err-check_treated_parts.fault
    (among_question q t _ c.requires.sets c.in-Ok.ensures.primes) (c.as_slice.ensures.value ∙ c.in_ok-counts.ensures)
    c.in-Err-check_treated_parts.ensures.fault c.refused.result c.refused.ensures.answer

pub returns-clause-fault : goal.returns-clause-fault
returns-clause-fault c =
    wanting_alone (IsFaultAmong (graph_of c.args.seen.now.graph) c.args.seen.now.names (target_view c.args.target)) c.refused.result c.refused.ensures.fault
