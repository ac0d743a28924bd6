use Rattle.mixed_graph.specs.Vocabulary.{graph_of}
use Rattle.prob_expr.specs.Vocabulary.{target_view}
use Rattle.derived_parts.specs.Vocabulary.{derived_views}
use Rattle.std.proofs.Common.{◌∙◌}
use Rattle.part_check_command.specs.Decisions.{IsFaultNested}
use Rattle.part_check_command.proofs.Asking.{nested_question, known_of_question}
use Rattle.part_check_command.proofs.Deciding.{refused_nested, wanting_alone}
use Rattle.part_check_command.proofs.nested.decide_nested.Goals as goal

pub returns-in-Err-clause-fault : goal.returns-in-Err-clause-fault
returns-in-Err-clause-fault c =
    known_of_question (graph_of c.args.seen.now.graph) c.args.seen.now.names (target_view c.args.target) c.args.through.bits c.in-Err.fault c.in-Err.ensures.fault

pub check_natural_parts-requires-clause-target : goal.check_natural_parts-requires-clause-target
check_natural_parts-requires-clause-target c =
    (nested_question (graph_of c.args.seen.now.graph) (target_view c.args.target) c.args.through.bits c.in-Ok.asked c.requires.sets c.in-Ok.ensures.asked).target

pub returns-in-Ok-check_natural_parts-clause-answer : goal.returns-in-Ok-check_natural_parts-clause-answer
returns-in-Ok-check_natural_parts-clause-answer c = record {
  question = nested_question (graph_of c.args.seen.now.graph) (target_view c.args.target) c.args.through.bits c.in-Ok.asked c.requires.sets c.in-Ok.ensures.asked;
  asked = c.in-Ok.ensures.asked.asked;
  accepted = c.in-Ok-check_natural_parts.ensures.accepted;
  equals = c.in-Ok-check_natural_parts.ensures.effect;
}

pub returns-clause-answer : goal.returns-clause-answer
returns-clause-answer c =
    let q = graph_of c.args.seen.now.graph in let t = target_view c.args.target in
    refused_nested q t c.args.through.bits (derived_views c.args.parts.items) c.as_slice.result.now c.in-Err-check_natural_parts.fault
    (nested_question q t c.args.through.bits c.in-Ok.asked c.requires.sets c.in-Ok.ensures.asked) (c.as_slice.ensures.value ∙ c.in_ok-counts.ensures)
    c.in-Err-check_natural_parts.ensures.fault c.refused.result c.refused.ensures.answer

pub returns-clause-fault : goal.returns-clause-fault
returns-clause-fault c =
    wanting_alone (IsFaultNested (graph_of c.args.seen.now.graph) c.args.seen.now.names (target_view c.args.target) c.args.through.bits) c.refused.result c.refused.ensures.fault
