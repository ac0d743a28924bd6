use Rattle.std.proofs.Common.{subst}
use Rattle.mixed_graph.specs.Vocabulary.{graph_of}
use Rattle.prob_expr.specs.Vocabulary.{masks_of}
use Rattle.check_command.specs.Vocabulary.{IsForText}
use Rattle.steps_command.proofs.Deriving.{derivable, told_as_checked}
use Rattle.steps_command.proofs.reply.steps_answer.Goals as goal

pub parts_of-requires : goal.parts_of-requires
parts_of-requires c =
    let seen = c.args.seen.now in
    derivable (graph_of seen.graph) seen.names (masks_of c.args.experiments.now.items) c.args.certificate.now c.in-AcceptedFormula.formula seen.sized
    (subst (IsForText (graph_of seen.graph) seen.names (masks_of c.args.experiments.now.items) c.args.certificate.now) c.in-AcceptedFormula.is
    c.in_ok-other.ensures.answer)

pub returns-in_ok-parts-in-AcceptedFormula-clause-answer : goal.returns-in_ok-parts-in-AcceptedFormula-clause-answer
returns-in_ok-parts-in-AcceptedFormula-clause-answer c =
    let seen = c.args.seen.now in
    record {
      checked = subst (IsForText (graph_of seen.graph) seen.names (masks_of c.args.experiments.now.items) c.args.certificate.now) c.in-AcceptedFormula.is
          c.in_ok-other.ensures.answer;
      told = c.in_ok-parts-in-AcceptedFormula.ensures;
    }

pub returns-in_default : goal.returns-in_default
returns-in_default c = record {
  answer = record {
    checked = c.in_ok-other.ensures.answer;
    told = told_as_checked (graph_of c.args.seen.now.graph) c.in_ok-other.other c.in_default.not-AcceptedFormula;
  };
  fault = tt;
}
