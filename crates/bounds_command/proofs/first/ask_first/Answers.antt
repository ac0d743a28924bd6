use Rattle.std.proofs.Common.{◌∙◌, ap}
use Rattle.mixed_graph.specs.Vocabulary.{graph_of}
use Rattle.told.specs.declared.form.Form.{Form}
use Rattle.told.specs.Vocabulary.{target_refusal, told_in}
use Rattle.bounds_command.specs.Requests.{request_of}
use Rattle.bounds_command.specs.First.{lists_of, unmet_telling}
use Rattle.bounds_command.proofs.FirstReplies.{right_answer}
use Rattle.bounds_command.proofs.first.ask_first.Goals as goal

pub returns-in_ok-reply-in-Answered : goal.returns-in_ok-reply-in-Answered
returns-in_ok-reply-in-Answered c =
    let d = c.args.diagram.now in let q = request_of c.args.asked.now in let a = c.in-Answered.answer in
    record {
      answer = a;
      right = right_answer (graph_of d.observed.graph) (lists_of q d) a (rw c.in-Answered.is at c.first_of.ensures) c.in_ok-reply-in-Answered.ensures.memory;
      ends = c.in_ok-reply-in-Answered.ensures.outcome;
      prints = c.in_ok-reply-in-Answered.ensures.told
          ∙ ap (λ (form : Form). told_in unmet_telling target_refusal form d.observed.names a) c.plain-form.ensures;
    }
