use Rattle.std.proofs.Common.{◌≡◌, Bool, Result, Ok, Err, IfOk, subst}
use Rattle.diagram.specs.declared.diagram.Diagram.{Diagram}
use Rattle.replies.specs.declared.outcome.Reply.{Reply}
use Rattle.replies.specs.Vocabulary.{told_of}
use Rattle.told.specs.declared.form.Form.{Form}
use Rattle.told.specs.Vocabulary.{target_refusal, Tells, told_in}
use Rattle.separation_commands.specs.GraphRight.{IsGraphAnswer, shown_of}
use Rattle.separation_commands.specs.GraphTelling.{graph_telling}
use Rattle.separation_commands.specs.declared.graph.answer.Answer.{Answer}
use Rattle.separation_commands.proofs.graph.reply.graph_reply.Goals as goal

answer_told : {E : Type 0} (form : Form) (project : Bool) (d : Diagram) (a : Answer) (r : Result Reply E) → a.graph.now ≡ shown_of project d
    → IfOk r (λ (p : Reply). p.outcome ≡ graph_telling.outcome a)
    → IfOk r (λ (p : Reply). told_of p ≡ told_in graph_telling target_refusal form d.observed.names (Ok a))
    → IfOk r (λ (p : Reply). Tells graph_telling target_refusal (IsGraphAnswer project d) form d.observed.names p.outcome (told_of p))
answer_told form project d a (Err e) right outcome told = tt
answer_told form project d a (Ok p) right outcome told = record { answer = Ok a; right = right; ends = outcome; prints = told }

pub returns : goal.returns
returns c =
    let d = c.args.diagram.now in let project = c.args.asked.now.project in
    subst (λ (form : Form). IfOk c.tell.result
    (λ p. Tells graph_telling target_refusal (IsGraphAnswer project d) form d.observed.names p.outcome (told_of p))) c.plain.ensures
    (answer_told c.plain.result project d c.graph_answer-answer.result c.tell.result c.graph_answer-answer.ensures c.tell.ensures.outcome
    c.tell.ensures.told)
