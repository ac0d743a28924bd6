use Rattle.std.proofs.Common.{◌≡◌, None, Result, Ok, Err, IfOk, subst}
use Rattle.dag_reader.specs.declared.graph.ReadGraph.{ReadGraph}
use Rattle.replies.specs.declared.outcome.Reply.{Reply}
use Rattle.replies.specs.Vocabulary.{told_of}
use Rattle.told.specs.declared.form.Form.{Form}
use Rattle.told.specs.Vocabulary.{target_refusal, Tells, told_in}
use Rattle.implications_command.specs.Right.{Lists, IsForGraph}
use Rattle.implications_command.specs.Telling.{implications_telling}
use Rattle.implications_command.specs.declared.answer.Answer.{Answer}
use Rattle.implications_command.proofs.listing.pairs_reply.Goals as goal

answer_told : {E : Type 0} (form : Form) (g : ReadGraph) (a : Answer) (r : Result Reply E) → Lists g a
    → IfOk r (λ (p : Reply). p.outcome ≡ implications_telling.outcome a)
    → IfOk r (λ (p : Reply). told_of p ≡ told_in implications_telling target_refusal form g.names (Ok a))
    → IfOk r (λ (p : Reply). Tells implications_telling target_refusal (IsForGraph None g) form g.names p.outcome (told_of p))
answer_told form g a (Err e) right outcome told = tt
answer_told form g a (Ok p) right outcome told = record { answer = Ok a; right = right; ends = outcome; prints = told }

pub returns : goal.returns
returns c =
    let seen = c.args.diagram.now.observed in
    subst (λ (form : Form). IfOk c.tell.result (λ p. Tells implications_telling target_refusal (IsForGraph None seen) form seen.names p.outcome (told_of p)))
    c.plain.ensures
    (answer_told c.plain.result seen c.in_ok-answer.answer c.tell.result c.in_ok-answer.ensures c.tell.ensures.outcome c.tell.ensures.told)
