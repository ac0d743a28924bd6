use Rattle.std.proofs.Common.{◌≡◌, ℕ, [], Result, Ok, Err, IfOk, subst}
use Rattle.replies.specs.declared.outcome.Reply.{Reply}
use Rattle.replies.specs.Vocabulary.{told_of}
use Rattle.told.specs.declared.form.Form.{Form}
use Rattle.told.specs.Vocabulary.{target_refusal, Tells, told_in}
use Rattle.survey_command.specs.Drawn.{drawn_graph}
use Rattle.survey_command.specs.Right.{IsSurvey, IsSurveyAnswer}
use Rattle.survey_command.specs.Telling.{survey_telling}
use Rattle.survey_command.specs.declared.answer.Survey.{Survey}
use Rattle.survey_command.proofs.reply.survey_reply.Goals as goal

answer_told : {E : Type 0} (form : Form) (seed : ℕ) (a : Survey) (r : Result Reply E) → IsSurvey seed (drawn_graph seed) a
    → IfOk r (λ (p : Reply). p.outcome ≡ survey_telling.outcome a)
    → IfOk r (λ (p : Reply). told_of p ≡ told_in survey_telling target_refusal form [] (Ok a))
    → IfOk r (λ (p : Reply). Tells survey_telling target_refusal (IsSurveyAnswer seed) form [] p.outcome (told_of p))
answer_told form seed a (Err e) right outcome told = tt
answer_told form seed a (Ok p) right outcome told = record { answer = Ok a; right = right; ends = outcome; prints = told }

pub returns : goal.returns
returns c =
    let seed = c.args.asked.now.seed in
    subst (λ (form : Form). IfOk c.tell.result (λ p. Tells survey_telling target_refusal (IsSurveyAnswer seed) form [] p.outcome (told_of p)))
    c.plain.ensures
    (answer_told c.plain.result seed c.in_ok-answer.answer c.tell.result c.in_ok-answer.ensures c.tell.ensures.outcome c.tell.ensures.told)
