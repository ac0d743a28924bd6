-- The outcomes of defined answers are those that a command answers; and what is left where a second input is read.
use Rattle.std.proofs.Common.{◌≡◌, ℕ, ◌<◌, List, Some, length, arith}
use Rattle.std.specs.Prelude.{suc, replicate}
use Rattle.std.proofs.lemmas.List.{length-replicate}
use Rattle.diagram.specs.declared.diagram.Diagram.{Diagram}
use Rattle.replies.specs.declared.outcome.Outcome.{Outcome}
use Rattle.replies.specs.declared.outcome.Reply.{Reply}
use Rattle.replies.specs.Vocabulary.{told_of, IsAnswered, Remainder}
use Rattle.replies.specs.Told.{Told}
use Rattle.command_run.specs.Commands.{CommandSet, Request, of, second_of}
use Rattle.command_run.specs.Laws.{AreLawful}
use Rattle.command_run.specs.Answers.{WordsAnswer, DiagramAnswer, NeedsSecond, SecondAnswer, GivesSecond, IsAnsweredWith, IsLeft}

-- bytes that are more than a limit
abbrev pub long : ℕ → List ℕ
long limit = replicate (suc limit) 0

pub long_more : (limit : ℕ) → limit < length (long limit)
long_more limit = let e : length (long limit) ≡ suc limit = length-replicate (suc limit) 0 in omega (arith, e)

-- the outcome of the answer on all bytes of a second input that are more than its limit
pub long_answered : (l : Remainder) (reply : Reply) → IsAnsweredWith l → ((other : List ℕ) → l.limit < length other → GivesSecond l other reply)
    → IsAnswered reply.outcome
long_answered l reply only gives = only (long l.limit) reply.outcome (told_of reply) (gives (long l.limit) (long_more l.limit))

module _ (s : CommandSet) where
  -- the answer on the bytes of the second input
  pub second_answer : (w : Request s) (d : Diagram) (l : Remainder) (other : List ℕ) (reply : Reply) → IsLeft s w d l → GivesSecond l other reply
      → SecondAnswer s w d other reply.outcome (told_of reply)
  second_answer (of c q) d l other reply is gives = is.answers other reply.outcome (told_of reply) gives

  -- the diagram is accepted, and a second input read
  pub needs : (w : Request s) (d : Diagram) (l : Remainder) → IsLeft s w d l → NeedsSecond s w d
  needs (of c q) d l is = is.continues

  -- which it names
  pub names_left : (w : Request s) (d : Diagram) (l : Remainder) → IsLeft s w d l → second_of s w ≡ Some l.second
  names_left (of c q) d l is = is.named

  -- what is kept is accepted, where something is left
  pub accepted_on : (w : Request s) (d : Diagram) (l : Remainder) → IsLeft s w d l → l.known
  accepted_on (of c q) d l is = is.known

module _ (s : CommandSet) (laws : AreLawful s) where
  -- what the words alone decide has an outcome that commands answer
  pub words_answered : (w : Request s) (o : Outcome) (text : Told) → WordsAnswer s w o text → IsAnswered o
  words_answered (of c q) o text h = (laws.each c).words_answered q o text h

  -- and so has what the file alone decides
  pub diagram_answered : (w : Request s) (d : Diagram) (o : Outcome) (text : Told) → DiagramAnswer s w d o text → IsAnswered o
  diagram_answered (of c q) d o text h = (laws.each c).diagram_answered q d o text h

  -- its outcomes are those that a command answers
  pub answered_with : (w : Request s) (d : Diagram) (l : Remainder) → IsLeft s w d l → IsAnsweredWith l
  answered_with (of c q) d l is = λ other o text a. (laws.each c).both_answered q d other o text (is.answers other o text a)
