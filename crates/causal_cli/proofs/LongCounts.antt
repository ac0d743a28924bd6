-- What is told of counts with more bytes than are read is told of any others that are so long.
use Rattle.std.proofs.Common.{ℕ, ◌<◌, List, Option, Result, Ok, Err, Bool, length, arith}
use Rattle.replies.specs.declared.outcome.Outcome.{Outcome}
use Rattle.replies.specs.Told.{Told}
use Rattle.diagram.specs.declared.diagram.Diagram.{Diagram}
use Rattle.count_rows.specs.Vocabulary.{Field}
use Rattle.evaluate_command.specs.declared.faults.ValuesFault.{ValuesFault}
use Rattle.evaluate_command.specs.declared.faults.ValuesFault.TheVariants.{TooLong, Counts, NoValue, NoMemory}
use Rattle.evaluate_treated.specs.Requests as among_requests
use Rattle.evaluate_treated.specs.Right as among
use Rattle.evaluate_treated.specs.Vocabulary.{PlainAmong, evaluate_treated_command}
use Rattle.evaluate_treated.specs.declared.answer.Answer.{Answer as AmongAnswer}
use Rattle.evaluate_natural.specs.Requests as nested_requests
use Rattle.evaluate_natural.specs.Right as nested
use Rattle.evaluate_natural.specs.Vocabulary.{PlainNested, evaluate_natural_command}
use Rattle.evaluate_natural.specs.declared.answer.Answer.{Answer as NestedAnswer}

module _ (a b : List ℕ) (long : 67108864 < length a) (other_long : 67108864 < length b) where
  -- effects among the treated
  right_among : (exact : Bool) (e : PlainAmong) (count : Option Field) (k : Result AmongAnswer ValuesFault) → among.IsForCounts exact e count a k
      → among.IsForCounts exact e count b k
  right_among exact e count (Ok v) h = absurd (omega (arith, h.holds.small, long))
  right_among exact e count (Err TooLong) h = other_long
  right_among exact e count (Err (Counts fault)) h = absurd (omega (arith, h.small, long))
  right_among exact e count (Err (NoValue names t fault)) h = absurd (omega (arith, h.holds.small, long))
  right_among exact e count (Err NoMemory) h = absurd h

  pub told_among : (q : among_requests.Request) (d : Diagram) (o : Outcome) (told : Told) → evaluate_treated_command.by_both q d a o told
      → evaluate_treated_command.by_both q d b o told
  told_among q d o told h = (
    h.0,
    h.1,
    record {
      answer = h.2.answer;
      right = right_among q.exact h.0 q.count h.2.answer h.2.right;
      ends = h.2.ends;
      prints = h.2.prints;
    },
  )

  -- nested effects
  right_nested : (exact : Bool) (e : PlainNested) (count : Option Field) (k : Result NestedAnswer ValuesFault) → nested.IsForCounts exact e count a k
      → nested.IsForCounts exact e count b k
  right_nested exact e count (Ok v) h = absurd (omega (arith, h.holds.small, long))
  right_nested exact e count (Err TooLong) h = other_long
  right_nested exact e count (Err (Counts fault)) h = absurd (omega (arith, h.small, long))
  right_nested exact e count (Err (NoValue names t fault)) h = absurd (omega (arith, h.holds.small, long))
  right_nested exact e count (Err NoMemory) h = absurd h

  pub told_nested : (q : nested_requests.Request) (d : Diagram) (o : Outcome) (told : Told) → evaluate_natural_command.by_both q d a o told
      → evaluate_natural_command.by_both q d b o told
  told_nested q d o told h = (
    h.0,
    h.1,
    record {
      answer = h.2.answer;
      right = right_nested q.exact h.0 q.count h.2.answer h.2.right;
      ends = h.2.ends;
      prints = h.2.prints;
    },
  )
