-- That an answer has one outcome.
use Rattle.std.specs.Prelude.{ℕ, ◌≡◌, List}
use Rattle.replies.specs.declared.outcome.Outcome.{Outcome}
use Rattle.diagram.specs.declared.diagram.Diagram.{Diagram}
use Rattle.replies.specs.Observed.{HoldsDiagram}
use Rattle.replies.specs.Told.{Told}

-- the answer has one outcome at most: any two that it has, whatever is told, are the same
abbrev pub OneOutcome : (Outcome → Told → Type 0) → Type 0
OneOutcome answer = (o p : Outcome) (told other : Told) → answer o told → answer p other → o ≡ p

-- the answer on a diagram whose text the bytes are
pub record IsAnswerOn (bytes : List ℕ) (answer : Diagram → Outcome → Told → Type 0) (o : Outcome) (told : Told) : Type 0 where
  pub diagram : Diagram
  pub holds : HoldsDiagram bytes diagram
  pub given : answer diagram o told
