-- The defined answer of a command: by its words alone, on the bytes of its file, or on those of both inputs; and what the code's values say of it.
use Rattle.std.specs.Prelude.{ℕ, ◌≡◌, ◌⊎◌, List, Some}
use Rattle.diagram.specs.declared.diagram.Diagram.{Diagram}
use Rattle.replies.specs.declared.outcome.Outcome.{Outcome}
use Rattle.replies.specs.declared.outcome.Outcome.TheVariants.{Graph, Memory}
use Rattle.replies.specs.declared.outcome.Reply.{Reply}
use Rattle.replies.specs.Vocabulary.{told_of, HoldsDiagram, IsGraphRefusal, IsAnswered, Remainder}
use Rattle.replies.specs.Told.{Told}
use Rattle.replies.specs.Command as forms
use Rattle.command_run.specs.Commands.{CommandSet, Request, of, file_of}
use Rattle.command_run.specs.declared.request.AfterWords.{AfterWords}
use Rattle.command_run.specs.declared.request.AfterWords.TheVariants as words
use Rattle.command_run.specs.declared.request.AfterFile.{AfterFile}
use Rattle.command_run.specs.declared.request.AfterFile.TheVariants as first

-- the answer of a command without an input
abbrev pub WordsAnswer : (s : CommandSet) → Request s → Outcome → Told → Type 0
WordsAnswer s (of c q) o told = (s.form_of c).by_words q o told

-- the answer of a command on a diagram, where its file alone decides
abbrev pub DiagramAnswer : (s : CommandSet) → Request s → Diagram → Outcome → Told → Type 0
DiagramAnswer s (of c q) d o told = (s.form_of c).by_diagram q d o told

-- the diagram is accepted, and the second input is read
abbrev pub NeedsSecond : (s : CommandSet) → Request s → Diagram → Type 0
NeedsSecond s (of c q) d = (s.form_of c).continues q d

-- the answer of a command on a diagram and the bytes of its second input
abbrev pub SecondAnswer : (s : CommandSet) → Request s → Diagram → List ℕ → Outcome → Told → Type 0
SecondAnswer s (of c q) d other o told = (s.form_of c).by_both q d other o told

-- the answer of a command on a diagram that the bytes hold
pub record HoldsAnswer (s : CommandSet) (w : Request s) (bytes : List ℕ) (o : Outcome) (told : Told) : Type 0 where
  pub diagram : Diagram
  pub holds : HoldsDiagram bytes diagram
  pub answer : DiagramAnswer s w diagram o told

-- the defined answer on the bytes of the file alone: yes or no, or a refused graph or target
abbrev pub Defined : (s : CommandSet) → Request s → List ℕ → Outcome → Told → Type 0
Defined s w bytes Graph told = IsGraphRefusal bytes told ⊎ HoldsAnswer s w bytes Graph told
Defined s w bytes o told = HoldsAnswer s w bytes o told

-- the bytes hold a diagram that is accepted, and the second input is read
abbrev pub Continues : (s : CommandSet) → Request s → List ℕ → Type 0
Continues s w bytes = (d : Diagram) × HoldsDiagram bytes d × NeedsSecond s w d

-- the defined answer on the bytes of both inputs
abbrev pub DefinedWith : (s : CommandSet) → Request s → (bytes other : List ℕ) → Outcome → Told → Type 0
DefinedWith s w bytes other o told = (d : Diagram) × HoldsDiagram bytes d × NeedsSecond s w d × SecondAnswer s w d other o told

-- what the words alone give: the answer, or the name of the file that is read
abbrev pub GivesOnWords : (s : CommandSet) → Request s → AfterWords → Type 0
GivesOnWords s w (words.Replied reply) = WordsAnswer s w reply.outcome (told_of reply)
GivesOnWords s w (words.Reads file) = file_of s w ≡ Some file.now

-- ---- what is left to answer once the file was accepted

-- the reply is the answer on these bytes of the second input
abbrev pub GivesSecond : Remainder → List ℕ → Reply → Type 0
GivesSecond l other reply = l.answer other reply.outcome (told_of reply)

-- the answers on a second input are those that a command answers
abbrev pub IsAnsweredWith : Remainder → Type 0
IsAnsweredWith l = (other : List ℕ) (o : Outcome) (told : Told) → l.answer other o told → IsAnswered o

-- what is left of a request on a diagram
abbrev pub IsLeft : (s : CommandSet) → Request s → Diagram → Remainder → Type 0
IsLeft s (of c q) d l = forms.IsLeft (s.form_of c) q d l

-- what a diagram gives: the answer on it, or what is left, as this tells it
abbrev pub GivesOn : {Second : Type 0} → (Second → Remainder) → (s : CommandSet) → Request s → Diagram → AfterFile Second → Type 0
GivesOn left s w d (first.Replied reply) = DiagramAnswer s w d reply.outcome (told_of reply)
GivesOn left s w d (first.Continues p) = IsLeft s w d (left p)

-- the reply to bytes that hold no diagram: their refusal; or memory was refused
abbrev pub RefusesAs : List ℕ → Outcome → Told → Type 0
RefusesAs bytes Graph told = IsGraphRefusal bytes told
RefusesAs bytes Memory told = Unit {0}
RefusesAs bytes o told = ⊥

-- the same of a reply
abbrev pub RefusesBytes : List ℕ → Reply → Type 0
RefusesBytes bytes reply = RefusesAs bytes reply.outcome (told_of reply)
