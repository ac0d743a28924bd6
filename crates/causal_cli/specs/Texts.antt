-- That the text of an answer is fixed by what is asked for and by the bytes of the inputs.
use Rattle.std.specs.Prelude.{ℕ, ◌≡◌, ◌≢◌, Bool, true, false, List}
use Rattle.replies.specs.Told.{Told}
use Rattle.replies.specs.declared.outcome.Outcome.{Outcome}
use Rattle.replies.specs.declared.outcome.Outcome.TheVariants.{Yes, No}
use Rattle.replies.specs.Vocabulary.{CommandForm, IsAnswerOn}
use Rattle.separation_commands.specs.Vocabulary.{graph_command, separate_command, rule_command}
use Rattle.identify_command.specs.Vocabulary.{identify_command}
use Rattle.evaluate_command.specs.Vocabulary.{evaluate_command, by_procedure, by_adjusting, by_condition}
use Rattle.evaluate_command.specs.Ways.{Way}
use Rattle.implications_command.specs.Vocabulary.{implications_command}
use Rattle.survey_command.specs.Vocabulary.{survey_command}
use Rattle.surrogate_command.specs.Vocabulary.{surrogate_command}

-- any two texts that are so are one
abbrev pub IsOneText : (Told → Type 0) → Type 0
IsOneText is_so = (told other : Told) → is_so told → is_so other → other ≡ told

-- on the bytes of one file, answers to the request with this outcome have one text
abbrev pub HaveOneText : (c : CommandForm) → c.Request → Outcome → Type 0
HaveOneText c q o = (bytes : List ℕ) → IsOneText (IsAnswerOn bytes (λ d. c.by_diagram q d) o)

-- and on the bytes of two inputs, where the diagram is accepted for the second
abbrev pub HaveOneTextOnBoth : (c : CommandForm) → c.Request → Outcome → Type 0
HaveOneTextOnBoth c q o = (bytes other : List ℕ) → IsOneText (IsAnswerOn bytes (λ d. c.by_both q d other) o)

-- `evaluate` is asked for a set
abbrev pub adjusts : Way → Bool
adjusts (by_procedure short) = false
adjusts (by_adjusting back_door set) = true
adjusts (by_condition short given) = false

-- Answers with one outcome have one text. It is left open for a no of `separate` and `rule`, which may show one of several open paths; for what `evaluate`
-- says of a set before it reads counts; for a yes of `identify` and of `evaluate` by a short formula; and for `adjust`, `check`, `equivalent`, `bounds`,
-- `treated`, `instruments`, `natural` and `steps`.
pub record TextsAreOne : Type 0 where
  pub survey : (q : survey_command.Request) (o : Outcome) → IsOneText (survey_command.by_words q o)
  pub graph : (q : graph_command.Request) (o : Outcome) → HaveOneText graph_command q o
  pub separate : (q : separate_command.Request) (o : Outcome) → o ≢ No → HaveOneText separate_command q o
  pub rule : (q : rule_command.Request) (o : Outcome) → o ≢ No → HaveOneText rule_command q o
  pub identify : (q : identify_command.Request) (o : Outcome) → (o ≡ Yes → q.form.short ≡ false) → HaveOneText identify_command q o
  pub surrogate : (q : surrogate_command.Request) (o : Outcome) → HaveOneText surrogate_command q o
  pub implications : (q : implications_command.Request) (o : Outcome) → HaveOneText implications_command q o
  pub implications_over_counts : (q : implications_command.Request) (o : Outcome) → HaveOneTextOnBoth implications_command q o
  pub evaluate_before_counts : (q : evaluate_command.Request) → adjusts q.way ≡ false → (o : Outcome) → HaveOneText evaluate_command q o
  pub evaluate_over_counts : (q : evaluate_command.Request) → evaluate_command.is_fixed q → (o : Outcome) → HaveOneTextOnBoth evaluate_command q o
