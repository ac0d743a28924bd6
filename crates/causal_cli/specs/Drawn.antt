-- What the answers of the commands say of the diagram as drawn, with its hidden vertices, beside what they say of the observed graph.
use Rattle.std.specs.Prelude.{◌⊎◌, ℕ, ◌≡◌, ◌≤◌, true, List, Option, Some, None, IfSome, codes}
use Rattle.std.specs.Io.KnownBytes.{Appends}
use Rattle.mixed_graph.specs.Vocabulary.{graph_of}
use Rattle.command_words.specs.Vocabulary.{Text, Use, has_flag}
use Rattle.replies.specs.Told.{Told}
use Rattle.told.specs.Vocabulary.{is_certified, plain_form}
use Rattle.identify_command.specs.Vocabulary.{told_form, identify_row, IsIdentifyAnswer, identify_telling}
use Rattle.identify_command.specs.Requests as identify_requests
use Rattle.adjust_command.specs.Vocabulary.{adjust_row, IsAdjustAnswer, adjust_telling}
use Rattle.adjust_command.specs.Requests as adjust_requests
use Rattle.surrogate_command.specs.Vocabulary.{wants_common, told_form as surrogate_form, surrogate_row, IsSurrogateAnswer, surrogate_telling}
use Rattle.surrogate_command.specs.Requests as surrogate_requests
use Rattle.treated_command.specs.Vocabulary.{treated_row, IsTreatedAnswer, treated_telling}
use Rattle.treated_command.specs.Requests as treated_requests
use Rattle.natural_command.specs.Vocabulary.{natural_row}
use Rattle.natural_command.specs.Requests as natural_requests
use Rattle.separation_commands.specs.Vocabulary.{separate_row, IsSeparateAnswer, separate_telling, rule_row, IsRuleAnswer, rule_telling}
use Rattle.separation_commands.specs.SeparateRequests as separate_requests
use Rattle.separation_commands.specs.RuleRequests as rule_requests
use Rattle.implications_command.specs.Vocabulary.{ArePairs, pairs_in, implications_row, IsForGraph, IsForCounts, implications_telling}
use Rattle.implications_command.specs.Requests as implications_requests
use Rattle.check_command.specs.Vocabulary.{check_row, AreExperimentsOn}
use Rattle.check_command.specs.Requests as check_requests
use Rattle.part_check_command.specs.Vocabulary.{IsForCertificate, part_check_telling}
use Rattle.steps_command.specs.Vocabulary.{steps_row, IsForCertificate as IsForSteps, steps_telling}
use Rattle.evaluate_command.specs.Vocabulary.{Identifies, IsForDiagram, evaluate_row, evaluate_telling}
use Rattle.evaluate_command.specs.Requests as evaluate_requests
use Rattle.evaluate_command.specs.Right as evaluate_right
use Rattle.evaluate_treated.specs.Effects as among_effects
use Rattle.evaluate_treated.specs.First as among_first
use Rattle.evaluate_treated.specs.Requests as among_requests
use Rattle.evaluate_treated.specs.Right as among_right
use Rattle.evaluate_treated.specs.Vocabulary.{among_telling}
use Rattle.evaluate_natural.specs.Effects as nested_effects
use Rattle.evaluate_natural.specs.First as nested_first
use Rattle.evaluate_natural.specs.Requests as nested_requests
use Rattle.evaluate_natural.specs.Right as nested_right
use Rattle.evaluate_natural.specs.Vocabulary.{nested_telling}
use Rattle.natural_command.specs.Vocabulary.{natural_telling}
use Rattle.bounds_command.specs.Vocabulary.{IsAsked, bounds_telling, lists_of, bounds_row}
use Rattle.bounds_command.specs.Requests as bounds_requests
use Rattle.bounds_command.specs.Right as bounds_right
use Rattle.causal_cli.specs.Answered.{IsAnswered, IsAnsweredOnBoth}
use Rattle.causal_cli.specs.AsDrawn.{IdentifiesAsDrawn, IsAdjustedAsDrawn, IsSurrogateAsDrawn, IsSeparatedAsDrawn, IsRuledAsDrawn, ArePairsAsDrawn}
use Rattle.causal_cli.specs.AsDrawn.{AreDifferencesAsDrawn}
use Rattle.causal_cli.specs.AsDrawn.{AreAmongAsDrawn, AreNestedAsDrawn, IsTreatedAsDrawn, IsUnevaluatedAsDrawn, IsEvaluatedAsDrawn, IsCheckedAsDrawn, IsSteppedAsDrawn, IsBoundedAsDrawn}
use Rattle.causal_cli.specs.Calls.{Call, IsCallOf, WrittenFor, WrittenForBoth}
use Rattle.causal_cli.specs.NaturalDrawn.{IsNatural, IsNaturalAsDrawn}

-- ---- identify, adjust, surrogate, treated, separate and rule

-- the answer to a request of `identify`, with a condition or without one
abbrev pub IsIdentifiedAsDrawn : identify_requests.Request → (bytes : List ℕ) (code : ℕ) (told : Told) → Type 0
IsIdentifiedAsDrawn q = IsAnswered identify_telling (λ d. IsIdentifyAnswer q.form.short (is_certified q.form.writing) d q.x q.y q.given)
    IdentifiesAsDrawn (told_form q.form)

-- and to one of `adjust`
abbrev pub IsAdjusted : adjust_requests.Request → (bytes : List ℕ) (code : ℕ) (told : Told) → Type 0
IsAdjusted q = IsAnswered adjust_telling (λ d. IsAdjustAnswer d q.x q.y q.query) (IsAdjustedAsDrawn q.query) (plain_form q.format)

-- and to one of `surrogate`
abbrev pub IsSurrogated : surrogate_requests.Request → (bytes : List ℕ) (code : ℕ) (told : Told) → Type 0
IsSurrogated q = IsAnswered surrogate_telling (λ d. IsSurrogateAnswer (wants_common q.form.writing) d q.x q.y q.experiments)
    IsSurrogateAsDrawn (surrogate_form q.form)

-- and to one of `treated`
abbrev pub IsTreated : treated_requests.Request → (bytes : List ℕ) (code : ℕ) (told : Told) → Type 0
IsTreated q = IsAnswered treated_telling (λ d. IsTreatedAnswer (is_certified q.form.writing) d q.x q.y q.given) IsTreatedAsDrawn q.form

-- and to one of `separate`
abbrev pub IsSeparated : separate_requests.Request → (bytes : List ℕ) (code : ℕ) (told : Told) → Type 0
IsSeparated q = IsAnswered separate_telling (λ d. IsSeparateAnswer d q.x q.y q.given) IsSeparatedAsDrawn (plain_form q.format)

-- and to one of `rule`
abbrev pub IsRuled : rule_requests.Request → (bytes : List ℕ) (code : ℕ) (told : Told) → Type 0
IsRuled q = IsAnswered rule_telling (λ d. IsRuleAnswer q.rule d q.y q.x q.z q.given) IsRuledAsDrawn (plain_form q.format)

-- ---- implications

-- the answer to a request of `implications` on the graph alone
abbrev pub IsImplied : implications_requests.Request → (bytes : List ℕ) (code : ℕ) (told : Told) → Type 0
IsImplied q = IsAnswered implications_telling (λ d. IsForGraph q.counts d.observed) ArePairsAsDrawn (plain_form q.format)

-- and over the counts of a table
abbrev pub IsImpliedOverCounts : implications_requests.Request → (bytes other : List ℕ) (code : ℕ) (told : Told) → Type 0
IsImpliedOverCounts q = IsAnsweredOnBoth implications_telling (λ d list. ArePairs (pairs_in d.observed list))
    (λ d list. IsForCounts (pairs_in d.observed list) q.count) AreDifferencesAsDrawn (plain_form q.format)

-- the one or the other, by whether counts are given
abbrev pub IsImpliedIn : Call → implications_requests.Request → (counts : Option Text) (code : ℕ) → Told → Type 0
IsImpliedIn r q None code told = IfSome (r.held q.file) (λ bytes. IsImplied q bytes code told)
IsImpliedIn r q (Some second) code told = IfSome (r.held q.file) (λ bytes. IfSome (r.held_second second) (λ other. IsImpliedOverCounts q bytes other code told))

-- it was written for the bytes of the file, and of the counts where there are some, that these uses ask for
pub record Implied (r : Call) (code : ℕ) (uses : List Use) : Type 0 where
  pub request : implications_requests.Request
  pub told : Told
  pub asks : implications_requests.IsRequest uses request
  pub right : IsImpliedIn r request request.counts code told
  pub whole : Appends r.before r.after told.text

-- ---- check, steps and evaluate

-- the answer to a request of `check` on a certificate
abbrev pub IsChecked : check_requests.Request → (bytes other : List ℕ) (code : ℕ) (told : Told) → Type 0
IsChecked q = IsAnsweredOnBoth part_check_telling (λ d. AreExperimentsOn d.read.names d.observed.names q.experiments)
    (λ d. IsForCertificate (graph_of d.observed.graph) d.observed.names) IsCheckedAsDrawn (plain_form q.format)

-- the answer to a request of `steps` on a certificate
abbrev pub IsStepped : check_requests.Request → (bytes other : List ℕ) (code : ℕ) (told : Told) → Type 0
IsStepped q = IsAnsweredOnBoth steps_telling (λ d. AreExperimentsOn d.read.names d.observed.names q.experiments)
    (λ d. IsForSteps (graph_of d.observed.graph) d.observed.names) IsSteppedAsDrawn (plain_form q.format)

-- the answer to a request of `evaluate` over counts
abbrev pub IsEvaluated : evaluate_requests.Request → (bytes other : List ℕ) (code : ℕ) (told : Told) → Type 0
IsEvaluated q = IsAnsweredOnBoth evaluate_telling (λ d. Identifies q.way d q.x q.y)
    (λ d e. evaluate_right.IsForCounts q.exact q.zero q.matched e q.count) IsEvaluatedAsDrawn (plain_form q.format)

-- and before they are read
abbrev pub IsUnevaluated : evaluate_requests.Request → (bytes : List ℕ) (code : ℕ) (told : Told) → Type 0
IsUnevaluated q = IsAnswered evaluate_telling (λ d. IsForDiagram q.way d q.x q.y) (IsUnevaluatedAsDrawn q.way) (plain_form q.format)

-- the answer to a request of `evaluate --treated` over counts
abbrev pub IsEvaluatedAmong : among_requests.Request → (bytes other : List ℕ) (code : ℕ) (told : Told) → Type 0
IsEvaluatedAmong q = IsAnsweredOnBoth among_telling (λ d. among_effects.Identifies d q.effect) (λ d e. among_right.IsForCounts q.exact e q.count)
    AreAmongAsDrawn q.effect.form

-- and before they are read
abbrev pub IsUnevaluatedAmong : among_requests.Request → (bytes : List ℕ) (code : ℕ) (told : Told) → Type 0
IsUnevaluatedAmong q = IsAnswered treated_telling (λ d. among_first.IsForDiagram d q.effect) IsTreatedAsDrawn q.effect.form

-- the answer to a request of `evaluate --natural` over counts
abbrev pub IsEvaluatedNested : nested_requests.Request → (bytes other : List ℕ) (code : ℕ) (told : Told) → Type 0
IsEvaluatedNested q = IsAnsweredOnBoth nested_telling (λ d. nested_effects.Identifies d q.effect) (λ d e. nested_right.IsForCounts q.exact e q.count)
    AreNestedAsDrawn q.effect.form

-- and before they are read
abbrev pub IsUnevaluatedNested : nested_requests.Request → (bytes : List ℕ) (code : ℕ) (told : Told) → Type 0
IsUnevaluatedNested q = IsAnswered natural_telling (λ d. nested_first.IsForDiagram d q.effect) IsNaturalAsDrawn q.effect.form

-- the answer to a request of `bounds` over counts
abbrev pub IsBounded : bounds_requests.Request → (bytes other : List ℕ) (code : ℕ) (told : Told) → Type 0
IsBounded q = IsAnsweredOnBoth bounds_telling (λ d. IsAsked (graph_of d.observed.graph) (lists_of q d))
    (λ d b. bounds_right.IsBounded q.exact (graph_of d.observed.graph) d.observed.names b q.count) IsBoundedAsDrawn (plain_form q.format)

-- ---- a run

-- What is written with status 0 or 1 for `identify`, `adjust`, `surrogate`, `treated`, `natural`, `separate`, `rule`, `check`, `steps` and `evaluate`, and with
-- status 0 for `implications` and `bounds`, is told of a right answer, which is so in the diagram as drawn. A status of 1 of `evaluate` is one of the
-- diagram alone, whatever its counts hold; but for `evaluate --treated`, which may say of counts that no model has them, or that x has more than two levels.
pub record RightAsDrawn (r : Call) (code : ℕ) : Type 0 where
  pub identified : (uses : List Use) → IsCallOf identify_row r.words uses → code ≤ 1
      → WrittenFor identify_requests.IsRequest (λ q. q.file) (λ q bytes. IsIdentifiedAsDrawn q bytes code) r uses
  pub adjusted : (uses : List Use) → IsCallOf adjust_row r.words uses → code ≤ 1
      → WrittenFor adjust_requests.IsRequest (λ q. q.file) (λ q bytes. IsAdjusted q bytes code) r uses
  pub surrogated : (uses : List Use) → IsCallOf surrogate_row r.words uses → code ≤ 1
      → WrittenFor surrogate_requests.IsRequest (λ q. q.file) (λ q bytes. IsSurrogated q bytes code) r uses
  pub treated : (uses : List Use) → IsCallOf treated_row r.words uses → code ≤ 1
      → WrittenFor treated_requests.IsRequest (λ q. q.file) (λ q bytes. IsTreated q bytes code) r uses
  pub natural : (uses : List Use) → IsCallOf natural_row r.words uses → code ≤ 1
      → WrittenFor natural_requests.IsRequest (λ q. q.file) (λ q bytes. IsNatural q bytes code) r uses
  pub separated : (uses : List Use) → IsCallOf separate_row r.words uses → code ≤ 1
      → WrittenFor separate_requests.IsRequest (λ q. q.file) (λ q bytes. IsSeparated q bytes code) r uses
  pub ruled : (uses : List Use) → IsCallOf rule_row r.words uses → code ≤ 1
      → WrittenFor rule_requests.IsRequest (λ q. q.file) (λ q bytes. IsRuled q bytes code) r uses
  pub implied : (uses : List Use) → IsCallOf implications_row r.words uses → code ≡ 0 → Implied r code uses
  pub checked : (uses : List Use) → IsCallOf check_row r.words uses → code ≤ 1
      → WrittenForBoth check_requests.IsRequest (λ q. q.file) (λ q. q.certificate) (λ q bytes other. IsChecked q bytes other code) r uses
  pub stepped : (uses : List Use) → IsCallOf steps_row r.words uses → code ≤ 1
      → WrittenForBoth check_requests.IsRequest (λ q. q.file) (λ q. q.certificate) (λ q bytes other. IsStepped q bytes other code) r uses
  pub evaluated : (uses : List Use) → IsCallOf evaluate_row r.words uses → evaluate_requests.AskPlainly uses → code ≡ 0
      → WrittenForBoth evaluate_requests.IsRequest (λ q. q.file) (λ q. q.counts) (λ q bytes other. IsEvaluated q bytes other code) r uses
  pub unevaluated : (uses : List Use) → IsCallOf evaluate_row r.words uses → evaluate_requests.AskPlainly uses → code ≡ 1
      → WrittenFor evaluate_requests.IsRequest (λ q. q.file) (λ q bytes. IsUnevaluated q bytes code) r uses
  pub evaluated_among : (uses : List Use) → IsCallOf evaluate_row r.words uses → has_flag uses (codes "treated") ≡ true → code ≡ 0
      → WrittenForBoth among_requests.IsRequest (λ q. q.effect.file) (λ q. q.counts) (λ q bytes other. IsEvaluatedAmong q bytes other code) r uses
  pub unevaluated_among : (uses : List Use) → IsCallOf evaluate_row r.words uses → has_flag uses (codes "treated") ≡ true → code ≡ 1
      → WrittenFor among_requests.IsRequest (λ q. q.effect.file) (λ q bytes. IsUnevaluatedAmong q bytes code) r uses
      ⊎ WrittenForBoth among_requests.IsRequest (λ q. q.effect.file) (λ q. q.counts) (λ q bytes other. IsEvaluatedAmong q bytes other code) r uses
  pub evaluated_nested : (uses : List Use) → IsCallOf evaluate_row r.words uses → has_flag uses (codes "natural") ≡ true → code ≡ 0
      → WrittenForBoth nested_requests.IsRequest (λ q. q.effect.file) (λ q. q.counts) (λ q bytes other. IsEvaluatedNested q bytes other code) r uses
  pub unevaluated_nested : (uses : List Use) → IsCallOf evaluate_row r.words uses → has_flag uses (codes "natural") ≡ true → code ≡ 1
      → WrittenFor nested_requests.IsRequest (λ q. q.effect.file) (λ q bytes. IsUnevaluatedNested q bytes code) r uses
  pub bounded : (uses : List Use) → IsCallOf bounds_row r.words uses → code ≡ 0
      → WrittenForBoth bounds_requests.IsRequest (λ q. q.file) (λ q. q.counts) (λ q bytes other. IsBounded q bytes other code) r uses
