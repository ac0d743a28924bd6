-- From the end of a run to the right answers that were told.
use Rattle.std.proofs.Common.{◌≡◌, ◌∙◌, ℕ, ◌<◌, ◌≤◌, Bool, List, Option, Some, None, Result, Ok, Err, refl, sym, ap, subst, arith}
use Rattle.std.proofs.lemmas.Bool.{false≢true}
use Rattle.std.proofs.lemmas.Option.{none-some}
use Rattle.std.specs.Prelude.{IfSome}
use Rattle.std.specs.Io.KnownBytes.{Appends}
use Rattle.mixed_graph.specs.Vocabulary.{graph_of}
use Rattle.command_words.specs.Vocabulary.{Text, Use}
use Rattle.targets.specs.declared.fault.TargetFault.{TargetFault}
use Rattle.replies.specs.declared.outcome.Outcome.{Outcome}
use Rattle.replies.specs.declared.outcome.Outcome.TheVariants.{Yes, No}
use Rattle.replies.specs.Vocabulary.{code_of}
use Rattle.replies.specs.Told.{Told}
use Rattle.diagram.specs.declared.diagram.Diagram.{Diagram}
use Rattle.diagram.specs.Vocabulary.{Names}
use Rattle.told.specs.Vocabulary.{is_certified, plain_form, target_refusal, Tells, outcome_in}
use Rattle.identify_command.specs.Vocabulary.{told_form, IsIdentifyAnswer, identify_telling}
use Rattle.identify_command.specs.Requests as identify_requests
use Rattle.adjust_command.specs.Requests as adjust_requests
use Rattle.adjust_command.specs.Vocabulary.{IsAdjustAnswer, adjust_telling}
use Rattle.surrogate_command.specs.Vocabulary.{wants_common, told_form as surrogate_form, IsSurrogateAnswer, surrogate_telling}
use Rattle.surrogate_command.specs.Requests as surrogate_requests
use Rattle.treated_command.specs.Vocabulary.{treated_refusal, IsTreatedAnswer, treated_telling}
use Rattle.treated_command.specs.Requests as treated_requests
use Rattle.separation_commands.specs.SeparateRequests as separate_requests
use Rattle.separation_commands.specs.Vocabulary.{IsSeparateAnswer, separate_telling, IsRuleAnswer, rule_telling}
use Rattle.separation_commands.specs.RuleRequests as rule_requests
use Rattle.implications_command.specs.declared.answer.Answer.{Answer}
use Rattle.implications_command.specs.declared.answer.Answer.TheVariants.{NoPairs}
use Rattle.implications_command.specs.declared.fault.CountsFault.{CountsFault}
use Rattle.implications_command.specs.Vocabulary.{counts_refusal, ArePairs, pairs_in, IsForGraph, IsForCounts, implications_telling}
use Rattle.implications_command.specs.Requests.{Request as ImplicationsRequest}
use Rattle.implications_command.specs.declared.answer.Answer.TheVariants.{Pairs, Differences}
use Rattle.experiment_lists.specs.Vocabulary.{Lists as Experiments}
use Rattle.part_check_command.specs.declared.answer.Answer.{Answer as CheckAnswer}
use Rattle.part_check_command.specs.declared.fault.Fault.{Fault}
use Rattle.part_check_command.specs.declared.fault.Fault.TheVariants as faults
use Rattle.part_check_command.specs.Vocabulary.{IsForCertificate, IsForFirst, part_check_refusal, part_check_telling}
use Rattle.check_command.specs.declared.fault.CertificateFault.{CertificateFault}
use Rattle.check_command.specs.Vocabulary.{certificate_refusal, AreExperimentsOn}
use Rattle.check_command.specs.Requests as check_requests
use Rattle.steps_command.specs.declared.answer.Answer.{Answer as StepsAnswer}
use Rattle.steps_command.specs.Vocabulary.{IsForFirst as IsStepsFirst, IsForCertificate as IsForSteps, checked_of, steps_telling}
use Rattle.check_command.specs.declared.fault.CertificateFault.TheVariants as certificates
use Rattle.evaluate_command.specs.declared.answer.Answer.{Answer as EvaluateAnswer}
use Rattle.evaluate_command.specs.declared.faults.ValuesFault.{ValuesFault}
use Rattle.evaluate_command.specs.Vocabulary.{PlainEffect, Identifies, IsForDiagram, evaluate_telling, values_refusal, by_procedure, by_adjusting, by_condition}
use Rattle.evaluate_command.specs.Requests as evaluate_requests
use Rattle.evaluate_command.specs.Right as evaluations_right
use Rattle.evaluate_command.specs.Ways.{Way}
use Rattle.evaluate_command.specs.declared.answer.Answer.TheVariants as evaluations
use Rattle.command_choice.specs.Choice as choice
use Rattle.bounds_command.specs.declared.faults.BoundsFault.{BoundsFault}
use Rattle.bounds_command.specs.declared.first.Unmet.{Unmet}
use Rattle.bounds_command.specs.Vocabulary.{IsAsked, bounds_telling, bounds_refusal, lists_of, unmet_telling}
use Rattle.bounds_command.specs.Requests as bounds_requests
use Rattle.bounds_command.specs.Right as bounds_right
use Rattle.bounds_command.specs.declared.faults.BoundsFault.TheVariants as bound_faults
use Rattle.command_run.specs.Vocabulary.{HoldsAnswer, Defined, DefinedWith, Request, of}
use Rattle.command_run.proofs.Deliveries.{mapped}
use Rattle.causal_cli.specs.AsDrawn.{IdentifiesAsDrawn, IsAdjustedAsDrawn, IsSurrogateAsDrawn, IsSeparatedAsDrawn, IsRuledAsDrawn, ArePairsAsDrawn}
use Rattle.causal_cli.specs.AsDrawn.{IsTreatedAsDrawn, AreDifferencesAsDrawn, IsUnevaluatedAsDrawn, IsEvaluatedAsDrawn, IsCheckedAsDrawn, IsSteppedAsDrawn, IsBoundedAsDrawn}
use Rattle.causal_cli.specs.Calls.{Call, WrittenFor, WrittenForBoth}
use Rattle.causal_cli.specs.Commands.{commands}
use Rattle.causal_cli.specs.declared.commands.Command.TheVariants.{Identify, Adjust, Surrogate, Treated, Separate, Rule, Implications, Check, Evaluate}
use Rattle.causal_cli.specs.declared.commands.Command.TheVariants.{Bounds, Natural, Steps}
use Rattle.causal_cli.specs.Drawn.{IsIdentifiedAsDrawn, IsAdjusted, IsSurrogated, IsSeparated, IsRuled, IsImplied, IsImpliedOverCounts, IsImpliedIn}
use Rattle.causal_cli.specs.Drawn.{Implied, RightAsDrawn, IsTreated, IsChecked, IsStepped, IsEvaluated, IsUnevaluated, IsBounded}
use Rattle.causal_cli.proofs.AsDrawn.{identifies, adjusts, surrogates, treats, separates, rules, implies, implies_over_counts, unevaluated, checks, checks_whole}
use Rattle.causal_cli.proofs.DrawnAmong.{evaluated_among, unevaluated_among}
use Rattle.causal_cli.proofs.DrawnNested.{evaluated_nested, unevaluated_nested}
use Rattle.causal_cli.proofs.DrawnBounds.{bounds_drawn}
use Rattle.causal_cli.proofs.DrawnCounts.{evaluates}
use Rattle.causal_cli.proofs.NaturalDrawn.{natural, natural_refused}
use Rattle.causal_cli.proofs.Refused.{treated_refused, values_refused}
use Rattle.causal_cli.proofs.CallAnswers.{CallAnswer, on_words, on_file, on_both, on_held, Gave, under_name, under_names, written_for}
use Rattle.causal_cli.proofs.ToldAnswers.{answered, answered_on_both}

-- names that are refused have status 3
target_refused : (e : TargetFault) → 1 < code_of (target_refusal.outcome e)
target_refused e = omega arith

-- and so have counts that are, another
counts_refused : (e : CountsFault) → 1 < code_of (counts_refusal.outcome e)
counts_refused e = omega arith

-- an answer of yes or no on the bytes of a file is given on their diagram
module _ (r : Call) (uses : List Use) (code : ℕ) (o : Outcome) (text : Told) (status : code ≡ code_of o) (small : code ≤ 1)
    (whole : Appends r.before r.after text.text)
    (held : (w : Request commands) (bytes : List ℕ) → Defined commands w bytes o text → HoldsAnswer commands w bytes o text) where
  identified : CallAnswer r Identify uses o text → WrittenFor identify_requests.IsRequest (λ q. q.file) (λ q bytes. IsIdentifiedAsDrawn q bytes code) r uses
  identified = written_for r Identify uses o text (λ q. q.file) (λ q bytes. IsIdentifiedAsDrawn q bytes code) (λ q h. h) (λ q. refl) (λ q. refl)
      (λ q is bytes a. let h = held (of Identify q) bytes a in
      answered identify_telling target_refusal target_refused (told_form q.form) bytes code o text status small
      (λ d. IsIdentifyAnswer q.form.short (is_certified q.form.writing) d q.x q.y q.given) IdentifiesAsDrawn
      (identifies q.form.short (is_certified q.form.writing) q.x q.y q.given) h.diagram h.holds h.answer) whole

  adjusted : CallAnswer r Adjust uses o text → WrittenFor adjust_requests.IsRequest (λ q. q.file) (λ q bytes. IsAdjusted q bytes code) r uses
  adjusted = written_for r Adjust uses o text (λ q. q.file) (λ q bytes. IsAdjusted q bytes code) (λ q h. h) (λ q. refl) (λ q. refl)
      (λ q is bytes a. let h = held (of Adjust q) bytes a in
      answered adjust_telling target_refusal target_refused (plain_form q.format) bytes code o text status small
      (λ d. IsAdjustAnswer d q.x q.y q.query) (IsAdjustedAsDrawn q.query) (adjusts q.query q.x q.y) h.diagram h.holds h.answer) whole

  surrogated : CallAnswer r Surrogate uses o text → WrittenFor surrogate_requests.IsRequest (λ q. q.file) (λ q bytes. IsSurrogated q bytes code) r uses
  surrogated = written_for r Surrogate uses o text (λ q. q.file) (λ q bytes. IsSurrogated q bytes code) (λ q h. h) (λ q. refl) (λ q. refl)
      (λ q is bytes a. let h = held (of Surrogate q) bytes a in
      answered surrogate_telling target_refusal target_refused (surrogate_form q.form) bytes code o text status small
      (λ d. IsSurrogateAnswer (wants_common q.form.writing) d q.x q.y q.experiments) IsSurrogateAsDrawn
      (surrogates (wants_common q.form.writing) q.x q.y q.experiments) h.diagram h.holds h.answer) whole

  treated : CallAnswer r Treated uses o text → WrittenFor treated_requests.IsRequest (λ q. q.file) (λ q bytes. IsTreated q bytes code) r uses
  treated = written_for r Treated uses o text (λ q. q.file) (λ q bytes. IsTreated q bytes code) (λ q h. h) (λ q. refl) (λ q. refl)
      (λ q is bytes a. let h = held (of Treated q) bytes a in
      answered treated_telling treated_refusal treated_refused q.form bytes code o text status small
      (λ d. IsTreatedAnswer (is_certified q.form.writing) d q.x q.y q.given) IsTreatedAsDrawn (treats (is_certified q.form.writing) q.x q.y q.given) h.diagram
      h.holds h.answer) whole

  separated : CallAnswer r Separate uses o text → WrittenFor separate_requests.IsRequest (λ q. q.file) (λ q bytes. IsSeparated q bytes code) r uses
  separated = written_for r Separate uses o text (λ q. q.file) (λ q bytes. IsSeparated q bytes code) (λ q h. h) (λ q. refl) (λ q. refl)
      (λ q is bytes a. let h = held (of Separate q) bytes a in
      answered separate_telling target_refusal target_refused (plain_form q.format) bytes code o text status small
      (λ d. IsSeparateAnswer d q.x q.y q.given) IsSeparatedAsDrawn (separates q.x q.y q.given) h.diagram h.holds h.answer) whole

  ruled : CallAnswer r Rule uses o text → WrittenFor rule_requests.IsRequest (λ q. q.file) (λ q bytes. IsRuled q bytes code) r uses
  ruled = written_for r Rule uses o text (λ q. q.file) (λ q bytes. IsRuled q bytes code) (λ q h. h) (λ q. refl) (λ q. refl)
      (λ q is bytes a. let h = held (of Rule q) bytes a in
      answered rule_telling target_refusal target_refused (plain_form q.format) bytes code o text status small
      (λ d. IsRuleAnswer q.rule d q.y q.x q.z q.given) IsRuledAsDrawn (rules q.rule q.y q.x q.z q.given) h.diagram h.holds h.answer) whole

-- ---- implications

module _ (r : Call) (code : ℕ) (text : Told) (status : code ≡ 0) where
  -- no answer on the graph alone is a yes where counts are given
  no_yes_alone : (q : ImplicationsRequest) (name : Text) → q.counts ≡ Some name → (bytes : List ℕ) → HoldsAnswer commands (of Implications q) bytes Yes text
      → IfSome (r.held_second name) (λ other. IsImpliedOverCounts q bytes other code text)
  no_yes_alone q name e bytes a = absurd (yes_is_no a.answer.answer (subst (λ c. IsForGraph c a.diagram.observed a.answer.answer) e a.answer.right) a.answer.ends)
    where
      yes_is_no : (k : Result Answer TargetFault) → IsForGraph (Some name) a.diagram.observed k → Yes ≡ outcome_in implications_telling target_refusal k → ⊥
      yes_is_no (Ok NoPairs) right e = let c : 0 ≡ 1 = ap code_of e in omega (arith, c)
      yes_is_no (Ok (Pairs list)) right e = right
      yes_is_no (Ok (Differences t measured)) right e = right
      yes_is_no (Err fault) right e = right

  alone : (q : ImplicationsRequest) (counts : Option Text) → q.counts ≡ counts
      → IfSome (r.held q.file) (λ bytes. HoldsAnswer commands (of Implications q) bytes Yes text) → IsImpliedIn r q counts code text
  alone q None e h = mapped (r.held q.file) (λ bytes. HoldsAnswer commands (of Implications q) bytes Yes text) (λ bytes. IsImplied q bytes code text)
      (λ bytes a. answered implications_telling target_refusal target_refused (plain_form q.format) bytes code Yes text status (omega (arith, status))
      (λ d. IsForGraph q.counts d.observed) ArePairsAsDrawn (implies q.counts) a.diagram a.holds a.answer) h
  alone q (Some name) e h = mapped (r.held q.file) (λ bytes. HoldsAnswer commands (of Implications q) bytes Yes text)
      (λ bytes. IfSome (r.held_second name) (λ other. IsImpliedOverCounts q bytes other code text)) (no_yes_alone q name e) h

  both : (q : ImplicationsRequest) (counts : Option Text) (name : Text) → counts ≡ Some name
      → IfSome (r.held q.file) (λ bytes. IfSome (r.held_second name) (λ other. DefinedWith commands (of Implications q) bytes other Yes text))
      → IsImpliedIn r q counts code text
  both q None name e h = absurd (none-some name e)
  both q (Some own) name e h =
      under_names r.held r.held_second q.file q.file own name (λ bytes other. DefinedWith commands (of Implications q) bytes other Yes text)
      (λ bytes other. IsImpliedOverCounts q bytes other code text)
      (λ bytes other d. answered_on_both implications_telling counts_refusal counts_refused (plain_form q.format) bytes code Yes text status
      (omega (arith, status)) other (λ d list. ArePairs (pairs_in d.observed list)) (λ d list. IsForCounts (pairs_in d.observed list) q.count)
      AreDifferencesAsDrawn (λ d list a are h. implies_over_counts q.count other d list a are h) d.0 d.1 d.3.0 d.3.1 d.3.2) refl e h

  pub implied : (uses : List Use) → Appends r.before r.after text.text → CallAnswer r Implications uses Yes text → Implied r code uses
  implied uses whole (on_words q is h) = absurd h
  implied uses whole (on_file q is name names h) = record {
    request = q;
    told = text;
    asks = is;
    right = alone q q.counts refl (under_name r.held q.file name (λ bytes. HoldsAnswer commands (of Implications q) bytes Yes text)
        (λ bytes. HoldsAnswer commands (of Implications q) bytes Yes text) (λ bytes a. a) names h);
    whole = whole;
  }
  implied uses whole (on_both q is name second names names_second other all h) = record {
    request = q;
    told = text;
    asks = is;
    right = both q q.counts second names_second
        (under_name r.held q.file name (λ bytes. IfSome (r.held_second second) (λ other. DefinedWith commands (of Implications q) bytes other Yes text))
        (λ bytes. IfSome (r.held_second second) (λ other. DefinedWith commands (of Implications q) bytes other Yes text)) (λ bytes a. a) names
        (on_held r (of Implications q) Yes text name second other all h));
    whole = whole;
  }

-- ---- check, steps and evaluate

-- certificates that are refused have another status
certificate_refused : (e : CertificateFault) → 1 < code_of (certificate_refusal.outcome e)
certificate_refused certificates.TooLong = omega arith
certificate_refused (certificates.Faulty fault) = omega arith
certificate_refused certificates.NoMemory = omega arith

-- and so have effects that can't be asked for
part_check_refused : (e : Fault) → 1 < code_of (part_check_refusal.outcome e)
part_check_refused (faults.Certificate fault) = certificate_refused fault
part_check_refused (faults.Treated fault) = treated_refused fault
part_check_refused (faults.Natural fault) = natural_refused fault

-- the diagram alone has no answer of `check`
not_first : (d : Diagram) (experiments : Experiments) (code : ℕ) (o : Outcome) (r : Result CheckAnswer TargetFault) → IsForFirst d experiments r
    → code ≡ code_of o → code ≤ 1 → o ≡ outcome_in part_check_telling target_refusal r → ⊥
not_first d experiments code o (Ok a) right status small ends = right
not_first d experiments code o (Err fault) right status small ends = let c = status ∙ ap code_of ends in omega (arith, c, small)

-- nor of `steps`
no_steps_first : (d : Diagram) (experiments : Experiments) (code : ℕ) (o : Outcome) (r : Result StepsAnswer TargetFault) → IsStepsFirst d experiments r
    → code ≡ code_of o → code ≤ 1 → o ≡ outcome_in steps_telling target_refusal r → ⊥
no_steps_first d experiments code o (Ok a) right status small ends = right
no_steps_first d experiments code o (Err fault) right status small ends = let c = status ∙ ap code_of ends in omega (arith, c, small)

module _ (r : Call) (uses : List Use) (code : ℕ) (o : Outcome) (text : Told) (status : code ≡ code_of o) (small : code ≤ 1)
    (whole : Appends r.before r.after text.text)
    (held : (w : Request commands) (bytes : List ℕ) → Defined commands w bytes o text → HoldsAnswer commands w bytes o text) where
  pub checked : CallAnswer r Check uses o text
      → WrittenForBoth check_requests.IsRequest (λ q. q.file) (λ q. q.certificate) (λ q bytes other. IsChecked q bytes other code) r uses
  checked (on_words q is h) = absurd h
  checked (on_file q is file names h) = record {
    request = q;
    told = text;
    asks = is;
    right = under_name r.held q.file file (λ bytes. Defined commands (of Check q) bytes o text)
        (λ bytes. IfSome (r.held_second q.certificate) (λ other. IsChecked q bytes other code text))
        (λ bytes a. let b = held (of Check q) bytes a in
        absurd (not_first b.diagram q.experiments code o b.answer.answer b.answer.right status small b.answer.ends)) names h;
    whole = whole;
  }
  checked (on_both q is file second names names_second other all h) = record {
    request = q;
    told = text;
    asks = is;
    right = under_names r.held r.held_second q.file file q.certificate second (λ bytes other. DefinedWith commands (of Check q) bytes other o text)
        (λ bytes other. IsChecked q bytes other code text)
        (λ bytes other d. answered_on_both part_check_telling part_check_refusal part_check_refused (plain_form q.format) bytes code o text status small other
        (λ d. AreExperimentsOn d.read.names d.observed.names q.experiments) (λ d. IsForCertificate (graph_of d.observed.graph) d.observed.names)
        IsCheckedAsDrawn (λ d zs a are h. checks other d zs a h) d.0 d.1 d.3.0 d.3.1 d.3.2) names names_second
        (on_held r (of Check q) o text file second other all h);
    whole = whole;
  }

  pub stepped : CallAnswer r Steps uses o text
      → WrittenForBoth check_requests.IsRequest (λ q. q.file) (λ q. q.certificate) (λ q bytes other. IsStepped q bytes other code) r uses
  stepped (on_words q is h) = absurd h
  stepped (on_file q is file names h) = record {
    request = q;
    told = text;
    asks = is;
    right = under_name r.held q.file file (λ bytes. Defined commands (of Steps q) bytes o text)
        (λ bytes. IfSome (r.held_second q.certificate) (λ other. IsStepped q bytes other code text))
        (λ bytes a. let b = held (of Steps q) bytes a in
        absurd (no_steps_first b.diagram q.experiments code o b.answer.answer b.answer.right status small b.answer.ends)) names h;
    whole = whole;
  }
  stepped (on_both q is file second names names_second other all h) = record {
    request = q;
    told = text;
    asks = is;
    right = under_names r.held r.held_second q.file file q.certificate second (λ bytes other. DefinedWith commands (of Steps q) bytes other o text)
        (λ bytes other. IsStepped q bytes other code text)
        (λ bytes other d. answered_on_both steps_telling certificate_refusal certificate_refused (plain_form q.format) bytes code o text status small other
        (λ d. AreExperimentsOn d.read.names d.observed.names q.experiments) (λ d. IsForSteps (graph_of d.observed.graph) d.observed.names)
        IsSteppedAsDrawn (λ d zs a are h. checks_whole other d zs (checked_of a) h.checked) d.0 d.1 d.3.0 d.3.1 d.3.2) names names_second
        (on_held r (of Steps q) o text file second other all h);
    whole = whole;
  }

-- ---- evaluate

-- a yes is given over counts
module _ (r : Call) (uses : List Use) (code : ℕ) (text : Told) (status : code ≡ 0) (whole : Appends r.before r.after text.text) where
  no_values_alone : (way : Way) (d : Diagram) (x y : Names) (k : Result EvaluateAnswer TargetFault) → IsForDiagram way d x y k
      → Yes ≡ outcome_in evaluate_telling target_refusal k → ⊥
  no_values_alone (by_procedure short) d x y (Ok (evaluations.Values a)) right e = right
  no_values_alone (by_adjusting back_door set) d x y (Ok (evaluations.Values a)) right e = right
  no_values_alone (by_condition short given) d x y (Ok (evaluations.Values a)) right e = right
  no_values_alone way d x y (Ok (evaluations.Hedge h)) right e = let c : 0 ≡ 1 = ap code_of e in omega (arith, c)
  no_values_alone way d x y (Ok (evaluations.Joint t settled h)) right e = let c : 0 ≡ 1 = ap code_of e in omega (arith, c)
  no_values_alone way d x y (Ok (evaluations.NotAdmissible s fault)) right e = let c : 0 ≡ 1 = ap code_of e in omega (arith, c)
  no_values_alone way d x y (Err fault) right e = let c : 0 ≡ 3 = ap code_of e in omega (arith, c)

  pub evaluated : evaluate_requests.AskPlainly uses → CallAnswer r Evaluate uses Yes text
      → WrittenForBoth evaluate_requests.IsRequest (λ q. q.file) (λ q. q.counts) (λ q bytes other. IsEvaluated q bytes other code) r uses
  evaluated plain (on_words (choice.first q) is h) = absurd h
  evaluated plain (on_words (choice.second (choice.first q)) is h) = absurd h
  evaluated plain (on_words (choice.second (choice.second q)) is h) = absurd h
  evaluated plain (on_file (choice.second (choice.first q)) is file names h) = absurd (false≢true (sym plain.treated ∙ is.treated))
  evaluated plain (on_file (choice.second (choice.second q)) is file names h) = absurd (false≢true (sym plain.natural ∙ is.natural))
  evaluated plain (on_both (choice.second (choice.first q)) is file second names names_second other all h) = absurd (false≢true (sym plain.treated ∙ is.treated))
  evaluated plain (on_both (choice.second (choice.second q)) is file second names names_second other all h) = absurd (false≢true (sym plain.natural ∙ is.natural))
  evaluated plain (on_file (choice.first q) is file names h) = record {
    request = q;
    told = text;
    asks = is;
    right = under_name r.held q.file file (λ bytes. HoldsAnswer commands (of Evaluate (choice.first q)) bytes Yes text)
        (λ bytes. IfSome (r.held_second q.counts) (λ other. IsEvaluated q bytes other code text))
        (λ bytes b. absurd (no_values_alone q.way b.diagram q.x q.y b.answer.answer b.answer.right b.answer.ends)) names h;
    whole = whole;
  }
  evaluated plain (on_both (choice.first q) is file second names names_second other all h) = record {
    request = q;
    told = text;
    asks = is;
    right = under_names r.held r.held_second q.file file q.counts second (λ bytes other. DefinedWith commands (of Evaluate (choice.first q)) bytes other Yes text)
        (λ bytes other. IsEvaluated q bytes other code text)
        (λ bytes other d. answered_on_both evaluate_telling values_refusal values_refused (plain_form q.format) bytes code Yes text status
        (omega (arith, status)) other (λ d. Identifies q.way d q.x q.y) (λ d e. evaluations_right.IsForCounts q.exact q.zero q.matched e q.count)
        IsEvaluatedAsDrawn (λ d e a identifies h. evaluates q.way q.x q.y q.exact q.zero q.matched q.count other d e a identifies h) d.0 d.1 d.3.0 d.3.1
        (subst (λ (names : List (List ℕ)). Tells evaluate_telling values_refusal (evaluations_right.IsForCounts q.exact q.zero q.matched d.3.0 q.count other)
        (plain_form q.format) names Yes text) d.3.1.names d.3.2)) names names_second (on_held r (of Evaluate (choice.first q)) Yes text file second other all h);
    whole = whole;
  }

-- a no is given on the diagram alone
module _ (r : Call) (uses : List Use) (code : ℕ) (text : Told) (status : code ≡ 1) (whole : Appends r.before r.after text.text) where
  no_over_counts : (exact zero matched : Bool) (e : PlainEffect) (count : Option Text) (other : List ℕ) (k : Result EvaluateAnswer ValuesFault)
      → evaluations_right.IsForCounts exact zero matched e count other k → No ≡ outcome_in evaluate_telling values_refusal k → ⊥
  no_over_counts exact zero matched e count other (Ok (evaluations.Values a)) right n = let c : 1 ≡ 0 = ap code_of n in omega (arith, c)
  no_over_counts exact zero matched e count other (Ok (evaluations.Hedge h)) right n = right.answer
  no_over_counts exact zero matched e count other (Ok (evaluations.Joint t settled h)) right n = right.answer
  no_over_counts exact zero matched e count other (Ok (evaluations.NotAdmissible s fault)) right n = right.answer
  no_over_counts exact zero matched e count other (Err fault) right n = let c : 1 ≡ code_of (values_refusal.outcome fault) = ap code_of n in
      omega (arith, c, values_refused fault)

  pub not_evaluated : evaluate_requests.AskPlainly uses → CallAnswer r Evaluate uses No text
      → WrittenFor evaluate_requests.IsRequest (λ q. q.file) (λ q bytes. IsUnevaluated q bytes code) r uses
  not_evaluated plain (on_words (choice.first q) is h) = absurd h
  not_evaluated plain (on_words (choice.second (choice.first q)) is h) = absurd h
  not_evaluated plain (on_words (choice.second (choice.second q)) is h) = absurd h
  not_evaluated plain (on_file (choice.second (choice.first q)) is file names h) = absurd (false≢true (sym plain.treated ∙ is.treated))
  not_evaluated plain (on_file (choice.second (choice.second q)) is file names h) = absurd (false≢true (sym plain.natural ∙ is.natural))
  not_evaluated plain (on_both (choice.second (choice.first q)) is file second names names_second other all h) = absurd (false≢true (sym plain.treated ∙ is.treated))
  not_evaluated plain (on_both (choice.second (choice.second q)) is file second names names_second other all h) = absurd (false≢true (sym plain.natural ∙ is.natural))
  not_evaluated plain (on_file (choice.first q) is file names h) = record {
    request = q;
    told = text;
    asks = is;
    right = under_name r.held q.file file (λ bytes. HoldsAnswer commands (of Evaluate (choice.first q)) bytes No text)
        (λ bytes. IsUnevaluated q bytes code text)
        (λ bytes b. answered evaluate_telling target_refusal target_refused (plain_form q.format) bytes code No text status (omega (arith, status))
        (λ d. IsForDiagram q.way d q.x q.y) (IsUnevaluatedAsDrawn q.way) (unevaluated q.way q.x q.y) b.diagram b.holds b.answer) names h;
    whole = whole;
  }
  not_evaluated plain (on_both (choice.first q) is file second names names_second other all h) = record {
    request = q;
    told = text;
    asks = is;
    right = under_name r.held q.file file (λ bytes. DefinedWith commands (of Evaluate (choice.first q)) bytes other No text) (λ bytes. IsUnevaluated q bytes code text)
        (λ bytes d. absurd (no_over_counts q.exact q.zero q.matched d.3.0 q.count other d.3.2.answer d.3.2.right d.3.2.ends)) names h;
    whole = whole;
  }

-- ---- bounds

-- faults of counts and of bounds have another status
bounds_refused : (names : List (List ℕ)) (e : BoundsFault) → 1 < code_of ((bounds_refusal names).outcome e)
bounds_refused names bound_faults.TooLong = omega arith
bounds_refused names (bound_faults.Counts fault) = omega arith
bounds_refused names (bound_faults.NoRecords counts given cell) = omega arith
bounds_refused names bound_faults.TooWide = omega arith
bounds_refused names bound_faults.NoMemory = omega arith

-- a yes is given over counts
module _ (r : Call) (uses : List Use) (code : ℕ) (text : Told) (status : code ≡ 0) (whole : Appends r.before r.after text.text) where
  no_bounds_alone : (k : Result Unmet TargetFault) → Yes ≡ outcome_in unmet_telling target_refusal k → ⊥
  no_bounds_alone (Ok a) e = let c : 0 ≡ 1 = ap code_of e in omega (arith, c)
  no_bounds_alone (Err fault) e = let c : 0 ≡ 3 = ap code_of e in omega (arith, c)

  pub bounded : CallAnswer r Bounds uses Yes text
      → WrittenForBoth bounds_requests.IsRequest (λ q. q.file) (λ q. q.counts) (λ q bytes other. IsBounded q bytes other code) r uses
  bounded (on_words q is h) = absurd h
  bounded (on_file q is file names h) = record {
    request = q;
    told = text;
    asks = is;
    right = under_name r.held q.file file (λ bytes. HoldsAnswer commands (of Bounds q) bytes Yes text)
        (λ bytes. IfSome (r.held_second q.counts) (λ other. IsBounded q bytes other code text))
        (λ bytes b. absurd (no_bounds_alone b.answer.answer b.answer.ends)) names h;
    whole = whole;
  }
  bounded (on_both q is file second names names_second other all h) = record {
    request = q;
    told = text;
    asks = is;
    right = under_names r.held r.held_second q.file file q.counts second (λ bytes other. DefinedWith commands (of Bounds q) bytes other Yes text)
        (λ bytes other. IsBounded q bytes other code text)
        (λ bytes other d. answered_on_both bounds_telling (bounds_refusal d.0.observed.names) (bounds_refused d.0.observed.names) (plain_form q.format) bytes
        code Yes text status (omega (arith, status)) other (λ d. IsAsked (graph_of d.observed.graph) (lists_of q d))
        (λ d b. bounds_right.IsBounded q.exact (graph_of d.observed.graph) d.observed.names b q.count)
        IsBoundedAsDrawn (λ d b a asked h. bounds_drawn q.exact d b q.count other a h) d.0 d.1 d.3.0 d.3.1 d.3.2) names names_second
        (on_held r (of Bounds q) Yes text file second other all h);
    whole = whole;
  }

-- ---- a run

pub right_as_drawn_of : (r : Call) (code : ℕ) (o : Outcome) (text : Told) → code ≡ code_of o → (code ≤ 1 → Gave r o text) → RightAsDrawn r code
right_as_drawn_of r code Yes text c g = let h = g (omega (arith, c)) in record {
  identified = λ uses call small. identified r uses code Yes text c small h.whole (λ w bytes a. a) (h.answers Identify uses call);
  adjusted = λ uses call small. adjusted r uses code Yes text c small h.whole (λ w bytes a. a) (h.answers Adjust uses call);
  surrogated = λ uses call small. surrogated r uses code Yes text c small h.whole (λ w bytes a. a) (h.answers Surrogate uses call);
  treated = λ uses call small. treated r uses code Yes text c small h.whole (λ w bytes a. a) (h.answers Treated uses call);
  natural = λ uses call small. natural r uses code Yes text c small h.whole (λ w bytes a. a) (h.answers Natural uses call);
  separated = λ uses call small. separated r uses code Yes text c small h.whole (λ w bytes a. a) (h.answers Separate uses call);
  ruled = λ uses call small. ruled r uses code Yes text c small h.whole (λ w bytes a. a) (h.answers Rule uses call);
  checked = λ uses call small. checked r uses code Yes text c small h.whole (λ w bytes a. a) (h.answers Check uses call);
  stepped = λ uses call small. stepped r uses code Yes text c small h.whole (λ w bytes a. a) (h.answers Steps uses call);
  implied = λ uses call zero. implied r code text c uses h.whole (h.answers Implications uses call);
  evaluated = λ uses call plain zero. evaluated r uses code text zero h.whole plain (h.answers Evaluate uses call);
  unevaluated = λ uses call plain one. absurd (omega (arith, c, one));
  evaluated_among = λ uses call is zero. evaluated_among r uses code text is zero h.whole (h.answers Evaluate uses call);
  evaluated_nested = λ uses call is zero. evaluated_nested r uses code text is zero h.whole (h.answers Evaluate uses call);
  unevaluated_among = λ uses call is one. absurd (omega (arith, c, one));
  unevaluated_nested = λ uses call is one. absurd (omega (arith, c, one));
  bounded = λ uses call zero. bounded r uses code text zero h.whole (h.answers Bounds uses call);
}
right_as_drawn_of r code No text c g = let h = g (omega (arith, c)) in record {
  identified = λ uses call small. identified r uses code No text c small h.whole (λ w bytes a. a) (h.answers Identify uses call);
  adjusted = λ uses call small. adjusted r uses code No text c small h.whole (λ w bytes a. a) (h.answers Adjust uses call);
  surrogated = λ uses call small. surrogated r uses code No text c small h.whole (λ w bytes a. a) (h.answers Surrogate uses call);
  treated = λ uses call small. treated r uses code No text c small h.whole (λ w bytes a. a) (h.answers Treated uses call);
  natural = λ uses call small. natural r uses code No text c small h.whole (λ w bytes a. a) (h.answers Natural uses call);
  separated = λ uses call small. separated r uses code No text c small h.whole (λ w bytes a. a) (h.answers Separate uses call);
  ruled = λ uses call small. ruled r uses code No text c small h.whole (λ w bytes a. a) (h.answers Rule uses call);
  checked = λ uses call small. checked r uses code No text c small h.whole (λ w bytes a. a) (h.answers Check uses call);
  stepped = λ uses call small. stepped r uses code No text c small h.whole (λ w bytes a. a) (h.answers Steps uses call);
  implied = λ uses call zero. absurd (omega (arith, c, zero));
  evaluated = λ uses call plain zero. absurd (omega (arith, c, zero));
  unevaluated = λ uses call plain one. not_evaluated r uses code text one h.whole plain (h.answers Evaluate uses call);
  evaluated_among = λ uses call is zero. absurd (omega (arith, c, zero));
  evaluated_nested = λ uses call is zero. absurd (omega (arith, c, zero));
  unevaluated_among = λ uses call is one. unevaluated_among r uses code text is one h.whole (h.answers Evaluate uses call);
  unevaluated_nested = λ uses call is one. unevaluated_nested r uses code text is one h.whole (h.answers Evaluate uses call);
  bounded = λ uses call zero. absurd (omega (arith, c, zero));
}
right_as_drawn_of r code o text c g = record {
  identified = λ uses call small. absurd (omega (arith, c, small));
  adjusted = λ uses call small. absurd (omega (arith, c, small));
  surrogated = λ uses call small. absurd (omega (arith, c, small));
  treated = λ uses call small. absurd (omega (arith, c, small));
  natural = λ uses call small. absurd (omega (arith, c, small));
  separated = λ uses call small. absurd (omega (arith, c, small));
  ruled = λ uses call small. absurd (omega (arith, c, small));
  implied = λ uses call zero. absurd (omega (arith, c, zero));
  checked = λ uses call small. absurd (omega (arith, c, small));
  stepped = λ uses call small. absurd (omega (arith, c, small));
  evaluated = λ uses call plain zero. absurd (omega (arith, c, zero));
  unevaluated = λ uses call plain one. absurd (omega (arith, c, one));
  evaluated_among = λ uses call is zero. absurd (omega (arith, c, zero));
  evaluated_nested = λ uses call is zero. absurd (omega (arith, c, zero));
  unevaluated_among = λ uses call is one. absurd (omega (arith, c, one));
  unevaluated_nested = λ uses call is one. absurd (omega (arith, c, one));
  bounded = λ uses call zero. absurd (omega (arith, c, zero));
}
