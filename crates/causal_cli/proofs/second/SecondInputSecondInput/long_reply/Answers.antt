use Rattle.std.proofs.Common.{◌<◌, ℕ, Bool, List, Option, IfOk, length, option_map, sym, subst}
use Rattle.std.proofs.lemmas.Result.{IfOk-weaker}
use Rattle.count_rows.specs.Vocabulary.{Field}
use Rattle.diagram.specs.declared.diagram.Diagram.{Diagram}
use Rattle.targets.specs.declared.query.Sets.{Sets}
use Rattle.mixed_graph.specs.Vocabulary.{MixedGraph, graph_of}
use Rattle.replies.specs.declared.format.Format.{Format}
use Rattle.replies.specs.Vocabulary.{told_of}
use Rattle.prob_expr.specs.Vocabulary.{masks_of}
use Rattle.check_command.specs.Vocabulary.{certificate_refusal}
use Rattle.part_check_command.specs.Vocabulary.{IsForCertificate, part_check_refusal, part_check_telling}
use Rattle.steps_command.specs.Vocabulary.{IsForCertificate as IsForSteps, steps_telling}
use Rattle.bound_values.specs.declared.questions.Question.{Question}
use Rattle.bounds_command.specs.Vocabulary.{CountsAnswer}
use Rattle.told.specs.declared.form.Form.{Form}
use Rattle.told.specs.Vocabulary.{plain_form, Tells}
use Rattle.evaluate_command.specs.Vocabulary.{PlainEffect, effect_in, evaluate_telling, values_refusal}
use Rattle.evaluate_command.specs.Right as evaluations
use Rattle.evaluate_treated.specs.Vocabulary.{PlainAmong, among_in, among_telling}
use Rattle.evaluate_treated.specs.Right as among
use Rattle.evaluate_natural.specs.Vocabulary.{PlainNested, nested_in, nested_telling}
use Rattle.evaluate_natural.specs.Right as nested
use Rattle.equivalent_command.specs.Vocabulary.{IsForSecond, second_refusal, equivalent_telling}
use Rattle.implications_command.specs.Vocabulary.{counts_refusal, PlainPairs, pairs_in, IsForCounts, implications_telling}
use Rattle.causal_cli.specs.Commands.{left_of}
use Rattle.causal_cli.specs.declared.second.SecondInput.{SecondInput}
use Rattle.causal_cli.proofs.second.SecondInputSecondInput.long_reply.Goals as goal

pub returns-in-Check : goal.returns-in-Check
returns-in-Check c =
    let d = c.args.diagram.now in
    let g = graph_of d.observed.graph in
    let zs = masks_of c.in-Check.experiments.items in
    subst (λ (it : SecondInput). IfOk c.long_certificate.result (λ r. (other : List ℕ) → (left_of d it).limit < length other
    → (left_of d it).answer other r.outcome (told_of r))) (sym c.in-Check.is)
    (IfOk-weaker c.long_certificate.result
    (λ r. (form : Form) (q : MixedGraph) (names : List (List ℕ)) (zs bytes : List ℕ) → 67108864 < length bytes
    → Tells part_check_telling part_check_refusal (IsForCertificate q names zs bytes) form names r.outcome (told_of r))
    (λ r. (other : List ℕ) → 67108864 < length other → Tells part_check_telling part_check_refusal (IsForCertificate g d.observed.names zs other)
    (plain_form c.in-Check.format) d.observed.names r.outcome (told_of r))
    (λ r h other long. h (plain_form c.in-Check.format) g d.observed.names zs other long) c.long_certificate.ensures)

pub returns-in-Steps : goal.returns-in-Steps
returns-in-Steps c =
    let d = c.args.diagram.now in
    let g = graph_of d.observed.graph in
    let zs = masks_of c.in-Steps.experiments.items in
    subst (λ (it : SecondInput). IfOk c.long_certificate-in-Steps.result (λ r. (other : List ℕ) → (left_of d it).limit < length other
    → (left_of d it).answer other r.outcome (told_of r))) (sym c.in-Steps.is)
    (IfOk-weaker c.long_certificate-in-Steps.result
    (λ r. (form : Form) (q : MixedGraph) (names : List (List ℕ)) (zs bytes : List ℕ) → 67108864 < length bytes
    → Tells steps_telling certificate_refusal (IsForSteps q names zs bytes) form names r.outcome (told_of r))
    (λ r. (other : List ℕ) → 67108864 < length other → Tells steps_telling certificate_refusal (IsForSteps g d.observed.names zs other)
    (plain_form c.in-Steps.format) d.observed.names r.outcome (told_of r))
    (λ r h other long. h (plain_form c.in-Steps.format) g d.observed.names zs other long) c.long_certificate-in-Steps.ensures)

pub returns-in-Evaluate : goal.returns-in-Evaluate
returns-in-Evaluate c =
    let d = c.args.diagram.now in
    let e = effect_in d.observed c.in-Evaluate.found in
    let count = option_map (λ s. s.now) c.in-Evaluate.count in
    subst (λ (it : SecondInput). IfOk c.long_counts.result (λ r. (other : List ℕ) → (left_of d it).limit < length other
    → (left_of d it).answer other r.outcome (told_of r))) (sym c.in-Evaluate.is)
    (IfOk-weaker c.long_counts.result
    (λ r. (form : Form) (exact zero matched : Bool) (e : PlainEffect) (count : Option Field) (bytes : List ℕ) (names : List (List ℕ)) → 67108864 < length bytes
    → Tells evaluate_telling values_refusal (evaluations.IsForCounts exact zero matched e count bytes) form names r.outcome (told_of r))
    (λ r. (other : List ℕ) → 67108864 < length other
    → Tells evaluate_telling values_refusal (evaluations.IsForCounts c.in-Evaluate.exact c.in-Evaluate.zero c.in-Evaluate.matched e count other)
    (plain_form c.in-Evaluate.format) e.names r.outcome (told_of r))
    (λ r h other long. h (plain_form c.in-Evaluate.format) c.in-Evaluate.exact c.in-Evaluate.zero c.in-Evaluate.matched e count other e.names long)
    c.long_counts.ensures)

pub returns-in-EvaluateTreated : goal.returns-in-EvaluateTreated
returns-in-EvaluateTreated c =
    let d = c.args.diagram.now in
    let e = among_in d.observed c.in-EvaluateTreated.found in
    let count = option_map (λ s. s.now) c.in-EvaluateTreated.count in
    subst (λ (it : SecondInput). IfOk c.long_counts-in-EvaluateTreated.result (λ r. (other : List ℕ) → (left_of d it).limit < length other
    → (left_of d it).answer other r.outcome (told_of r))) (sym c.in-EvaluateTreated.is)
    (IfOk-weaker c.long_counts-in-EvaluateTreated.result
    (λ r. (form : Form) (exact : Bool) (e : PlainAmong) (count : Option Field) (bytes : List ℕ) (names : List (List ℕ)) → 67108864 < length bytes
    → Tells among_telling values_refusal (among.IsForCounts exact e count bytes) form names r.outcome (told_of r))
    (λ r. (other : List ℕ) → 67108864 < length other
    → Tells among_telling values_refusal (among.IsForCounts c.in-EvaluateTreated.exact e count other) c.in-EvaluateTreated.form e.names r.outcome (told_of r))
    (λ r h other long. h c.in-EvaluateTreated.form c.in-EvaluateTreated.exact e count other e.names long)
    c.long_counts-in-EvaluateTreated.ensures)

pub returns-in-EvaluateNatural : goal.returns-in-EvaluateNatural
returns-in-EvaluateNatural c =
    let d = c.args.diagram.now in
    let e = nested_in d.observed c.in-EvaluateNatural.found in
    let count = option_map (λ s. s.now) c.in-EvaluateNatural.count in
    subst (λ (it : SecondInput). IfOk c.long_counts-in-EvaluateNatural.result (λ r. (other : List ℕ) → (left_of d it).limit < length other
    → (left_of d it).answer other r.outcome (told_of r))) (sym c.in-EvaluateNatural.is)
    (IfOk-weaker c.long_counts-in-EvaluateNatural.result
    (λ r. (form : Form) (exact : Bool) (e : PlainNested) (count : Option Field) (bytes : List ℕ) (names : List (List ℕ)) → 67108864 < length bytes
    → Tells nested_telling values_refusal (nested.IsForCounts exact e count bytes) form names r.outcome (told_of r))
    (λ r. (other : List ℕ) → 67108864 < length other
    → Tells nested_telling values_refusal (nested.IsForCounts c.in-EvaluateNatural.exact e count other) c.in-EvaluateNatural.form e.names r.outcome (told_of r))
    (λ r h other long. h c.in-EvaluateNatural.form c.in-EvaluateNatural.exact e count other e.names long)
    c.long_counts-in-EvaluateNatural.ensures)

pub returns-in-Equivalent : goal.returns-in-Equivalent
returns-in-Equivalent c =
    let d = c.args.diagram.now in
    subst (λ (it : SecondInput). IfOk c.long_second_graph.result (λ r. (other : List ℕ) → (left_of d it).limit < length other
    → (left_of d it).answer other r.outcome (told_of r))) (sym c.in-Equivalent.is)
    (IfOk-weaker c.long_second_graph.result
    (λ r. (form : Form) (first : Diagram) (sets : Option Sets) (second : List ℕ) → 1048576 < length second
    → Tells equivalent_telling second_refusal (IsForSecond first.observed sets second) form first.observed.names r.outcome (told_of r))
    (λ r. (other : List ℕ) → 1048576 < length other → Tells equivalent_telling second_refusal (IsForSecond d.observed c.in-Equivalent.sets other)
    (plain_form c.in-Equivalent.format) d.observed.names r.outcome (told_of r))
    (λ r h other long. h (plain_form c.in-Equivalent.format) d c.in-Equivalent.sets other long) c.long_second_graph.ensures)

pub returns-in-Implications : goal.returns-in-Implications
returns-in-Implications c =
    let d = c.args.diagram.now in
    let p = pairs_in d.observed c.in-Implications.pairs.items in
    let count = option_map (λ s. s.now) c.in-Implications.count in
    subst (λ (it : SecondInput). IfOk c.long_counts-in-Implications.result (λ r. (other : List ℕ) → (left_of d it).limit < length other
    → (left_of d it).answer other r.outcome (told_of r))) (sym c.in-Implications.is)
    (IfOk-weaker c.long_counts-in-Implications.result
    (λ r. (form : Form) (p : PlainPairs) (count : Option Field) (bytes : List ℕ) (names : List (List ℕ)) → 67108864 < length bytes
    → Tells implications_telling counts_refusal (IsForCounts p count bytes) form names r.outcome (told_of r))
    (λ r. (other : List ℕ) → 67108864 < length other → Tells implications_telling counts_refusal (IsForCounts p count other)
    (plain_form c.in-Implications.format) d.observed.names r.outcome (told_of r))
    (λ r h other long. h (plain_form c.in-Implications.format) p count other d.observed.names long) c.long_counts-in-Implications.ensures)

pub returns-in-Bounds : goal.returns-in-Bounds
returns-in-Bounds c =
    let d = c.args.diagram.now in
    let g = graph_of d.observed.graph in
    let count = option_map (λ s. s.now) c.in-Bounds.count in
    subst (λ (it : SecondInput). IfOk c.long_counts-in-Bounds.result (λ r. (other : List ℕ) → (left_of d it).limit < length other
    → (left_of d it).answer other r.outcome (told_of r))) (sym c.in-Bounds.is)
    (IfOk-weaker c.long_counts-in-Bounds.result
    (λ r. (format : Format) (exact : Bool) (g : MixedGraph) (names : List (List ℕ)) (q : Question) (count : Option Field) (bytes : List ℕ)
    → 67108864 < length bytes → CountsAnswer format exact g names q count bytes r.outcome (told_of r))
    (λ r. (other : List ℕ) → 67108864 < length other → CountsAnswer c.in-Bounds.format c.in-Bounds.exact g d.observed.names c.in-Bounds.question count other
    r.outcome (told_of r))
    (λ r h other long. h c.in-Bounds.format c.in-Bounds.exact g d.observed.names c.in-Bounds.question count other long) c.long_counts-in-Bounds.ensures)
