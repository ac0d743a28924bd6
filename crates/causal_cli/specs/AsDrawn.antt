-- What an answer says of the diagram as drawn, with its hidden vertices: of the models of the graph that was read, whatever the mechanisms of these.
-- What it says of the observed graph stands with the answers that are right, in the crate of each command.
use Rattle.std.specs.Prelude.{ℕ, ◌≡◌, ◌<◌, Bool, true, false, List, Option, All, IsTrue, IfSome, pos}
use Rattle.mixed_graph.specs.declared.sets.VSet.{VSet}
use Rattle.mixed_graph.specs.Vocabulary.{has, MixedGraph, graph_of}
use Rattle.fractions.specs.Vocabulary.{Fraction}
use Rattle.finite_models.specs.Vocabulary.{FiniteModel, Fits, IsAssignment}
use Rattle.do_rules.specs.Vocabulary.{AreThreeSets, left_of, right_of}
use Rattle.prob_expr.specs.Vocabulary.{masks_of, is_do_free, PlainFormula, PlainTarget, effect_on, target_view, formula_view}
use Rattle.dag_reader.specs.declared.graph.ReadGraph.{ReadGraph}
use Rattle.hidden_models.specs.Vocabulary.{IsObservedPositive, IsMatchedAsDrawn, values_after, drawn_effect, EqualsAsDrawn, AreIndependentAsDrawn, AreDependentAsDrawn, AreEqualSidesAsDrawn, DifferSomewhereAsDrawn, AgreeAsDrawn, DifferOnAsDrawn, NotIdentifiableAsDrawn, NotIdentifiableOverAsDrawn, FailsSomewhereAsDrawn}
use Rattle.adjustment.specs.Vocabulary.{adjustment_formula}
use Rattle.surrogates.specs.Vocabulary.{IsBlockedTogether}
use Rattle.count_rows.specs.Vocabulary.{Table}
use Rattle.count_table.specs.Vocabulary.{total}
use Rattle.count_eval.specs.Vocabulary.{weights_in, is_used, cell_of}
use Rattle.quantity.specs.Kinds.{Pair}
use Rattle.quantity.specs.Vocabulary.{Equals, Covers}
use Rattle.implications.specs.declared.pairs.Implication.{Implication}
use Rattle.implications.specs.Vocabulary.{only}
use Rattle.implied_differences.specs.declared.largest.Difference.{Difference}
use Rattle.diagram.specs.declared.diagram.Diagram.{Diagram}
use Rattle.effect_answers.specs.declared.hedges.EffectHedge.{EffectHedge}
use Rattle.effect_answers.specs.Vocabulary.{effect_of}
use Rattle.identify_command.specs.declared.answer.Answer.{Answer as IdentifyAnswer}
use Rattle.identify_command.specs.declared.answer.Answer.TheVariants as identified
use Rattle.adjust_command.specs.Queries.{Query}
use Rattle.adjust_command.specs.declared.answer.Answer.{Answer as AdjustAnswer}
use Rattle.adjust_command.specs.Vocabulary.{by_set, by_back_door, listing}
use Rattle.adjust_command.specs.declared.answer.Answer.TheVariants as adjusted
use Rattle.surrogate_command.specs.declared.answer.Answer.{Answer as SurrogateAnswer}
use Rattle.surrogate_command.specs.declared.answer.Answer.TheVariants as surrogated
use Rattle.treated_drawn.specs.Vocabulary.{EqualsAmongAsDrawn, IsLostAmongAsDrawn, IsUnfixedAmongAsDrawn, drawn_with_primes}
use Rattle.treated_drawn.specs.Drawn.{drawn_among}
use Rattle.parts_drawn.specs.Vocabulary.{EqualsAmongPartsAsDrawn, MakeUpAmongAsDrawn}
use Rattle.certificate.specs.Vocabulary.{part_certificate_view}
use Rattle.certificate_json.specs.Vocabulary.{parts_of}
use Rattle.treated_command.specs.declared.answer.Answer.{Answer as TreatedAnswer}
use Rattle.treated_command.specs.declared.answer.Answer.TheVariants as treated
use Rattle.separation_commands.specs.declared.separate.answer.Answer.{Answer as SeparateAnswer}
use Rattle.separation_commands.specs.declared.separate.answer.Answer.TheVariants as separated
use Rattle.separation_commands.specs.declared.rule.answer.Answer.{Answer as RuleAnswer}
use Rattle.separation_commands.specs.declared.rule.answer.Answer.TheVariants as ruled
use Rattle.implications_command.specs.declared.differences.Measured.{Measured}
use Rattle.implications_command.specs.declared.answer.Answer.{Answer as ImplicationsAnswer}
use Rattle.implications_command.specs.Vocabulary.{first_broken}
use Rattle.implications_command.specs.declared.answer.Answer.TheVariants as implied
use Rattle.evaluate_command.specs.declared.answer.Answer.{Answer as EvaluateAnswer}
use Rattle.evaluate_command.specs.Vocabulary.{CellValue, plain_in, exact_numbers, bounds_numbers, PlainEffect, target_of, by_procedure, by_adjusting, by_condition}
use Rattle.evaluate_command.specs.Ways.{Way}
use Rattle.evaluate_treated.specs.Vocabulary.{PlainAmong, shown_in}
use Rattle.evaluate_treated.specs.declared.answer.Answer.TheVariants as among
use Rattle.paired_values.specs.Vocabulary.{are_exact, plain_values, second_levels}
use Rattle.evaluate_treated.specs.declared.answer.Answer.{Answer as AmongAnswer}
use Rattle.natural_drawn.specs.Vocabulary.{EqualsNaturalAsDrawn, drawn_nested_effect}
use Rattle.hidden_models.specs.Vocabulary.{drawn_weights}
use Rattle.evaluate_natural.specs.Effects.{paired_in}
use Rattle.evaluate_natural.specs.Vocabulary.{PlainNested}
use Rattle.evaluate_natural.specs.declared.answer.Answer.{Answer as NestedAnswer}
use Rattle.evaluate_command.specs.declared.answer.Values.{Values}
use Rattle.evaluate_command.specs.declared.answer.Values.TheVariants as values
use Rattle.evaluate_command.specs.declared.answer.Answer.TheVariants as evaluated
use Rattle.check_command.specs.declared.answer.Answer.{Answer as WholeAnswer}
use Rattle.check_command.specs.declared.answer.Answer.TheVariants as whole
use Rattle.part_check_command.specs.declared.answer.Answer.{Answer as CheckAnswer}
use Rattle.part_check_command.specs.declared.answer.Answer.TheVariants as checked
use Rattle.natural_id.specs.Vocabulary.{parts_view}
use Rattle.steps_command.specs.declared.answer.Answer.{Answer as StepsAnswer}
use Rattle.steps_command.specs.Vocabulary.{checked_of}
use Rattle.natural_bounds.specs.declared.ends.End.{End}
use Rattle.natural_bounds.specs.declared.ends.End.TheVariants.{AtLeast, AtMost}
use Rattle.natural_bounds.specs.Vocabulary.{BoundsAsDrawn, HasNoModelAsDrawn}
use Rattle.bound_values.specs.declared.questions.Question.{Question}
use Rattle.bound_values.specs.declared.values.Value.{Value}
use Rattle.bound_values.specs.declared.values.CellBounds.{CellBounds}
use Rattle.bound_values.specs.declared.found.Found.TheVariants.{Crossed, Bounded}
use Rattle.bound_values.specs.Vocabulary.{number_of}
use Rattle.bound_values.specs.declared.found.Found.{Found}
use Rattle.bounds_command.specs.declared.answer.Answer.{Answer as BoundsAnswer}

-- ---- formulas and effects

-- The formula equals the effect of the target in the diagram as drawn: in every model of the graph that was read, whatever the mechanisms of its
-- hidden vertices, that is positive on the observed ones, at each assignment. Its terms are taken in that model.
abbrev pub IsRightAsDrawn : ReadGraph → PlainTarget → PlainFormula → Type 0
IsRightAsDrawn g t f = EqualsAsDrawn (graph_of g.graph) (has g.latent.bits) t f

-- In the diagram as drawn the target isn't identifiable: two models of the graph that was read, positive on the observed vertices, agree on all
-- observations and differ on the target, under every value of its x.
abbrev pub IsNotIdentifiable : ReadGraph → PlainTarget → Type 0
IsNotIdentifiable g t = NotIdentifiableAsDrawn (graph_of g.graph) (has g.latent.bits) t

-- no formula without interventions equals the target in the diagram as drawn
abbrev pub HasNoFormulaAsDrawn : ReadGraph → PlainTarget → Type 0
HasNoFormulaAsDrawn g t = (f : PlainFormula) → is_do_free f ≡ true → IsRightAsDrawn g t f → ⊥

-- Nor is it by the experiments on the sets zs: the two models agree under each of them too, so no formula whose terms are observed or under one of
-- them equals the target.
abbrev pub IsNotIdentifiableOver : ReadGraph → List ℕ → PlainTarget → Type 0
IsNotIdentifiableOver g zs t = NotIdentifiableOverAsDrawn (graph_of g.graph) (has g.latent.bits) zs t

-- two models of the graph that was read, positive on the observed vertices, have equal observed probabilities and, at some values, two values of the target
pub record HasTwoModels (g : ReadGraph) (t : PlainTarget) : Type 0 where
  pub first : FiniteModel
  pub second : FiniteModel
  pub first_fits : Fits (graph_of g.graph) first
  pub second_fits : Fits (graph_of g.graph) second
  pub first_positive : IsObservedPositive (has g.latent.bits) first
  pub second_positive : IsObservedPositive (has g.latent.bits) second
  pub observed : AgreeAsDrawn (has g.latent.bits) first second
  pub differ : DifferOnAsDrawn (has g.latent.bits) first second t

-- ---- identify

-- The joint effect into which the target turns isn't identifiable, and two models give the target itself two values, so it has no formula; where its
-- observations settle it, it isn't identifiable either.
pub record IsJointLost (g : ReadGraph) (t : PlainTarget) (settled : Bool) (h : EffectHedge) : Type 0 where
  pub joint : IsNotIdentifiable g (effect_of h)
  pub models : HasTwoModels g t
  pub no_formula : HasNoFormulaAsDrawn g t
  pub differs : IsTrue settled → IsNotIdentifiable g t

-- a formula is right, and what has a hedge isn't identifiable
abbrev pub IdentifiesAsDrawn : Diagram → IdentifyAnswer → Type 0
IdentifiesAsDrawn d (identified.Formula f) = IsRightAsDrawn d.read (target_view f.target) (formula_view f.formula)
IdentifiesAsDrawn d (identified.Hedge h) = IsNotIdentifiable d.read (effect_of h)
IdentifiesAsDrawn d (identified.Joint t settled h) = IsJointLost d.read (target_view t) settled h

-- ---- adjust

-- the adjustment formula of z equals the effect of x on y in the diagram as drawn
abbrev pub AdjustsAsDrawn : ReadGraph → (x y z : ℕ) → Type 0
AdjustsAsDrawn g x y z = IsRightAsDrawn g (effect_on x y) (adjustment_formula x y z)

-- Of the set that may be adjusted for, and of each that is listed, the formula is right. Of a set that may not by the adjustment criterion it fails in
-- some model, and where there is none it is right of no set; a set that breaks the back-door criterion alone may be right all the same.
abbrev pub IsAdjustedAsDrawn : Query → Diagram → AdjustAnswer → Type 0
IsAdjustedAsDrawn query d (adjusted.Admissible s) = AdjustsAsDrawn d.read s.x.bits s.y.bits s.given.bits
IsAdjustedAsDrawn (by_set set) d (adjusted.NotAdmissible s fault) = FailsSomewhereAsDrawn (graph_of d.read.graph) (has d.read.latent.bits)
    (effect_on s.x.bits s.y.bits) (adjustment_formula s.x.bits s.y.bits s.given.bits)
IsAdjustedAsDrawn (by_back_door set) d (adjusted.NotAdmissible s fault) = Unit {0}
IsAdjustedAsDrawn (listing most) d (adjusted.NotAdmissible s fault) = Unit {0}
IsAdjustedAsDrawn query d (adjusted.Listed s sets more) = All (λ (z : VSet). AdjustsAsDrawn d.read s.x.bits s.y.bits z.bits) sets.items
IsAdjustedAsDrawn query d (adjusted.NoSet s) = (z : ℕ) → AreThreeSets d.observed.graph.n (has s.x.bits) (has s.y.bits) (has z)
    → AdjustsAsDrawn d.read s.x.bits s.y.bits z → ⊥

-- ---- surrogate

-- A formula is right. Where the procedure stops the effect isn't identifiable, and where there is a common hedge, it isn't by the experiments either.
abbrev pub IsSurrogateAsDrawn : Diagram → SurrogateAnswer → Type 0
IsSurrogateAsDrawn d (surrogated.Formula s f) = IsRightAsDrawn d.read (effect_on s.x.bits s.y.bits) (formula_view f.formula)
IsSurrogateAsDrawn d (surrogated.Unfound s district h) = IsNotIdentifiable d.read (effect_on s.x.bits s.y.bits)
    × (IsBlockedTogether (graph_of d.observed.graph) (masks_of s.experiments.items) s.x.bits s.y.bits
    → IsNotIdentifiableOver d.read (masks_of s.experiments.items) (effect_on s.x.bits s.y.bits))
IsSurrogateAsDrawn d (surrogated.Blocked s district h) = IsNotIdentifiable d.read (effect_on s.x.bits s.y.bits)
    × IsNotIdentifiableOver d.read (masks_of s.experiments.items) (effect_on s.x.bits s.y.bits)

-- ---- treated

-- A formula equals the effect among those whose x, and what is given, were observed, and so do the parts of a certificate. Without one two models show that
-- the effect isn't identifiable: those of a hedge for the joint effect, which isn't either, or those of the path from a child of a treatment to the treatment.
abbrev pub IsTreatedAsDrawn : Diagram → TreatedAnswer → Type 0
IsTreatedAsDrawn d (treated.Formula a f) = EqualsAmongAsDrawn (graph_of d.read.graph) (has d.read.latent.bits) a.sets.x.bits a.sets.y.bits a.sets.given.bits
    (formula_view f)
IsTreatedAsDrawn d (treated.Certified a c) = MakeUpAmongAsDrawn (graph_of d.read.graph) (has d.read.latent.bits) (graph_of d.observed.graph) a.sets.x.bits
    a.sets.y.bits a.sets.given.bits (parts_of (part_certificate_view c))
IsTreatedAsDrawn d (treated.Excluded a c h pair) = IsLostAmongAsDrawn (graph_of d.read.graph) (has d.read.latent.bits) d.observed.graph.n a.sets.x.bits
    a.sets.y.bits a.sets.given.bits
IsTreatedAsDrawn d (treated.Unfixed a c) = IsUnfixedAmongAsDrawn (graph_of d.read.graph) (has d.read.latent.bits) d.observed.graph.n a.sets.x.bits
    a.sets.y.bits a.sets.given.bits

-- ---- separate and rule

-- sets that are separated are independent in every model of the diagram as drawn, and where a path is open they are dependent in some
abbrev pub IsSeparatedAsDrawn : Diagram → SeparateAnswer → Type 0
IsSeparatedAsDrawn d (separated.Separated s) =
    AreIndependentAsDrawn (graph_of d.read.graph) (has d.read.latent.bits) (has s.x.bits) (has s.y.bits) (has s.given.bits)
IsSeparatedAsDrawn d (separated.Connected s path) =
    AreDependentAsDrawn (graph_of d.read.graph) (has d.read.latent.bits) (has s.x.bits) (has s.y.bits) (has s.given.bits)

-- the equation of a rule that holds is so in every model of the diagram as drawn that is positive on the observed vertices, and of one that fails in some
-- it isn't
abbrev pub IsRuledAsDrawn : Diagram → RuleAnswer → Type 0
IsRuledAsDrawn d (ruled.Holds r s cut) = AreEqualSidesAsDrawn (graph_of d.read.graph) (has d.read.latent.bits)
    (left_of r (has s.x.bits) (has s.y.bits) (has s.z.bits) (has s.given.bits)) (right_of r (has s.x.bits) (has s.y.bits) (has s.z.bits) (has s.given.bits))
IsRuledAsDrawn d (ruled.Fails r s cut path) = DifferSomewhereAsDrawn (graph_of d.read.graph) (has d.read.latent.bits)
    (left_of r (has s.x.bits) (has s.y.bits) (has s.z.bits) (has s.given.bits)) (right_of r (has s.x.bits) (has s.y.bits) (has s.z.bits) (has s.given.bits))

-- ---- implications

-- the vertices of the pair are independent given its set in every model of the diagram as drawn
abbrev pub IsIndependentAsDrawn : ReadGraph → Implication → Type 0
IsIndependentAsDrawn g i = AreIndependentAsDrawn (graph_of g.graph) (has g.latent.bits) (only i.a) (only i.b) (has i.given.bits)

-- the difference is 0 wherever a model of the diagram as drawn, positive or not, has the counts of the observed vertices: its observed weights are
-- those of the counts, up to one factor
abbrev pub IsZeroAsDrawn : ReadGraph → MixedGraph → Table → Difference → Type 0
IsZeroAsDrawn g q t d = (m : FiniteModel) → Fits (graph_of g.graph) m → IsMatchedAsDrawn (has g.latent.bits) (is_used t) (weights_in q.vertices t)
    (total t.rows) m → d.value ≡ pos 0

-- each pair of the answer is so
abbrev pub ArePairsAsDrawn : Diagram → ImplicationsAnswer → Type 0
ArePairsAsDrawn d implied.NoPairs = Unit {0}
ArePairsAsDrawn d (implied.Pairs list) = All (IsIndependentAsDrawn d.read) list.items
ArePairsAsDrawn d (implied.Differences t measured) = Unit {0}

-- and each largest difference over the counts
abbrev pub AreZeroAsDrawn : Diagram → ImplicationsAnswer → Type 0
AreZeroAsDrawn d implied.NoPairs = Unit {0}
AreZeroAsDrawn d (implied.Pairs list) = Unit {0}
AreZeroAsDrawn d (implied.Differences t measured) = All (λ (m : Measured). IsZeroAsDrawn d.read (graph_of d.observed.graph) t m.difference) measured.items

-- where one of them isn't 0, no model of the diagram as drawn, positive or not, has the counts
abbrev pub IsRefutedAsDrawn : Diagram → ImplicationsAnswer → Type 0
IsRefutedAsDrawn d (implied.Differences t measured) = IfSome (first_broken measured.items) (λ i. HasNoModelAsDrawn (graph_of d.read.graph)
    (has d.read.latent.bits) (is_used t) (weights_in d.observed.graph.n t) (total t.rows))
IsRefutedAsDrawn d a = Unit {0}

-- so are the pairs that are kept for the counts, and their differences
pub record AreDifferencesAsDrawn (d : Diagram) (list : List Implication) (a : ImplicationsAnswer) : Type 0 where
  pub independent : All (IsIndependentAsDrawn d.read) list
  pub zero : AreZeroAsDrawn d a
  pub no_model : IsRefutedAsDrawn d a

-- ---- evaluate

-- what is answered before counts are read: what has a hedge isn't identifiable, and the formula of a set that breaks the adjustment criterion fails in some
-- model
abbrev pub IsUnevaluatedAsDrawn : Way → Diagram → EvaluateAnswer → Type 0
IsUnevaluatedAsDrawn way d (evaluated.Hedge h) = IsNotIdentifiable d.read (effect_of h)
IsUnevaluatedAsDrawn way d (evaluated.Joint t settled h) = IsJointLost d.read (target_view t) settled h
IsUnevaluatedAsDrawn (by_adjusting false set) d (evaluated.NotAdmissible s fault) = FailsSomewhereAsDrawn (graph_of d.read.graph) (has d.read.latent.bits)
    (effect_on s.x.bits s.y.bits) (adjustment_formula s.x.bits s.y.bits s.given.bits)
IsUnevaluatedAsDrawn (by_adjusting true set) d (evaluated.NotAdmissible s fault) = Unit {0}
IsUnevaluatedAsDrawn (by_procedure short) d (evaluated.NotAdmissible s fault) = Unit {0}
IsUnevaluatedAsDrawn (by_condition short given) d (evaluated.NotAdmissible s fault) = Unit {0}
IsUnevaluatedAsDrawn way d (evaluated.Values a) = Unit {0}

-- The quantity covers P(y | do(x), given) at the cell in the diagram as drawn: in every model of the graph that was read that is positive on the observed
-- vertices and whose observed weights are those of the counts, up to one factor, at each assignment in which the observed vertices have the levels of
-- the cell.
abbrev pub CoversAsDrawn : (Pair → Fraction → Type 0) → ReadGraph → PlainEffect → Table → CellValue → Type 0
CoversAsDrawn covers g e t v = (m : FiniteModel) → Fits (graph_of g.graph) m → IsObservedPositive (has g.latent.bits) m
    → IsMatchedAsDrawn (has g.latent.bits) (is_used t) (weights_in e.graph.vertices t) (total t.rows) m
    → (s : ℕ → ℕ) → IsAssignment m.vertices m.size s → ((k : ℕ) → k < e.graph.vertices → values_after (has g.latent.bits) m.vertices s k ≡ cell_of v.cell k)
    → covers v.quantity (drawn_effect (has g.latent.bits) m (target_of e) s)

-- so does each value, in exact fractions or in bounds
abbrev pub EachCoversAsDrawn : ReadGraph → PlainEffect → Table → Values → Type 0
EachCoversAsDrawn g e t (values.Exact list) = All (CoversAsDrawn Equals g e t) (plain_in exact_numbers list.items)
EachCoversAsDrawn g e t (values.Bounds list) = All (CoversAsDrawn Covers g e t) (plain_in bounds_numbers list.items)

-- those of an answer
abbrev pub AreCoveredAsDrawn : Diagram → PlainEffect → EvaluateAnswer → Type 0
AreCoveredAsDrawn d e (evaluated.Values a) = EachCoversAsDrawn d.read e a.counts a.values
AreCoveredAsDrawn d e a = Unit {0}

-- where a pair is told that the counts break, no model of the diagram as drawn has them
abbrev pub IsBreakAsDrawn : ReadGraph → PlainEffect → Table → Option Implication → Type 0
IsBreakAsDrawn g e t broken = IfSome broken (λ i. HasNoModelAsDrawn (graph_of g.graph) (has g.latent.bits) (is_used t) (weights_in e.graph.vertices t)
    (total t.rows))

-- those of an answer
abbrev pub IsUnmatchedAsDrawn : Diagram → PlainEffect → EvaluateAnswer → Type 0
IsUnmatchedAsDrawn d e (evaluated.Values a) = IsBreakAsDrawn d.read e a.counts a.broken
IsUnmatchedAsDrawn d e a = Unit {0}

-- the formula of the effect is right, the values over counts are so, and so is what is told of a pair that they break
pub record IsEvaluatedAsDrawn (d : Diagram) (e : PlainEffect) (a : EvaluateAnswer) : Type 0 where
  pub formula : IsRightAsDrawn d.read (target_of e) e.formula
  pub values : AreCoveredAsDrawn d e a
  pub no_model : IsUnmatchedAsDrawn d e a

-- ---- evaluate, among the treated

-- The quantity covers P(y under do(x) | x and z as observed) at the cell in the diagram as drawn: in every model of the graph that was read that is positive
-- on the observed vertices and whose observed weights are those of the counts, up to one factor, where the levels of names are values of it.
abbrev pub CoversAmongAsDrawn : (Pair → Fraction → Type 0) → ReadGraph → PlainAmong → Table → CellValue → Type 0
CoversAmongAsDrawn covers g e t v = (m : FiniteModel) → Fits (graph_of g.graph) m → IsObservedPositive (has g.latent.bits) m
    → IsMatchedAsDrawn (has g.latent.bits) (is_used t) (weights_in e.graph.vertices t) (total t.rows) m
    → IsAssignment (drawn_with_primes (has g.latent.bits) m e.asked.sets.x.bits).vertices (drawn_with_primes (has g.latent.bits) m e.asked.sets.x.bits).size
    (cell_of v.cell)
    → covers v.quantity (drawn_among (has g.latent.bits) m e.asked.sets.x.bits e.asked.sets.y.bits e.asked.sets.given.bits (cell_of v.cell))

-- so does each value, in exact fractions or in bounds: values by two levels enclose it alone
abbrev pub EachCoversAmongAsDrawn : ReadGraph → PlainAmong → Table → Values → Type 0
EachCoversAmongAsDrawn g e t values = All (CoversAmongAsDrawn (shown_in (are_exact values) e.reading) g e t) (plain_values values)

-- no model of the graph that was read that is positive on the observed vertices has the counts' observed weights, up to one factor
abbrev pub NoModelHasAsDrawn : ReadGraph → PlainAmong → Table → Type 0
NoModelHasAsDrawn g e t = (m : FiniteModel) → Fits (graph_of g.graph) m → IsObservedPositive (has g.latent.bits) m
    → IsMatchedAsDrawn (has g.latent.bits) (is_used t) (weights_in e.graph.vertices t) (total t.rows) m → ⊥

-- values; or no model has the counts; or two models show that the effect isn't identifiable, as `treated` says of it
abbrev pub AreAmongAsDrawn : Diagram → PlainAmong → AmongAnswer → Type 0
AreAmongAsDrawn d e (among.Values a) = EachCoversAmongAsDrawn d.read e a.counts a.values
AreAmongAsDrawn d e (among.NoModel a) = NoModelHasAsDrawn d.read e a.counts
AreAmongAsDrawn d e (among.Path a) = IsTreatedAsDrawn d a.now

-- ---- evaluate, nested effects

-- The quantity covers P(y[x, m[x']], given z) at the cell in the diagram as drawn: in every model of the graph that was read that is positive on the observed
-- vertices and whose observed weights are those of the counts, up to one factor, where both the first and the second levels are values of it.
abbrev pub CoversNestedAsDrawn : (Pair → Fraction → Type 0) → ReadGraph → PlainNested → Table → CellValue → Type 0
CoversNestedAsDrawn covers g e t v = (m : FiniteModel) → Fits (graph_of g.graph) m → IsObservedPositive (has g.latent.bits) m
    → IsMatchedAsDrawn (has g.latent.bits) (is_used t) (weights_in e.graph.vertices t) (total t.rows) m
    → IsAssignment (drawn_weights (has g.latent.bits) m).vertices (drawn_weights (has g.latent.bits) m).size (cell_of v.cell)
    → IsAssignment (drawn_weights (has g.latent.bits) m).vertices (drawn_weights (has g.latent.bits) m).size (second_levels (paired_in e) v.cell)
    → covers v.quantity (drawn_nested_effect (has g.latent.bits) m e.asked.question.x.bits e.asked.question.through.bits e.asked.question.y.bits
    e.asked.question.given.bits (cell_of v.cell) (second_levels (paired_in e) v.cell))

-- so does each value, in exact fractions or in bounds
abbrev pub EachCoversNestedAsDrawn : ReadGraph → PlainNested → Table → Values → Type 0
EachCoversNestedAsDrawn g e t (values.Exact list) = All (CoversNestedAsDrawn Equals g e t) (plain_in exact_numbers list.items)
EachCoversNestedAsDrawn g e t (values.Bounds list) = All (CoversNestedAsDrawn Covers g e t) (plain_in bounds_numbers list.items)

-- those of an answer
abbrev pub AreNestedAsDrawn : Diagram → PlainNested → NestedAnswer → Type 0
AreNestedAsDrawn d e a = EachCoversNestedAsDrawn d.read e a.counts a.values

-- ---- check

-- the formula of an accepted certificate is right, and the effect of an accepted hedge isn't identifiable, nor is it by the experiments on the sets zs
abbrev pub IsWholeAsDrawn : Diagram → (zs : List ℕ) → WholeAnswer → Type 0
IsWholeAsDrawn d zs (whole.AcceptedFormula a) = IsRightAsDrawn d.read (target_view a.target) (formula_view a.formula)
IsWholeAsDrawn d zs (whole.AcceptedHedge s h over) =
    IsNotIdentifiable d.read (effect_on s.x.bits s.y.bits) × IsNotIdentifiableOver d.read zs (effect_on s.x.bits s.y.bits)
IsWholeAsDrawn d zs a = Unit {0}

-- the same of any certificate: the formula of accepted parts equals the effect among the treated, or the nested effect
abbrev pub IsCheckedAsDrawn : Diagram → (zs : List ℕ) → CheckAnswer → Type 0
IsCheckedAsDrawn d zs (checked.Whole a) = IsWholeAsDrawn d zs a
IsCheckedAsDrawn d zs (checked.Treated a f) = EqualsAmongPartsAsDrawn (graph_of d.read.graph) (has d.read.latent.bits) a.sets.x.bits a.sets.y.bits
    a.sets.given.bits f.summed.bits (parts_view f.parts.items)
IsCheckedAsDrawn d zs (checked.Natural a f) = EqualsNaturalAsDrawn (graph_of d.read.graph) (has d.read.latent.bits) a.question.x.bits
    a.question.through.bits a.question.y.bits a.question.given.bits f.summed.bits (parts_view f.parts.items)
IsCheckedAsDrawn d zs a = Unit {0}

-- ---- steps

-- what is so of the answer on a certificate of which this one tells
abbrev pub IsSteppedAsDrawn : Diagram → (zs : List ℕ) → StepsAnswer → Type 0
IsSteppedAsDrawn d zs a = IsWholeAsDrawn d zs (checked_of a)

-- ---- bounds

-- an end of the bounds of a question bounds P(y | do(x), given) at the cell in the diagram as drawn: in every model of the graph that was read, positive
-- or not, whose observed weights are those of the counts, up to one factor, wherever the observed vertices have the levels of the cell
abbrev pub EndHoldsAsDrawn : End → Diagram → Question → Table → (cell : List ℕ) → Value → Type 0
EndHoldsAsDrawn end d q t cell v = BoundsAsDrawn end (graph_of d.read.graph) (has d.read.latent.bits) (has q.x.bits) (has q.y.bits) (has q.given.bits)
    (is_used t) (weights_in d.observed.graph.n t) (total t.rows) (cell_of cell) (number_of v)

-- both ends do
pub record EnclosesAsDrawn (d : Diagram) (q : Question) (t : Table) (b : CellBounds) : Type 0 where
  pub at_least : EndHoldsAsDrawn AtLeast d q t b.cell b.at_least
  pub at_most : EndHoldsAsDrawn AtMost d q t b.cell b.at_most

-- so do all bounds that are found; and where bounds cross, no model of the diagram as drawn has the counts
abbrev pub IsFoundAsDrawn : Diagram → Question → Table → Found → Type 0
IsFoundAsDrawn d q t (Bounded bounds) = All (EnclosesAsDrawn d q t) bounds.items
IsFoundAsDrawn d q t (Crossed c) = HasNoModelAsDrawn (graph_of d.read.graph) (has d.read.latent.bits) (is_used t) (weights_in d.observed.graph.n t)
    (total t.rows)

-- those of an answer
abbrev pub IsBoundedAsDrawn : Diagram → Question → BoundsAnswer → Type 0
IsBoundedAsDrawn d q a = IsFoundAsDrawn d q a.counts a.found
