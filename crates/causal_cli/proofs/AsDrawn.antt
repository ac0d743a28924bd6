-- What right answers say of the diagram as drawn.
use Rattle.std.proofs.Common.{◌≡◌, ℕ, Bool, true, false, List, [], ◌∷◌, Option, Some, None, option_map, Ok, refl, sym, ap, subst, ◌∙◌}
use Rattle.std.specs.Prelude.{IsSome, IfSome, All}
use Rattle.std.proofs.lemmas.Bool.{false≢true}
use Rattle.std.proofs.lemmas.Option.{none-some, same_Some}
use Rattle.std.proofs.lemmas.List.Elements.{All-weaker}
use Rattle.mixed_graph.specs.declared.sets.VSet.{VSet}
use Rattle.mixed_graph.specs.Vocabulary.{has, MixedGraph, union, graph_of}
use Rattle.mixed_graph.proofs.MaskLaws.{has_join}
use Rattle.finite_models.specs.Vocabulary.{meaning}
use Rattle.do_rules.specs.declared.rules.Rule.{Rule}
use Rattle.do_rules.specs.Vocabulary.{AreThreeSets, AreIndependent, left_of, right_of}
use Rattle.prob_expr.specs.Vocabulary.{DifferOnTarget, AgreeUnderAll, masks_of, PlainFormula, PlainTarget, effect_on, EqualsEffect, target_view, formula_view}
use Rattle.counter_models.specs.declared.counter_pair.CounterPair.{CounterPair}
use Rattle.counter_models.specs.Vocabulary.{AreCounterModels}
use Rattle.counter_models.proofs.Excluded.{differ_on}
use Rattle.dag_reader.specs.declared.graph.ReadGraph.{ReadGraph}
use Rattle.hidden_models.proofs.Drawn.{right_as_drawn, matched_folded}
use Rattle.hidden_models.proofs.Folded.{each_has_folded}
use Rattle.hidden_models.proofs.Drawing.{difference_is_drawn, difference_over_is_drawn, formula_as_drawn_fixes, formula_failure_is_drawn}
use Rattle.hidden_models.proofs.Statements.{independence_is_drawn, equation_is_drawn, dependence_is_drawn, failure_is_drawn}
use Rattle.adjustment.specs.Vocabulary.{IsAdmissible, adjustment_formula}
use Rattle.adjustment.proofs.Exceeding.{Exceeds, exceeds_fails}
use Rattle.adjustment.proofs.FaultWalks.{forbidden_exceeds, unblocked_exceeds}
use Rattle.diagram.specs.declared.diagram.Diagram.{Diagram}
use Rattle.diagram.specs.Vocabulary.{IsObservedGraph, Names, effect_lists, query_lists}
use Rattle.diagram.proofs.ObservedParts.{part_of}
use Rattle.diagram.proofs.OneObserved.{observed_is_mixed}
use Rattle.hedge.specs.declared.hedge.Hedge.{Hedge}
use Rattle.hidden_models.specs.Vocabulary.{FailsSomewhereAsDrawn}
use Rattle.count_rows.specs.Vocabulary.{Table}
use Rattle.count_table.specs.Vocabulary.{total}
use Rattle.count_eval.specs.Vocabulary.{weights_in, is_used}
use Rattle.natural_bounds.specs.Vocabulary.{HasNoModel, HasNoModelAsDrawn}
use Rattle.natural_bounds.proofs.Drawn.{no_model_is_as_drawn}
use Rattle.implications.specs.declared.pairs.Implication.{Implication}
use Rattle.implications.specs.Vocabulary.{only}
use Rattle.implied_differences.specs.Vocabulary.{IsZeroIfMatched}
use Rattle.implied_differences.specs.declared.largest.Difference.{Difference}
use Rattle.command_words.specs.Vocabulary.{Text}
use Rattle.surrogates.specs.declared.answer.CommonHedge.{CommonHedge}
use Rattle.surrogates.specs.Vocabulary.{IsRightBlock}
use Rattle.targets.specs.declared.query.Sets.{Sets}
use Rattle.targets.specs.declared.query.RuleSets.{RuleSets}
use Rattle.targets.specs.Vocabulary.{EffectLists, Lists}
use Rattle.experiment_lists.specs.Vocabulary.{Lists as Experiments}
use Rattle.effect_answers.specs.declared.hedges.EffectHedge.{EffectHedge}
use Rattle.effect_answers.specs.Vocabulary.{effect_of, IsEffectHedge}
use Rattle.identify_command.specs.declared.answer.Answer.{Answer as IdentifyAnswer}
use Rattle.identify_command.specs.Vocabulary.{IsJointHedge, IsForEffect, IsForTarget, IsAnswerFor, IsIdentifyAnswer, asked_of}
use Rattle.identify_command.specs.declared.answer.Answer.TheVariants as identified
use Rattle.adjust_command.specs.Queries.{Query}
use Rattle.adjust_command.specs.declared.criteria.Verdict.TheVariants.{Meets}
use Rattle.adjust_command.specs.declared.answer.Answer.{Answer as AdjustAnswer}
use Rattle.adjust_command.specs.Vocabulary.{by_set, by_back_door, listing, Decides, IsAdjustAnswer, IsVerdict}
use Rattle.adjust_command.specs.declared.answer.Answer.TheVariants as adjusted
use Rattle.surrogate_command.specs.Right as surrogate_right
use Rattle.surrogate_command.specs.declared.answer.Answer.{Answer as SurrogateAnswer}
use Rattle.surrogate_command.specs.declared.sets.SurrogateSets.{SurrogateSets}
use Rattle.surrogate_command.specs.Vocabulary.{IsStop, IsSurrogateAnswer, stop_shown}
use Rattle.surrogate_command.specs.declared.answer.Answer.TheVariants as surrogated
use Rattle.treated_id.specs.Vocabulary.{AreBefore, IsTreatedTarget}
use Rattle.treated_drawn.specs.Vocabulary.{EqualsAmongAsDrawn, IsLostAmongAsDrawn, IsUnfixedAmongAsDrawn, IsAsked}
use Rattle.treated_drawn.proofs.Among.{right_among_is_drawn, joint_lost_is_drawn}
use Rattle.treated_drawn.proofs.Differing.{differing_is_drawn}
use Rattle.treated_command.specs.Right as treated_right
use Rattle.treated_command.specs.declared.answer.Answer.{Answer as TreatedAnswer}
use Rattle.treated_command.specs.Vocabulary.{IsTreatedAnswer}
use Rattle.treated_command.specs.declared.answer.Answer.TheVariants as treated
use Rattle.treated_command.proofs.Sets.{three_sets, target_of, turned}
use Rattle.separation_commands.specs.SeparateRight as separate_right
use Rattle.separation_commands.specs.Vocabulary.{IsSeparateAnswer, IsRuleAnswer}
use Rattle.separation_commands.specs.declared.separate.answer.Answer.{Answer as SeparateAnswer}
use Rattle.separation_commands.specs.declared.separate.answer.Answer.TheVariants as separated
use Rattle.separation_commands.specs.RuleRight as rule_right
use Rattle.separation_commands.specs.declared.rule.answer.Answer.{Answer as RuleAnswer}
use Rattle.separation_commands.specs.declared.rule.answer.Answer.TheVariants as ruled
use Rattle.implications_command.specs.declared.differences.Measured.{Measured}
use Rattle.implications_command.specs.declared.answer.Answer.{Answer as ImplicationsAnswer}
use Rattle.implications_command.specs.Vocabulary.{ArePairs, pairs_in, first_broken, IsForGraph, IsForCounts}
use Rattle.implications_command.specs.declared.answer.Answer.TheVariants as implied
use Rattle.certificate.specs.declared.values.PartCertificate.{PartCertificate}
use Rattle.certificate.specs.Vocabulary.{formula, PlainPartCertificate, part_certificate_view}
use Rattle.certificate_json.specs.Vocabulary.{parts_of}
use Rattle.parts_drawn.specs.Vocabulary.{EqualsAmongPartsAsDrawn, MakeUpAmongAsDrawn}
use Rattle.parts_drawn.proofs.Accepted.{accepted_among_make_up}
use Rattle.parts_drawn.proofs.Formulas.{treated_parts_are_drawn}
use Rattle.derived_parts.specs.Vocabulary.{PlainDerivedPart}
use Rattle.part_checks.specs.declared.answers.TreatedFormula.{TreatedFormula}
use Rattle.treated_command.specs.declared.answer.Asked.{Asked as AskedAmong}
use Rattle.natural_command.specs.declared.answer.Asked.{Asked as AskedNested}
use Rattle.natural_command.specs.declared.asking.Question.{Question}
use Rattle.natural_id.specs.declared.answers.NaturalFormula.{NaturalFormula}
use Rattle.natural_id.specs.Vocabulary.{parts_view}
use Rattle.natural_drawn.specs.Vocabulary.{EqualsNaturalAsDrawn}
use Rattle.natural_drawn.proofs.Formulas.{right_parts_are_drawn}
use Rattle.do_derivation.specs.declared.steps.Derivation.{Derivation}
use Rattle.do_derivation.specs.Vocabulary.{PlainDerivation, derivation_view}
use Rattle.evaluate_command.specs.declared.answer.Answer.{Answer as EvaluateAnswer}
use Rattle.evaluate_command.specs.Vocabulary.{IsForDiagram, by_procedure, by_adjusting, by_condition}
use Rattle.evaluate_command.specs.Ways.{Way}
use Rattle.evaluate_command.specs.declared.answer.Answer.TheVariants as evaluated
use Rattle.check_command.specs.declared.answer.Answer.{Answer as WholeAnswer}
use Rattle.check_command.specs.Vocabulary.{IsForText, of_formula, of_hedge}
use Rattle.check_command.specs.declared.answer.Answer.TheVariants as whole
use Rattle.part_check_command.specs.Right.{IsAcceptedAmong, IsAcceptedNested}
use Rattle.part_check_command.specs.declared.answer.Answer.{Answer as CheckAnswer}
use Rattle.part_check_command.specs.declared.answer.Answer.TheVariants as checked
use Rattle.part_check_command.specs.Vocabulary.{IsForCertificate}
use Rattle.causal_cli.specs.AsDrawn.{IsTreatedAsDrawn, IsUnevaluatedAsDrawn, IsCheckedAsDrawn, IsWholeAsDrawn}
use Rattle.causal_cli.specs.AsDrawn.{IsRightAsDrawn, IsNotIdentifiable, IsNotIdentifiableOver, IsJointLost, IdentifiesAsDrawn, AdjustsAsDrawn}
use Rattle.causal_cli.specs.AsDrawn.{IsAdjustedAsDrawn, IsSurrogateAsDrawn, IsSeparatedAsDrawn, IsRuledAsDrawn, IsIndependentAsDrawn, IsZeroAsDrawn}
use Rattle.causal_cli.specs.AsDrawn.{ArePairsAsDrawn, AreZeroAsDrawn, IsRefutedAsDrawn, AreDifferencesAsDrawn}
use Rattle.causal_cli.proofs.TwoModels.{two_models}

-- the observed graph of a diagram is that of the graph that was read
observed : (d : Diagram) → IsObservedGraph d.read (graph_of d.observed.graph)
observed d = (part_of d).graph

-- what equals an effect in the observed graph is right in the diagram as drawn
pub drawn : (g : ReadGraph) (q : MixedGraph) → IsObservedGraph g q → (t : PlainTarget) (f : PlainFormula) → EqualsEffect q t f → IsRightAsDrawn g t f
drawn g q observed t f right = right_as_drawn (graph_of g.graph) g.graph.valid (has g.latent.bits) q observed t f right

-- two models that show an effect not to be identifiable in the observed graph show it of any target on which they differ, in the diagram as drawn
pub not_identifiable : (g : ReadGraph) (q : MixedGraph) → IsObservedGraph g q → (x y : ℕ) (pair : CounterPair) → AreCounterModels q x y pair
    → (t : PlainTarget) → DifferOnTarget (meaning q pair.first) (meaning q pair.second) t → IsNotIdentifiable g t
not_identifiable g q observed x y pair m t differ =
    difference_is_drawn (graph_of g.graph) g.graph.valid (has g.latent.bits) q observed (meaning q pair.first) (meaning q pair.second)
    m.first.fits m.second.fits m.two.0 m.two.1 m.first.positive m.second.positive m.observed t differ

-- the effect itself is one
pub effect_lost : (g : ReadGraph) (q : MixedGraph) → IsObservedGraph g q → (x y : ℕ) (pair : CounterPair) → AreCounterModels q x y pair
    → IsNotIdentifiable g (effect_on x y)
effect_lost g q observed x y pair m =
    not_identifiable g q observed x y pair m (effect_on x y) (differ_on q (observed_is_mixed g q observed) x y pair m)

-- where they agree under experiments too, it isn't identifiable by these either
pub effect_lost_over : (g : ReadGraph) (q : MixedGraph) → IsObservedGraph g q → (x y : ℕ) (pair : CounterPair) → AreCounterModels q x y pair
    → (zs : List ℕ) → AgreeUnderAll zs (meaning q pair.first) (meaning q pair.second) → IsNotIdentifiableOver g zs (effect_on x y)
effect_lost_over g q observed x y pair m zs under =
    difference_over_is_drawn (graph_of g.graph) g.graph.valid (has g.latent.bits) q observed (meaning q pair.first) (meaning q pair.second)
    m.first.fits m.second.fits m.two.0 m.two.1 m.first.positive m.second.positive m.observed zs under (effect_on x y)
    (differ_on q (observed_is_mixed g q observed) x y pair m)

-- ---- identify

-- a formula for a target
formula_drawn : (d : Diagram) (t u : PlainTarget) (f : PlainFormula) → u ≡ t → EqualsEffect (graph_of d.observed.graph) t f → IsRightAsDrawn d.read u f
formula_drawn d t u f e right = subst (λ (v : PlainTarget). IsRightAsDrawn d.read v f) (sym e) (drawn d.read (graph_of d.observed.graph) (observed d) t f right)

-- a hedge with its models
hedge_drawn : (d : Diagram) (a : EffectHedge) → IsEffectHedge (graph_of d.observed.graph) a → IsNotIdentifiable d.read (effect_of a)
hedge_drawn d a h = effect_lost d.read (graph_of d.observed.graph) (observed d) a.sets.x.bits a.sets.y.bits a.pair h.found.right.counter

-- one for the joint effect into which a target turns
joint_drawn : (d : Diagram) (t : PlainTarget) (settled : Bool) (a : EffectHedge) → IsJointHedge (graph_of d.observed.graph) t settled a
    → IsJointLost d.read t settled a
joint_drawn d t settled a h =
    let g = d.read in
    let q = graph_of d.observed.graph in
    let m = h.models in
    record {
      joint = hedge_drawn d a h.hedge;
      models = two_models g q (observed d) t m;
      no_formula = λ f free equal. m.differ.unequal (formula_as_drawn_fixes (graph_of g.graph) g.graph.valid (has g.latent.bits)
          q (observed d) t f free equal m.first m.second m.first_fits m.second_fits m.first_two m.second_two m.first_positive m.second_positive
          m.observed m.differ.at m.differ.within);
      differs = λ is. not_identifiable g q (observed d) a.sets.x.bits a.sets.y.bits a.pair h.hedge.found.right.counter t (h.differs is);
    }

-- a right answer of `identify`
pub identifies : (short certified : Bool) (x y given : Names) (d : Diagram) (a : IdentifyAnswer) → IsIdentifyAnswer short certified d x y given (Ok a)
    → IdentifiesAsDrawn d a
identifies short certified x y given d a h = go given h
  where
    q : MixedGraph
    q = graph_of d.observed.graph

    of_effect : (l : EffectLists) (a : IdentifyAnswer) → IsForEffect short certified q l a → IdentifiesAsDrawn d a
    of_effect l (identified.Formula f) h = formula_drawn d (effect_on h.sets.x.bits h.sets.y.bits) (target_view f.target) (formula_view f.formula)
        h.decided.target h.decided.right.effect
    of_effect l (identified.Hedge k) h = hedge_drawn d k h.decided.1
    of_effect l (identified.Joint t settled k) h = absurd h.decided

    of_target : (l : Lists) (a : IdentifyAnswer) → IsForTarget short certified q l a → IdentifiesAsDrawn d a
    of_target l (identified.Formula f) h = formula_drawn d h.target (target_view f.target) (formula_view f.formula) h.decided.target h.decided.right.effect
    of_target l (identified.Hedge k) h = absurd h.decided
    of_target l (identified.Joint t settled k) h =
        subst (λ (u : PlainTarget). IsJointLost d.read u settled k) (sym h.decided.0) (joint_drawn d h.target settled k h.decided.1)

    go : (given : Names) → IsAnswerFor short certified q (asked_of d x y given) a → IdentifiesAsDrawn d a
    go None h = of_effect (effect_lists d.read d.observed.names x y) a h
    go (Some []) h = of_effect (effect_lists d.read d.observed.names x y) a h
    go (Some (n ∷ ns)) h = of_target (query_lists d.read d.observed.names x y (Some (n ∷ ns))) a h

-- ---- adjust

-- a set whose formula is the effect in the diagram as drawn is admissible
admissible_as_drawn : (g : ReadGraph) (q : MixedGraph) → IsObservedGraph g q → (x y z : ℕ) → AreThreeSets q.vertices (has x) (has y) (has z)
    → AdjustsAsDrawn g x y z → IsAdmissible q (has x) (has y) (has z)
admissible_as_drawn g q observed x y z sets right =
    let ok = observed_is_mixed g q observed in
    let breaks = λ (d : Exceeds q (has x) (has y) (has z)).
    let u = formula_failure_is_drawn (graph_of g.graph) g.graph.valid (has g.latent.bits) q observed (effect_on x y) (adjustment_formula x y z)
    (exceeds_fails q ok x y z d) in
    u.unequal (right u.model u.fits u.positive u.at u.within) in
    record {
      clear = λ v inside f. breaks (forbidden_exceeds q ok (has x) (has y) (has z) sets v inside f);
      blocked = λ v r p not_causal o. breaks (unblocked_exceeds q ok (has x) (has y) (has z) sets v r p not_causal o);
    }

-- a set that meets a criterion, or doesn't
judged : (back_door : Bool) (d : Diagram) (s of : Sets) → of ≡ s → IsVerdict back_door (graph_of d.observed.graph) s.x.bits s.y.bits s.given.bits Meets
    → AdjustsAsDrawn d.read of.x.bits of.y.bits of.given.bits
judged false d s of e h = subst (λ (t : Sets). AdjustsAsDrawn d.read t.x.bits t.y.bits t.given.bits) (sym e)
    (drawn d.read (graph_of d.observed.graph) (observed d) (effect_on s.x.bits s.y.bits) (adjustment_formula s.x.bits s.y.bits s.given.bits) h.1)
judged true d s of e (v, one, set, effect) = subst (λ (t : Sets). AdjustsAsDrawn d.read t.x.bits t.y.bits t.given.bits) (sym e)
    (drawn d.read (graph_of d.observed.graph) (observed d) (effect_on s.x.bits s.y.bits) (adjustment_formula s.x.bits s.y.bits s.given.bits) effect)

-- the answer for sets
adjusts_sets : (query : Query) (d : Diagram) (s : Sets) (a : AdjustAnswer) → Decides query (graph_of d.observed.graph) s a → IsAdjustedAsDrawn query d a
adjusts_sets (by_set set) d s (adjusted.Admissible of) h = judged false d s of h.0 h.1
adjusts_sets (by_set set) d s (adjusted.NotAdmissible of fault) h =
    subst (λ (t : Sets). FailsSomewhereAsDrawn (graph_of d.read.graph) (has d.read.latent.bits) (effect_on t.x.bits t.y.bits)
    (adjustment_formula t.x.bits t.y.bits t.given.bits)) (sym h.0)
    (formula_failure_is_drawn (graph_of d.read.graph) d.read.graph.valid (has d.read.latent.bits) (graph_of d.observed.graph) (observed d)
    (effect_on s.x.bits s.y.bits) (adjustment_formula s.x.bits s.y.bits s.given.bits) h.1.1)
adjusts_sets (by_set set) d s (adjusted.Listed of sets more) h = absurd h
adjusts_sets (by_set set) d s (adjusted.NoSet of) h = absurd h
adjusts_sets (by_back_door set) d s (adjusted.Admissible of) h = judged true d s of h.0 h.1
adjusts_sets (by_back_door set) d s (adjusted.NotAdmissible of fault) h = tt
adjusts_sets (by_back_door set) d s (adjusted.Listed of sets more) h = absurd h
adjusts_sets (by_back_door set) d s (adjusted.NoSet of) h = absurd h
adjusts_sets (listing most) d s (adjusted.Admissible of) h = absurd h
adjusts_sets (listing most) d s (adjusted.NotAdmissible of fault) h = absurd h
adjusts_sets (listing most) d s (adjusted.Listed of sets more) h =
    subst (λ (t : Sets). All (λ (z : VSet). AdjustsAsDrawn d.read t.x.bits t.y.bits z.bits) sets.items) (sym h.0)
    (All-weaker (λ (z : VSet). EqualsEffect (graph_of d.observed.graph) (effect_on s.x.bits s.y.bits) (adjustment_formula s.x.bits s.y.bits z.bits))
    (λ (z : VSet). AdjustsAsDrawn d.read s.x.bits s.y.bits z.bits)
    (λ z e. drawn d.read (graph_of d.observed.graph) (observed d) (effect_on s.x.bits s.y.bits) (adjustment_formula s.x.bits s.y.bits z.bits) e)
    sets.items h.1.effect)
adjusts_sets (listing most) d s (adjusted.NoSet of) h =
    subst (λ (t : Sets). (z : ℕ) → AreThreeSets d.observed.graph.n (has t.x.bits) (has t.y.bits) (has z)
    → AdjustsAsDrawn d.read t.x.bits t.y.bits z → ⊥) (sym h.0)
    (λ z three right. h.1.none (has z) three
    (admissible_as_drawn d.read (graph_of d.observed.graph) (observed d) s.x.bits s.y.bits z three right))

-- a right answer of `adjust`
pub adjusts : (query : Query) (x y : Names) (d : Diagram) (a : AdjustAnswer) → IsAdjustAnswer d x y query (Ok a) → IsAdjustedAsDrawn query d a
adjusts query x y d a h = adjusts_sets query d h.sets a h.decided

-- ---- surrogate

common_lost : (g : ReadGraph) (q : MixedGraph) → IsObservedGraph g q → (zs : List ℕ) (x y : ℕ) (common : Option CommonHedge)
    → IfSome common (λ k. IsRightBlock q zs x y k.hedge k.pair) → IsSome common → IsNotIdentifiableOver g zs (effect_on x y)
common_lost g q observed zs x y None right some = absurd (cc some)
common_lost g q observed zs x y (Some k) right some = effect_lost_over g q observed x y k.pair right.hedge.counter zs right.under

-- the sets of an answer, and whether it shows a common hedge
abbrev sets_of : SurrogateAnswer → SurrogateSets
sets_of (surrogated.Formula s f) = s
sets_of (surrogated.Unfound s district h) = s
sets_of (surrogated.Blocked s district h) = s

abbrev is_blocked : SurrogateAnswer → Bool
is_blocked (surrogated.Formula s f) = false
is_blocked (surrogated.Unfound s district h) = false
is_blocked (surrogated.Blocked s district h) = true

-- what is shown of a stop has its sets
stop_sets : (wanted : Bool) (s : SurrogateSets) (district : VSet) (h : Hedge) (common : Option CommonHedge)
    → sets_of (stop_shown wanted s district h common) ≡ s
stop_sets wanted s district h None = refl
stop_sets false s district h (Some k) = refl
stop_sets true s district h (Some k) = refl

-- and a common hedge only where there is one
blocked_some : (wanted : Bool) (s : SurrogateSets) (district : VSet) (h : Hedge) (common : Option CommonHedge)
    → is_blocked (stop_shown wanted s district h common) ≡ true → IsSome common
blocked_some wanted s district h None e = absurd (false≢true e)
blocked_some wanted s district h (Some k) e = refl

-- where the procedure stops the effect isn't identifiable
stop_lost : (wanted : Bool) (d : Diagram) (s : SurrogateSets) (a : SurrogateAnswer) → IsStop wanted (graph_of d.observed.graph) s a
    → IsNotIdentifiable d.read (effect_on s.x.bits s.y.bits)
stop_lost wanted d s a h = effect_lost d.read (graph_of d.observed.graph) (observed d) s.x.bits s.y.bits h.pair h.right.counter

-- nor by the experiments, where there is a common hedge
stop_lost_over : (wanted : Bool) (d : Diagram) (s : SurrogateSets) (a : SurrogateAnswer) (h : IsStop wanted (graph_of d.observed.graph) s a)
    → IsSome h.common → IsNotIdentifiableOver d.read (masks_of s.experiments.items) (effect_on s.x.bits s.y.bits)
stop_lost_over wanted d s a h some = common_lost d.read (graph_of d.observed.graph) (observed d) (masks_of s.experiments.items) s.x.bits s.y.bits h.common
    h.blocked some

-- a stop of either kind is so of the sets that it shows
unfound_drawn : (wanted : Bool) (d : Diagram) (s u : SurrogateSets) (district : VSet) (k : Hedge)
    → IsStop wanted (graph_of d.observed.graph) s (surrogated.Unfound u district k) → IsSurrogateAsDrawn d (surrogated.Unfound u district k)
unfound_drawn wanted d s u district k h =
    subst (λ (v : SurrogateSets). IsSurrogateAsDrawn d (surrogated.Unfound v district k))
    (sym (ap sets_of h.is ∙ stop_sets wanted s h.district h.hedge h.common)) (
      stop_lost wanted d s (surrogated.Unfound u district k) h,
      λ together. stop_lost_over wanted d s (surrogated.Unfound u district k) h (h.exact.1 together),
    )

blocked_drawn : (wanted : Bool) (d : Diagram) (s u : SurrogateSets) (district : VSet) (k : EffectHedge)
    → IsStop wanted (graph_of d.observed.graph) s (surrogated.Blocked u district k) → IsSurrogateAsDrawn d (surrogated.Blocked u district k)
blocked_drawn wanted d s u district k h =
    subst (λ (v : SurrogateSets). IsSurrogateAsDrawn d (surrogated.Blocked v district k))
    (sym (ap sets_of h.is ∙ stop_sets wanted s h.district h.hedge h.common)) (
      stop_lost wanted d s (surrogated.Blocked u district k) h,
      stop_lost_over wanted d s (surrogated.Blocked u district k) h
          (blocked_some wanted s h.district h.hedge h.common (sym (ap is_blocked h.is))),
    )

surrogates_sets : (wanted : Bool) (d : Diagram) (s : SurrogateSets) (a : SurrogateAnswer) → surrogate_right.Decides wanted (graph_of d.observed.graph) s a
    → IsSurrogateAsDrawn d a
surrogates_sets wanted d s (surrogated.Formula u f) h =
    subst (λ (v : SurrogateSets). IsSurrogateAsDrawn d (surrogated.Formula v f)) (sym h.0)
    (drawn d.read (graph_of d.observed.graph) (observed d) (effect_on s.x.bits s.y.bits) (formula_view f.formula) h.1.right.effect)
surrogates_sets wanted d s (surrogated.Unfound u district k) h = unfound_drawn wanted d s u district k h
surrogates_sets wanted d s (surrogated.Blocked u district k) h = blocked_drawn wanted d s u district k h

-- a right answer of `surrogate`
pub surrogates : (wanted : Bool) (x y : Names) (experiments : Experiments) (d : Diagram) (a : SurrogateAnswer)
    → IsSurrogateAnswer wanted d x y experiments (Ok a) → IsSurrogateAsDrawn d a
surrogates wanted x y experiments d a h = surrogates_sets wanted d h.sets a h.decided

-- ---- treated

-- the sets of an effect among the treated
asked_of_sets : (q : MixedGraph) (x y z : ℕ) → AreThreeSets q.vertices (has x) (has y) (has z) → AreBefore q x z → IsAsked q x y z
asked_of_sets q x y z sets before = record {
  x_low = sets.x_within;
  z_low = sets.w_within;
  y_off_x = λ v e. turned (has x v) (has y v) e (sets.x_y v);
  y_off_z = λ v e. sets.y_w v e;
  z_off_x = λ v e. turned (has x v) (has z v) e (sets.x_w v);
  before = λ p v path end inside leads member.
      before end (has_join x z end ∙ member) (record { start = p; next = v; path = path; inside = inside; leads = leads });
}

-- the parts of a certificate
certified_drawn : (d : Diagram) (s : Sets) (c : PartCertificate) → IsTreatedTarget (graph_of d.observed.graph) s.x.bits s.y.bits s.given.bits
    → treated_right.IsCertifiedFor (graph_of d.observed.graph) s c
    → MakeUpAmongAsDrawn (graph_of d.read.graph) (has d.read.latent.bits) (graph_of d.observed.graph) s.x.bits s.y.bits s.given.bits
    (parts_of (part_certificate_view c))
certified_drawn d s c target h =
    subst (λ (k : PlainPartCertificate). MakeUpAmongAsDrawn (graph_of d.read.graph) (has d.read.latent.bits) (graph_of d.observed.graph) s.x.bits s.y.bits
    s.given.bits (parts_of k)) (sym h.certificate.is)
    (accepted_among_make_up (graph_of d.read.graph) d.read.graph.valid (has d.read.latent.bits) (graph_of d.observed.graph) (observed d)
    s.x.bits s.y.bits s.given.bits target h.clear h.certificate.parts h.certificate.accepted)

treats_sets : (certified : Bool) (d : Diagram) (s : Sets) (a : TreatedAnswer) → IsAsked (graph_of d.observed.graph) s.x.bits s.y.bits s.given.bits
    → IsTreatedTarget (graph_of d.observed.graph) s.x.bits s.y.bits s.given.bits → treated_right.Decides certified (graph_of d.observed.graph) s a
    → IsTreatedAsDrawn d a
treats_sets true d s (treated.Formula a f) asked target h = absurd h
treats_sets false d s (treated.Certified a c) asked target h = absurd h
treats_sets true d s (treated.Certified a c) asked target h =
    subst (λ (t : Sets). MakeUpAmongAsDrawn (graph_of d.read.graph) (has d.read.latent.bits) (graph_of d.observed.graph) t.x.bits t.y.bits t.given.bits
    (parts_of (part_certificate_view c))) (sym h.0.sets) (certified_drawn d s c target h.1)
treats_sets false d s (treated.Formula a f) asked target h =
    subst (λ (t : Sets). EqualsAmongAsDrawn (graph_of d.read.graph) (has d.read.latent.bits) t.x.bits t.y.bits t.given.bits (formula_view f)) (sym h.0.sets)
    (right_among_is_drawn (graph_of d.read.graph) d.read.graph.valid (has d.read.latent.bits) (graph_of d.observed.graph) (observed d)
    s.x.bits s.y.bits s.given.bits (formula_view f) h.1.observed h.1.equals)
treats_sets certified d s (treated.Excluded a c k pair) asked target h =
    subst (λ (t : Sets). IsLostAmongAsDrawn (graph_of d.read.graph) (has d.read.latent.bits) d.observed.graph.n t.x.bits t.y.bits t.given.bits)
    (sym h.0.sets)
    (joint_lost_is_drawn (graph_of d.read.graph) d.read.graph.valid (has d.read.latent.bits) (graph_of d.observed.graph) (observed d)
    s.x.bits s.y.bits s.given.bits asked
    (effect_lost d.read (graph_of d.observed.graph) (observed d) s.x.bits (union s.y.bits s.given.bits) pair h.1.found.right.counter))
treats_sets certified d s (treated.Unfixed a c) asked target h =
    subst (λ (t : Sets). IsUnfixedAmongAsDrawn (graph_of d.read.graph) (has d.read.latent.bits) d.observed.graph.n t.x.bits t.y.bits t.given.bits)
    (sym h.0.sets)
    (differing_is_drawn (graph_of d.read.graph) d.read.graph.valid (has d.read.latent.bits) (graph_of d.observed.graph) (observed d)
    s.x.bits s.y.bits s.given.bits asked.x_low h.1.differ)

-- a right answer of `treated`
pub treats : (certified : Bool) (x y : Names) (given : List (List ℕ)) (d : Diagram) (a : TreatedAnswer) → IsTreatedAnswer certified d x y given (Ok a)
    → IsTreatedAsDrawn d a
treats certified x y given d a h =
    let sets = three_sets (query_lists d.read d.observed.names x y (Some given)) d.observed.graph.n h.sets.x.bits h.sets.y.bits h.sets.given.bits
    d.observed.sized h.named in
    treats_sets certified d h.sets a (asked_of_sets (graph_of d.observed.graph) h.sets.x.bits h.sets.y.bits h.sets.given.bits sets h.is.before)
    (target_of (graph_of d.observed.graph) h.sets.x.bits h.sets.y.bits h.sets.given.bits sets h.is.before) h.is.decided

-- ---- separate and rule

separates_sets : (d : Diagram) (s : Sets) (a : SeparateAnswer) → separate_right.Decides (graph_of d.observed.graph) s a → IsSeparatedAsDrawn d a
separates_sets d s (separated.Separated of) h =
    subst (λ (t : Sets). IsSeparatedAsDrawn d (separated.Separated t)) (sym h.0)
    (independence_is_drawn (graph_of d.read.graph) d.read.graph.valid (has d.read.latent.bits) (graph_of d.observed.graph) (observed d)
    (has s.x.bits) (has s.y.bits) (has s.given.bits) h.1.independent)
separates_sets d s (separated.Connected of path) h =
    subst (λ (t : Sets). IsSeparatedAsDrawn d (separated.Connected t path)) (sym h.0)
    (dependence_is_drawn (graph_of d.read.graph) d.read.graph.valid (has d.read.latent.bits) (graph_of d.observed.graph) (observed d)
    (has s.x.bits) (has s.y.bits) (has s.given.bits) h.1.dependent)

-- a right answer of `separate`
pub separates : (x y given : Names) (d : Diagram) (a : SeparateAnswer) → IsSeparateAnswer d x y given (Ok a) → IsSeparatedAsDrawn d a
separates x y given d a h = separates_sets d h.sets a h.decided

rules_sets : (r : Rule) (d : Diagram) (s : RuleSets) (a : RuleAnswer) → rule_right.Decides r (graph_of d.observed.graph) s a → IsRuledAsDrawn d a
rules_sets r d s (ruled.Holds rule of cut) h =
    subst (λ (k : Rule). IsRuledAsDrawn d (ruled.Holds k of cut)) (sym h.0.0)
    (subst (λ (t : RuleSets). IsRuledAsDrawn d (ruled.Holds r t cut)) (sym h.0.1)
    (equation_is_drawn (graph_of d.read.graph) d.read.graph.valid (has d.read.latent.bits) (graph_of d.observed.graph) (observed d)
    (left_of r (has s.x.bits) (has s.y.bits) (has s.z.bits) (has s.given.bits)) (right_of r (has s.x.bits) (has s.y.bits) (has s.z.bits) (has s.given.bits))
    h.1.equation))
rules_sets r d s (ruled.Fails rule of cut path) h =
    subst (λ (k : Rule). IsRuledAsDrawn d (ruled.Fails k of cut path)) (sym h.0.0)
    (subst (λ (t : RuleSets). IsRuledAsDrawn d (ruled.Fails r t cut path)) (sym h.0.1)
    (failure_is_drawn (graph_of d.read.graph) d.read.graph.valid (has d.read.latent.bits) (graph_of d.observed.graph) (observed d)
    (left_of r (has s.x.bits) (has s.y.bits) (has s.z.bits) (has s.given.bits)) (right_of r (has s.x.bits) (has s.y.bits) (has s.z.bits) (has s.given.bits))
    h.1.fails))

-- a right answer of `rule`
pub rules : (r : Rule) (y x z given : List (List ℕ)) (d : Diagram) (a : RuleAnswer) → IsRuleAnswer r d y x z given (Ok a) → IsRuledAsDrawn d a
rules r y x z given d a h = rules_sets r d h.sets a h.decided

-- ---- implications

-- each pair is independent in the diagram as drawn
independent : (d : Diagram) (list : List Implication) → ArePairs (pairs_in d.observed list) → All (IsIndependentAsDrawn d.read) list
independent d list are = All-weaker (λ (i : Implication). AreIndependent (graph_of d.observed.graph) (only i.a) (only i.b) (has i.given.bits))
    (IsIndependentAsDrawn d.read)
    (λ i h. independence_is_drawn (graph_of d.read.graph) d.read.graph.valid (has d.read.latent.bits) (graph_of d.observed.graph) (observed d)
    (only i.a) (only i.b) (has i.given.bits) h) list are.independent

-- a difference that is 0 where a model of the observed graph has the counts is so where one of the diagram as drawn has them
zero_as_drawn : (g : ReadGraph) (q : MixedGraph) → IsObservedGraph g q → (t : Table) (d : Difference) → IsZeroIfMatched q t d → IsZeroAsDrawn g q t d
zero_as_drawn g q observed t d zero m fit matched =
    let f = each_has_folded (graph_of g.graph) g.graph.valid (has g.latent.bits) q observed m fit in
    zero f.folded (record {
      fits = f.fits;
      matched = matched_folded (graph_of g.graph) g.graph.valid (has g.latent.bits) q observed m f.folded fit f.fits f.folds (is_used t)
          (weights_in q.vertices t) (total t.rows) matched;
    })

-- a right answer of `implications` on the graph alone
pub implies : (counts : Option Text) (d : Diagram) (a : ImplicationsAnswer) → IsForGraph counts d.observed (Ok a) → ArePairsAsDrawn d a
implies counts d implied.NoPairs h = tt
implies None d (implied.Pairs list) h = independent d list.items h
implies (Some counts) d (implied.Pairs list) h = absurd h
implies counts d (implied.Differences t measured) h = tt

measures : (d : Diagram) (list : List Implication) (count : Option Text) (other : List ℕ) (a : ImplicationsAnswer)
    → IsForCounts (pairs_in d.observed list) count other (Ok a) → AreZeroAsDrawn d a
measures d list count other implied.NoPairs h = absurd h
measures d list count other (implied.Pairs pairs) h = absurd h
measures d list count other (implied.Differences t measured) h =
    All-weaker (λ (m : Measured). IsZeroIfMatched (graph_of d.observed.graph) t m.difference)
    (λ (m : Measured). IsZeroAsDrawn d.read (graph_of d.observed.graph) t m.difference)
    (λ m e. zero_as_drawn d.read (graph_of d.observed.graph) (observed d) t m.difference e) measured.items h.1.matched

-- what no model of the observed graph has, none of the diagram as drawn has
refuted_drawn : (d : Diagram) (list : List Implication) (count : Option Text) (other : List ℕ) (a : ImplicationsAnswer)
    → IsForCounts (pairs_in d.observed list) count other (Ok a) → IsRefutedAsDrawn d a
refuted_drawn d list count other implied.NoPairs h = tt
refuted_drawn d list count other (implied.Pairs pairs) h = tt
refuted_drawn d list count other (implied.Differences t measured) h = where_some (first_broken measured.items)
    (HasNoModel (graph_of d.observed.graph) (is_used t) (weights_in d.observed.graph.n t) (total t.rows))
    (HasNoModelAsDrawn (graph_of d.read.graph) (has d.read.latent.bits) (is_used t) (weights_in d.observed.graph.n t) (total t.rows))
    (no_model_is_as_drawn (graph_of d.read.graph) d.read.graph.valid (has d.read.latent.bits) (graph_of d.observed.graph) (observed d) (is_used t)
    (weights_in d.observed.graph.n t) (total t.rows)) h.2
  where
    where_some : (o : Option Implication) (P Q : Type 0) → (P → Q) → IfSome o (λ i. P) → IfSome o (λ i. Q)
    where_some None P Q f h = tt
    where_some (Some i) P Q f h = f h

-- and one over counts
pub implies_over_counts : (count : Option Text) (other : List ℕ) (d : Diagram) (list : List Implication) (a : ImplicationsAnswer)
    → ArePairs (pairs_in d.observed list) → IsForCounts (pairs_in d.observed list) count other (Ok a) → AreDifferencesAsDrawn d list a
implies_over_counts count other d list a are h = record {
  independent = independent d list are;
  zero = measures d list count other a h;
  no_model = refuted_drawn d list count other a h;
}

-- ---- evaluate

-- a right answer of `evaluate` before counts are read
pub unevaluated : (way : Way) (x y : Names) (d : Diagram) (a : EvaluateAnswer) → IsForDiagram way d x y (Ok a) → IsUnevaluatedAsDrawn way d a
unevaluated (by_procedure short) x y d (evaluated.Hedge h) is = hedge_drawn d h is.1
unevaluated (by_procedure short) x y d (evaluated.Joint t settled h) is = absurd is
unevaluated (by_procedure short) x y d (evaluated.NotAdmissible s fault) is = tt
unevaluated (by_condition short given) x y d (evaluated.Joint t settled h) is = joint_drawn d (target_view t) settled h is.1
unevaluated (by_condition short given) x y d (evaluated.Hedge h) is = absurd is
unevaluated (by_condition short given) x y d (evaluated.NotAdmissible s fault) is = tt
unevaluated (by_adjusting true set) x y d (evaluated.NotAdmissible s fault) is = tt
unevaluated (by_adjusting false set) x y d (evaluated.NotAdmissible s fault) is =
    formula_failure_is_drawn (graph_of d.read.graph) d.read.graph.valid (has d.read.latent.bits) (graph_of d.observed.graph) (observed d)
    (effect_on s.x.bits s.y.bits) (adjustment_formula s.x.bits s.y.bits s.given.bits) is.1.1
unevaluated (by_adjusting back_door set) x y d (evaluated.Hedge h) is = absurd is
unevaluated (by_adjusting back_door set) x y d (evaluated.Joint t settled h) is = absurd is
unevaluated way x y d (evaluated.Values a) is = tt

-- ---- check

-- a certificate has one target and one formula
same_formula : (t : PlainTarget) (f : PlainFormula) (e : PlainDerivation) (u : PlainTarget) (g : PlainFormula) (d : Option Derivation)
    → option_map (λ (k : Derivation). formula u g (derivation_view k)) d ≡ Some (formula t f e) → (u ≡ t) × (g ≡ f)
same_formula t f e u g None is = absurd (none-some (formula t f e) is)
same_formula t f e u g (Some d) is =
    let one : formula u g (derivation_view d) ≡ formula t f e = same_Some (formula u g (derivation_view d)) (formula t f e) is in (cc one, cc one)

checks_text : (q : MixedGraph) (d : Diagram) → IsObservedGraph d.read q → (names : List (List ℕ)) (zs other : List ℕ) (a : WholeAnswer)
    → IsForText q names zs other a → IsWholeAsDrawn d zs a
checks_text q d observed names zs other (whole.AcceptedFormula a) (of_formula t f e holds is) =
    let same = same_formula t f e (target_view a.target) (formula_view a.formula) a.derivation is.0 in
    subst (λ (u : PlainTarget). IsRightAsDrawn d.read u (formula_view a.formula)) (sym same.0)
    (subst (λ (g : PlainFormula). IsRightAsDrawn d.read t g) (sym same.1) (drawn d.read q observed t f is.1.effect))
checks_text q d observed names zs other (whole.AcceptedFormula a) (of_hedge t h entries holds is) = absurd is
checks_text q d observed names zs other (whole.AcceptedHedge s k over) (of_formula t f e holds is) = absurd is
checks_text q d observed names zs other (whole.AcceptedHedge s k over) (of_hedge t h entries holds is) =
    let lost = effect_lost d.read q observed t.x t.y is.4.pair is.4.models in
    let lost_over = effect_lost_over d.read q observed t.x t.y is.4.pair is.4.models zs is.4.under in (
      subst (λ (x : ℕ). IsNotIdentifiable d.read (effect_on x s.y.bits)) (sym is.0)
          (subst (λ (y : ℕ). IsNotIdentifiable d.read (effect_on t.x y)) (sym is.1) lost),
      subst (λ (x : ℕ). IsNotIdentifiableOver d.read zs (effect_on x s.y.bits)) (sym is.0)
          (subst (λ (y : ℕ). IsNotIdentifiableOver d.read zs (effect_on t.x y)) (sym is.1) lost_over),
    )
checks_text q d observed names zs other (whole.RefusedDerivation lemmas fault) is = tt
checks_text q d observed names zs other (whole.RefusedHedge fault) is = tt
checks_text q d observed names zs other whole.MetHedge is = tt

-- a right answer on a certificate of a formula or of a hedge
pub checks_whole : (other : List ℕ) (d : Diagram) (zs : List ℕ) (a : WholeAnswer) → IsForText (graph_of d.observed.graph) d.observed.names zs other a
    → IsWholeAsDrawn d zs a
checks_whole other d zs a h = checks_text (graph_of d.observed.graph) d (observed d) d.observed.names zs other a h

-- accepted parts of an effect among the treated
among_drawn : (d : Diagram) (t : PlainTarget) (ps : List PlainDerivedPart) (a : AskedAmong) (f : TreatedFormula)
    → IsAcceptedAmong (graph_of d.observed.graph) t ps a f → (zs : List ℕ) → IsCheckedAsDrawn d zs (checked.Treated a f)
among_drawn d t ps a f h zs =
    subst (λ (s : Sets). EqualsAmongPartsAsDrawn (graph_of d.read.graph) (has d.read.latent.bits) s.x.bits s.y.bits s.given.bits f.summed.bits
    (parts_view f.parts.items)) (sym h.asked.sets)
    (treated_parts_are_drawn (graph_of d.read.graph) d.read.graph.valid (has d.read.latent.bits) (graph_of d.observed.graph) (observed d) t.x t.y t.given
    f.summed.bits (parts_view f.parts.items) h.equals)

-- those of a nested effect
nested_drawn : (d : Diagram) (t : PlainTarget) (m : ℕ) (ps : List PlainDerivedPart) (a : AskedNested) (f : NaturalFormula)
    → IsAcceptedNested (graph_of d.observed.graph) t m ps a f → (zs : List ℕ) → IsCheckedAsDrawn d zs (checked.Natural a f)
nested_drawn d t m ps a f h zs =
    subst (λ (q : Question). EqualsNaturalAsDrawn (graph_of d.read.graph) (has d.read.latent.bits) q.x.bits q.through.bits q.y.bits q.given.bits f.summed.bits
    (parts_view f.parts.items)) (sym h.asked.question)
    (right_parts_are_drawn (graph_of d.read.graph) d.read.graph.valid (has d.read.latent.bits) (graph_of d.observed.graph) (observed d) t.x m t.y t.given
    f.summed.bits (parts_view f.parts.items) h.equals)

-- a right answer of `check`
pub checks : (other : List ℕ) (d : Diagram) (zs : List ℕ) (a : CheckAnswer) → IsForCertificate (graph_of d.observed.graph) d.observed.names zs other (Ok a)
    → IsCheckedAsDrawn d zs a
checks other d zs (checked.Whole a) h = checks_whole other d zs a h
checks other d zs (checked.Treated a f) h = among_drawn d h.target h.parts a f h.is zs
checks other d zs (checked.Natural a f) h = nested_drawn d h.target h.through h.parts a f h.is zs
checks other d zs (checked.RefusedTreated why lemmas) h = tt
checks other d zs (checked.RefusedNatural why lemmas) h = tt
