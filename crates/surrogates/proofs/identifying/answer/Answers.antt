use Rattle.std.proofs.Common.{ℕ, eqb-true, inl, inr, sym, ◌∙◌, length-take, map, arith}
use Rattle.mixed_graph.specs.declared.sets.VSet.{VSet}
use Rattle.mixed_graph.specs.Vocabulary.{graph_of}
use Rattle.hedge.specs.Vocabulary.{AreDistricts, first_masks}
use Rattle.prob_expr.specs.Vocabulary.{masks_of, formula_view}
use Rattle.do_derivation.specs.Vocabulary.{derivation_view, listed}
use Rattle.identify.specs.declared.wanted.Wanted.TheVariants.{Derivation}
use Rattle.identify.proofs.Composed.{few_defs}
use Rattle.identify.proofs.Orders.{districts_by}
use Rattle.identify.proofs.RightAnswers.{target_from}
use Rattle.identification_theory.specs.Vocabulary.{IsTarget}
use Rattle.surrogates.specs.Surrogates.{IsStoppedWith, StopsWith}
use Rattle.surrogates.proofs.Assembled.{by_steps}
use Rattle.surrogates.proofs.Together.{stops_at_district}
use Rattle.surrogates.specs.Tries.{IsDistrictFrom}
use Rattle.surrogates.proofs.identifying.answer.Goals as goal
use Rattle.surrogates.proofs.identifying.answer.Goals.{After-order_of-order, After-districts-parts}

target : (c : After-order_of-order) → IsTarget (graph_of c.args.g.now) c.args.x.bits c.args.y.bits
target c = target_from (graph_of c.args.g.now) c.args.x.bits c.args.y.bits c.requires.x_within c.requires.y_within c.requires.apart c.requires.some
    (omega arith)

are_districts : (c : After-districts-parts) → AreDistricts (graph_of c.args.g.now) c.ancestors_outside-d.result.bits 0 (listed c.order_of-order.result)
    (first_masks c.districts-parts.result.sets c.districts-parts.result.count)
are_districts c = districts_by (graph_of c.args.g.now) c.ancestors_outside-d.result.bits (listed c.order_of-order.result)
    (first_masks c.districts-parts.result.sets c.districts-parts.result.count)
    c.order_of-order.ensures.listed c.districts-parts.ensures.districts

stop_at : (c : After-districts-parts) → (small big : ℕ)
    → StopsWith (graph_of c.args.g.now) (masks_of c.args.experiments.now) 0 (first_masks c.districts-parts.result.sets c.districts-parts.result.count) small big
    → IsStoppedWith (graph_of c.args.g.now) (masks_of c.args.experiments.now) c.args.x.bits c.args.y.bits small big
stop_at c small big stops = record {
  order = listed c.order_of-order.result;
  is_order = c.order_of-order.ensures.listed;
  split = record {
    d = c.ancestors_outside-d.result.bits;
    is_d = c.ancestors_outside-d.ensures;
    districts = first_masks c.districts-parts.result.sets c.districts-parts.result.count;
    are_districts = are_districts c;
  };
  stops = stops;
}

pub returns-then-is_empty-clause-answer : goal.returns-then-is_empty-clause-answer
returns-then-is_empty-clause-answer c = record {
  order = listed c.order_of-order.result;
  is_order = c.order_of-order.ensures.listed;
  answer = inl (
    eqb-true c.args.x.bits 0 (sym c.is_empty.ensures.mask ∙ c.if-is_empty.true),
    c.observed-formula.ensures.formula,
    c.observed-formula.ensures.derivation,
  );
}

pub assembled-requires-clause-counted : goal.assembled-requires-clause-counted
assembled-requires-clause-counted c = c.in-Ok.ensures.counted

pub returns-in_ok-formula-in-Ok-clause-answer : goal.returns-in_ok-formula-in-Ok-clause-answer
returns-in_ok-formula-in-Ok-clause-answer c = record {
  order = listed c.order_of-order.result;
  is_order = c.order_of-order.ensures.listed;
  answer = inr (
    λ z. absurd (let e = c.is_empty.ensures.mask in let f = c.if-is_empty.false in grind (arith, z, e, f)),
    by_steps (graph_of c.args.g.now) (masks_of c.args.experiments.now) (listed c.order_of-order.result)
        (first_masks c.districts-parts.result.sets c.districts-parts.result.count) c.args.x.bits c.args.y.bits c.ancestors_outside-d.result.bits c.in-Ok.made
        c.ancestors_outside-d.ensures (are_districts (goal.at.returns-in_ok-formula-in-Ok-clause-answer c).After-districts-parts)
        c.in-Ok.ensures _ _ c.in_ok-formula-in-Ok.ensures,
  );
}

pub returns-in_ok-formula-in-Ok-clause-few : goal.returns-in_ok-formula-in-Ok-clause-few
returns-in_ok-formula-in-Ok-clause-few c =
    let sets = c.districts-parts.result.sets in
    let n = c.districts-parts.result.count in
    let most = c.districts-parts.result.in_range in
    let few = few_defs Derivation c.args.g.now.n (listed c.order_of-order.result) (first_masks sets n)
    c.args.x.bits c.args.y.bits c.ancestors_outside-d.result.bits c.in-Ok.made c.in-Ok.ensures.few
    (formula_view c.in_ok-formula-in-Ok.formula) (derivation_view c.in_ok-formula-in-Ok.derivation) c.in_ok-formula-in-Ok.ensures in
    let size = length-take n (map (λ (s : VSet). s.bits) sets) in
    omega (arith, most, few, size)

pub stopped_answer-requires-clause-stop : goal.stopped_answer-requires-clause-stop
stopped_answer-requires-clause-stop c =
    let here = goal.at.stopped_answer-requires-clause-stop c in
    rw (c.in-Err-At.small-is, c.in-Err-At.big-is)
    (stop_at here.After-districts-parts c.in-Err-At.small.bits c.in-Err-At.big.bits (rw c.in-Err-At.field-0-is at c.in-Err-At.ensures))

pub stopped_answer-requires-clause-district : goal.stopped_answer-requires-clause-district
stopped_answer-requires-clause-district c =
    let is : IsDistrictFrom (graph_of c.args.g.now) c.in-Err-At.small.bits 0 =
    stops_at_district (graph_of c.args.g.now) (masks_of c.args.experiments.now) c.ancestors_outside-d.result.bits
    (first_masks c.districts-parts.result.sets c.districts-parts.result.count)
    c.in-Err-At.small.bits c.in-Err-At.big.bits (λ v i. (c.ancestors_outside-d.ensures.sound v i).vertex) c.districts-parts.ensures.maximal
    (rw c.in-Err-At.field-0-is at c.in-Err-At.ensures) in
    rw c.in-Err-At.small-is is
