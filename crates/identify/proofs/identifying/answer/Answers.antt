use Rattle.std.proofs.Common.{ℕ, eqb-true, inl, inr, sym, ◌∙◌, length-take, map, arith}
use Rattle.mixed_graph.specs.declared.sets.VSet.{VSet}
use Rattle.mixed_graph.specs.Vocabulary.{graph_of}
use Rattle.hedge.specs.Vocabulary.{AreDistricts, first_masks, AreSetsOfHedge}
use Rattle.prob_expr.specs.Vocabulary.{formula_view}
use Rattle.do_derivation.specs.Vocabulary.{derivation_view, listed}
use Rattle.identification_theory.specs.Vocabulary.{IsTarget, IsUnidentified, StopsAt, AreRoots}
use Rattle.identification_theory.proofs.Answered.{stop_is_hedge}
use Rattle.identify.proofs.Composed.{few_defs, with_steps, without_steps}
use Rattle.identify.proofs.Orders.{districts_by}
use Rattle.identify.proofs.RightAnswers.{target_from, unidentified, unidentified_at}
use Rattle.identify.proofs.identifying.answer.Goals as goal
use Rattle.identify.proofs.identifying.answer.Goals.{After-order_of-order, After-districts-parts}

target : (c : After-order_of-order) → IsTarget (graph_of c.args.g.now) c.args.x.bits c.args.y.bits
target c = target_from (graph_of c.args.g.now) c.args.x.bits c.args.y.bits c.requires.x_within c.requires.y_within c.requires.apart c.requires.some
    (omega arith)

are_districts : (c : After-districts-parts) → AreDistricts (graph_of c.args.g.now) c.ancestors_outside-d.result.bits 0 (listed c.order_of-order.result)
    (first_masks c.districts-parts.result.sets c.districts-parts.result.count)
are_districts c = districts_by (graph_of c.args.g.now) c.ancestors_outside-d.result.bits (listed c.order_of-order.result)
    (first_masks c.districts-parts.result.sets c.districts-parts.result.count)
    c.order_of-order.ensures.listed c.districts-parts.ensures.districts

stop_at : (c : After-districts-parts) → (small big : ℕ)
    → StopsAt (graph_of c.args.g.now) (listed c.order_of-order.result) 0 (first_masks c.districts-parts.result.sets c.districts-parts.result.count) small big
    → IsUnidentified (graph_of c.args.g.now) c.args.x.bits c.args.y.bits small big
stop_at c small big stops = unidentified (graph_of c.args.g.now) (listed c.order_of-order.result)
    (first_masks c.districts-parts.result.sets c.districts-parts.result.count) c.args.x.bits c.args.y.bits c.ancestors_outside-d.result.bits
    small big c.order_of-order.ensures.listed c.ancestors_outside-d.ensures (are_districts c) stops

pub returns-then-is_empty-clause-answer : goal.returns-then-is_empty-clause-answer
returns-then-is_empty-clause-answer c =
    let none = eqb-true c.args.x.bits 0 (sym c.is_empty.ensures.mask ∙ c.if-is_empty.true) in (
      record {
        order = listed c.order_of-order.result;
        is_order = c.order_of-order.ensures.listed;
        answer = inl (none, c.observed-formula.ensures.formula);
      },
      λ w. record {
        order = listed c.order_of-order.result;
        is_order = c.order_of-order.ensures.listed;
        answer = inl (none, c.observed-formula.ensures.formula, c.observed-formula.ensures.derivation);
      },
    )

pub assembled-requires-clause-counted : goal.assembled-requires-clause-counted
assembled-requires-clause-counted c = c.in-Ok.ensures.counted

pub returns-in_ok-formula-in-Ok-clause-answer : goal.returns-in_ok-formula-in-Ok-clause-answer
returns-in_ok-formula-in-Ok-clause-answer c = (
  record {
    order = listed c.order_of-order.result;
    is_order = c.order_of-order.ensures.listed;
    answer = inr (
      λ z. absurd (let e = c.is_empty.ensures.mask in let f = c.if-is_empty.false in grind (arith, z, e, f)),
      without_steps c.args.wanted (graph_of c.args.g.now) (listed c.order_of-order.result)
          (first_masks c.districts-parts.result.sets c.districts-parts.result.count)
          c.args.x.bits c.args.y.bits c.ancestors_outside-d.result.bits c.in-Ok.made
          c.ancestors_outside-d.ensures (are_districts (goal.at.returns-in_ok-formula-in-Ok-clause-answer c).After-districts-parts)
          c.in-Ok.ensures _ _ c.in_ok-formula-in-Ok.ensures,
    );
  },
  λ w. record {
    order = listed c.order_of-order.result;
    is_order = c.order_of-order.ensures.listed;
    answer = inr (
      λ z. absurd (let e = c.is_empty.ensures.mask in let f = c.if-is_empty.false in grind (arith, z, e, f)),
      with_steps c.args.wanted (graph_of c.args.g.now) (listed c.order_of-order.result)
          (first_masks c.districts-parts.result.sets c.districts-parts.result.count)
          c.args.x.bits c.args.y.bits c.ancestors_outside-d.result.bits c.in-Ok.made
          c.ancestors_outside-d.ensures (are_districts (goal.at.returns-in_ok-formula-in-Ok-clause-answer c).After-districts-parts)
          c.in-Ok.ensures _ _ c.in_ok-formula-in-Ok.ensures w,
    );
  },
)

pub returns-in_ok-formula-in-Ok-clause-few : goal.returns-in_ok-formula-in-Ok-clause-few
returns-in_ok-formula-in-Ok-clause-few c =
    let sets = c.districts-parts.result.sets in
    let n = c.districts-parts.result.count in
    let most = c.districts-parts.result.in_range in
    let few = few_defs c.args.wanted c.args.g.now.n (listed c.order_of-order.result) (first_masks sets n)
    c.args.x.bits c.args.y.bits c.ancestors_outside-d.result.bits c.in-Ok.made c.in-Ok.ensures.few
    (formula_view c.in_ok-formula-in-Ok.formula) (derivation_view c.in_ok-formula-in-Ok.derivation) c.in_ok-formula-in-Ok.ensures in
    let size = length-take n (map (λ (s : VSet). s.bits) sets) in
    omega (arith, most, few, size)

pub hedge_of-requires-clause-hedge : goal.hedge_of-requires-clause-hedge
hedge_of-requires-clause-hedge c =
    let here = goal.at.hedge_of-requires-clause-hedge c in
    let stop = stop_at here.After-districts-parts c.in-Err-At.small.bits c.in-Err-At.big.bits (rw c.in-Err-At.field-0-is at c.in-Err-At.ensures) in
    let u : (roots : ℕ) → AreRoots (graph_of c.args.g.now) c.in-Err-At.small.bits roots
    → AreSetsOfHedge (graph_of c.args.g.now) c.args.x.bits c.args.y.bits c.in-Err-At.big.bits c.in-Err-At.small.bits roots =
    λ roots r. stop_is_hedge (graph_of c.args.g.now) c.args.g.now.valid c.args.x.bits c.args.y.bits c.in-Err-At.small.bits c.in-Err-At.big.bits roots
    (target here.After-order_of-order) stop r in
    rw (c.in-Err-At.small-is, c.in-Err-At.big-is) u

pub returns-in_ok-hedge-in-Err-At-clause-answer : goal.returns-in_ok-hedge-in-Err-At-clause-answer
returns-in_ok-hedge-in-Err-At-clause-answer c =
    let here = goal.at.returns-in_ok-hedge-in-Err-At-clause-answer c in
    let stop = stop_at here.After-districts-parts c.in-Err-At.small.bits c.in-Err-At.big.bits (rw c.in-Err-At.field-0-is at c.in-Err-At.ensures) in
    let is = c.in_ok-hedge-in-Err-At.ensures in (
      unidentified_at (graph_of c.args.g.now) c.args.x.bits c.args.y.bits c.in-Err-At.small c.in-Err-At.big c.in_ok-hedge-in-Err-At.hedge
          (is.small ∙ c.in-Err-At.small-is) (is.big ∙ c.in-Err-At.big-is) stop,
      is.data,
      is.hedge,
      is.pair,
    )
