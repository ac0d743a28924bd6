use Rattle.std.proofs.Common.{ℕ, ◌≡◌, ◌+◌, ◌-◌, ◌*◌, ◌≤◌, ◌||◌, drop, map, set, None, Ok, List, Option, Result, Bool}
use Rattle.prob_expr.specs.Tree.{Tree}
use Rattle.prob_expr.specs.Vocabulary.{Trees, Weights, views, next_node}
use Rattle.prob_expr.specs.View.{view}
use Rattle.quantity.specs.Kinds.{Pair}
use Rattle.count_eval.specs.Rules.{Rule, rule}
use Rattle.count_eval.specs.declared.spot.Spot.{Spot}
use Rattle.count_eval.specs.Steps.{each_level}
use Rattle.count_eval.specs.Stops.{Stop, after}
use Rattle.count_eval.specs.Programs.{weights_in, is_used, seen_so_far, seen_more, AreBelow}
use Rattle.count_eval.specs.Laws.{AreUsed}
use Rattle.count_eval.specs.Spots.{limit_of, cells_from, factors_from, zero_from}
use Rattle.count_eval.proofs.Measures.{before, node_count, nodes_count}
use Rattle.count_eval.proofs.eval.+evaluate.Given as goal

abbrev pub decreases-cells_from : goal.decreases-cells_from
decreases-cells_from g l =
    let ds = map view l.scope.now.defs.now in
    before (limit_of ds l.sum.at.def) ds + 66 * node_count (view l.body.now) + 1 + (64 - l.v)

abbrev pub decreases-product_at : goal.decreases-product_at
decreases-product_at g l =
    let ds = map view l.scope.now.defs.now in
    before (limit_of ds l.at.def) ds + 66 * nodes_count (views l.factors.now.items) + 1

abbrev pub decreases-value_at : goal.decreases-value_at
decreases-value_at g l =
    let ds = map view l.scope.now.defs.now in
    before (limit_of ds l.at.def) ds + 66 * node_count (view l.e.now)

abbrev pub invariant-cells_from-loop-x : goal.invariant-cells_from-loop-x
invariant-cells_from-loop-x g l =
    let w = weights_in l.scope.n (g.L.Lookup.counts l.scope.lookup.now) in
    let numbers = g.Q.Quantity.numbers in
    each_level l.x (λ x. cells_from (rule g.Q.Quantity.kind l.scope.zero) w (map view l.scope.defs.now) l.sum (view l.body) (l.v + 1) (set l.cell l.v x))
    (seen_so_far numbers l.fn.so_far) ≡ Ok (seen_so_far numbers l.total)

-- so many factors are multiplied and looked at, and the others are left
pub record IsSoFar (k : Rule) (w : Weights) (ds : List Tree) (at : Spot) (used : ℕ → Bool) (next : ℕ) (some_zero : Bool) (so_far : Result (Option Pair) Stop)
    (rest all : Trees) : Type 0 where
  pub value : after so_far (factors_from k w ds at next rest) ≡ factors_from k w ds at (next_node at.node) all None
  pub zeros : (some_zero || zero_from k w ds at next rest) ≡ zero_from k w ds at (next_node at.node) all
  pub below : AreBelow (limit_of ds at.def) rest
  pub asked : AreUsed used rest
  pub fewer : nodes_count rest ≤ nodes_count all

abbrev pub invariant-product_at-loop-factor : goal.invariant-product_at-loop-factor
invariant-product_at-loop-factor g l =
    let t = g.L.Lookup.counts l.scope.lookup.now in
    IsSoFar (rule g.Q.Quantity.kind l.scope.zero) (weights_in l.scope.n t) (map view l.scope.defs.now) l.at (is_used t) l.next l.some_zero
    (seen_more g.Q.Quantity.numbers l.so_far) (views (drop l.factor-index l.factor-items)) (views l.factor-items)
