use Rattle.std.proofs.Common.{◌≡◌, ℕ, true, ◌&&◌, not, arith, ◌∙◌, ap, ◌==◌, refl}
use Rattle.std.proofs.lemmas.Bool.{eq-eqb}
use Rattle.mixed_graph.specs.Bits.{has}
use Rattle.mixed_graph.specs.Arrows.{arrows_only}
use Rattle.mixed_graph.proofs.Masks.{lt_from_subset}
use Rattle.mixed_graph.proofs.Peeling.{without_childless}
use Rattle.mixed_graph.proofs.cycles.stuck.Goals as goal
use Rattle.mixed_graph.proofs.cycles.stuck.Goals.{After-difference-rest}

rest_is : (c : After-difference-rest) → (u : ℕ) → has c.difference-rest.result.bits u ≡ (has c.loop-v.rest.bits u && not (u == c.in-Some.v))
rest_is c u = c.difference-rest.ensures.members u ∙ ap (λ t. has c.loop-v.rest.bits u && not t) (c.one.ensures.members u)

pub loop-v-smaller : goal.loop-v-smaller
loop-v-smaller c = lt_from_subset _ _ c.in-Some.v (λ u h. let e = rest_is c u in grind arith)
    (let e = rest_is c c.in-Some.v in let s : (c.in-Some.v == c.in-Some.v) ≡ true = eq-eqb _ _ refl in grind arith) c.in-Some.ensures.found.1

pub loop-v-preserved : goal.loop-v-preserved
loop-v-preserved c = (
  without_childless (arrows_only c.args.n c.args.children.now) c.in-Some.v c.loop-v.rest.bits c.difference-rest.result.bits true
      (λ taken. c.in-Some.ensures.found.2) (rest_is c) c.loop-v.invariant.0,
  omega arith,
)
