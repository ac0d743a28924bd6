use Rattle.std.proofs.Common.{◌≡◌, ℕ, ◌&&◌, ◌==◌, ◌-◌, not, sym, ap, ◌∙◌, get_or}
use Rattle.mixed_graph.specs.Bits.{has}
use Rattle.mixed_graph.specs.Arrows.{arrows_only}
use Rattle.mixed_graph.specs.Masks.{is_apart}
use Rattle.mixed_graph.proofs.MaskLaws.{apart_has}
use Rattle.mixed_graph.proofs.Peeling.{without_childless}
use Rattle.mixed_graph.proofs.cycles.passed_down.Goals as goal
use Rattle.mixed_graph.proofs.cycles.passed_down.Goals.{After-difference-rest}

rest_is : (c : After-difference-rest) → (u : ℕ) →
    has c.difference-rest.result.bits u ≡ (has c.down.rest.bits u && not (c.is_apart-is_taken.result && (u == c.down.v - 1)))
rest_is c u = c.difference-rest.ensures.members u
    ∙ ap (λ t. has c.down.rest.bits u && not t) (c.only_if.ensures u ∙ ap (λ t. c.is_apart-is_taken.result && t) (c.one.ensures.members u))

pub down-preserved : goal.down-preserved
down-preserved c = without_childless (arrows_only c.args.n c.args.children.now) (c.down.v - 1) c.down.rest.bits c.difference-rest.result.bits
    c.is_apart-is_taken.result
    (λ taken b. apart_has (get_or c.args.children.now (c.down.v - 1) 0) c.down.rest.bits b
    (sym (ap (λ m. is_apart m c.down.rest.bits) c.row.ensures) ∙ sym c.is_apart-is_taken.ensures ∙ taken))
    (rest_is c) c.down.invariant
