use Rattle.mixed_graph.specs.Arrows.{arrows_only}
use Rattle.mixed_graph.proofs.Peeling.{AreOnNoCycle}
use Rattle.mixed_graph.proofs.cycles.passed_down.Given as goal

abbrev pub invariant-down : goal.invariant-down
invariant-down l = AreOnNoCycle (arrows_only l.n l.children) l.rest.bits
