use Rattle.std.proofs.Common.{◌≡◌, drop, map, []}
use Rattle.serde_json.specs.View.{items_view}
use Rattle.prob_expr.specs.View.{view}
use Rattle.certificate.specs.Reading.{more_defs}
use Rattle.certificate.proofs.formulas.more_defs.Given as goal

abbrev pub invariant-loop-d : goal.invariant-loop-d
invariant-loop-d l = more_defs l.names (map view l.all.items) (items_view (drop l.d-index l.ds)) ≡ more_defs l.names [] (items_view l.ds)
