use Rattle.std.proofs.Common.{◌≡◌, drop, []}
use Rattle.serde_json.specs.View.{items_view}
use Rattle.derived_parts.specs.Vocabulary.{derived_views}
use Rattle.certificate.specs.PartReading.{more_parts}
use Rattle.certificate.proofs.parts.more_parts.Given as goal

abbrev pub invariant-loop-d : goal.invariant-loop-d
invariant-loop-d l = more_parts l.names (derived_views l.all.items) (items_view (drop l.d-index l.ds)) ≡ more_parts l.names [] (items_view l.ds)
