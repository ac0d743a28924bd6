use Rattle.std.proofs.Common.{◌≡◌, ◌<◌, drop, length, ◌∷◌, []}
use Rattle.serde_json.specs.View.{items_view}
use Rattle.certificate.specs.Plain.{links_view}
use Rattle.certificate.specs.HedgeReading.{more_links}
use Rattle.certificate.proofs.hedges.more_links.Given as goal

abbrev pub invariant-loop-d : goal.invariant-loop-d
invariant-loop-d l = (more_links l.names (links_view l.links) (items_view (drop l.d-index l.ds)) ≡ more_links l.names ((l.start, 0) ∷ []) (items_view l.ds))
    × (length (links_view l.links) ≡ l.links.count) × (0 < l.links.count) × (length l.links.found ≡ 64) × (length l.links.partner ≡ 64)
