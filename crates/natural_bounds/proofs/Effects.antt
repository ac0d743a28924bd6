-- The bounds of the strata, summed, bound the effect.
use Rattle.natural_bounds.specs.Bounds.{stratum_bound, BoundsHold}
use Rattle.natural_bounds.proofs.Strata.{stratum_bottom, stratum_holds}
use Rattle.natural_bounds.proofs.Summed.{effect_holds}

pub bounds_hold : BoundsHold
bounds_hold end g ok used q asked n all s has_weight m fit match within =
    effect_holds g ok used q asked m fit n all match s within has_weight end (stratum_bound end n q) (stratum_bottom end n q)
    (λ t inside. stratum_holds g ok used q asked m fit n all match end t inside)
