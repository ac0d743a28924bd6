-- Bounds of the strata, summed, bound the effect.
use Rattle.natural_bounds.proofs.Summed.{effect_holds}
use Rattle.crossed_bounds.specs.Crossed.{paired_bound, PairedBoundsHold, sharper_bound, SharperBoundsHold}
use Rattle.crossed_bounds.proofs.Others.{sharper_bottom, sharper_holds}
use Rattle.crossed_bounds.proofs.Sharper.{paired_bottom, paired_holds}

pub sharper_bounds_hold : SharperBoundsHold
sharper_bounds_hold end g ok used q asked n b all s has_weight m fit match within =
    effect_holds g ok used q asked m fit n all match s within has_weight end (sharper_bound end n q) (sharper_bottom end n q)
    (λ t inside. sharper_holds g ok used q asked m fit n all match b t inside end)

pub paired_bounds_hold : PairedBoundsHold
paired_bounds_hold end g ok used q asked n b all s has_weight m fit match within =
    effect_holds g ok used q asked m fit n all match s within has_weight end (paired_bound end n q) (paired_bottom end n q)
    (λ t inside. paired_holds g ok used q asked m fit n all match b t inside end)
