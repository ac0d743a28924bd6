use Rattle.std.proofs.Common.{◌*◌, ◌∙◌, sym, ap₂}
use Rattle.quantity.specs.Kinds.{pair}
use Rattle.bound_values.proofs.Dividing.{quotient_is, ceiling_is}
use Rattle.bound_values.proofs.wide.BoundsOfRatio.of_ratio.Goals as goal

pub returns : goal.returns
returns c =
    let t = c.args.ratio.top in let b = c.args.ratio.bottom in let u = c.units_over-units.result in
    ap₂ pair (sym (quotient_is (t * 1000000000000000000) b u.whole u.rest c.units_over-units.ensures.units c.units_over-units.ensures.rest))
    (c.up.ensures ∙ sym (ceiling_is (t * 1000000000000000000) b u.whole u.rest c.units_over-units.ensures.units c.units_over-units.ensures.rest))
