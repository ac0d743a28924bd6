use Rattle.std.proofs.Common.{◌^◌, lt-ltb}
use Rattle.effect_answers.proofs.kept.number_kept.Goals as goal

pub returns : goal.returns
returns c = lt-ltb c.args.k (2 ^ 32) c.ranges.k.fits
