use Rattle.counter_models.proofs.parity.laws.Goals as goal
use Rattle.counter_models.proofs.Witness.{fit_one, fit_two, positive_one, positive_two, agree_observed, agree_under, half, more, effects, effects_each}

pub returns : goal.returns
returns c = record {
  fit = λ g graph x d ok. (fit_one g graph x d ok, fit_two g graph x d ok);
  positive = λ g graph x d ok. (positive_one g graph x d ok, positive_two g graph x d ok);
  observed = agree_observed;
  experiments = agree_under;
  half = half;
  more = more;
  effects = effects;
  each = effects_each;
}
