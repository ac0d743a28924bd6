use Rattle.counter_models.proofs.Bridge.{whole}
use Rattle.counter_models.proofs.Final.{counter, agree_harmless}
use Rattle.counter_models.proofs.HedgePair.{pair, is_pair}
use Rattle.counter_models.proofs.theory.laws.Goals as goal

pub returns : goal.returns
returns c = record {
  whole = whole;
  counter = counter;
  pairs = λ g graph few x y h hedge. (pair g graph few x y h hedge, is_pair g graph few x y h hedge);
  experiments = agree_harmless;
}
