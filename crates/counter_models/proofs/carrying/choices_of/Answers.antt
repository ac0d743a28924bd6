use Rattle.std.proofs.Common.{ℕ, arith}
use Rattle.std.proofs.lemmas.List.{length-replicate, get_or-replicate}
use Rattle.counter_models.proofs.carrying.choices_of.Goals as goal

pub loop-v-init : goal.loop-v-init
loop-v-init c = record { seen = λ u lt. absurd (omega arith); unseen = λ u le lt. get_or-replicate 64 u 64 0 lt; long = length-replicate {A = ℕ} 64 64 }
