use Rattle.std.proofs.Common.{refl, arith}
use Rattle.mixed_graph.proofs.PairMasks.{blank}
use Rattle.identify.proofs.factors.moves.members_in.Goals as goal

pub loop-v-init : goal.loop-v-init
loop-v-init c = record { left = refl; few = omega arith; long = refl; blank = λ i h. blank 64 i }
