use Rattle.std.proofs.Common.{arith}
use Rattle.equivalent_command.proofs.Placing.{no_place, place_more}
use Rattle.equivalent_command.proofs.numbers.places.Goals as goal

pub loop-v-init : goal.loop-v-init
loop-v-init c = no_place _ _

pub loop-v-preserved : goal.loop-v-preserved
loop-v-preserved c = let few = c.count-v-end.ensures.names.few in let n = c.count-v-end.ensures.count in
    place_more _ _ c.loop-v.v c.place.result c.loop-v.out (omega (arith, few, n)) c.place.ensures.few c.place.ensures.place c.loop-v.invariant
