use borrow.Author.Count.{below_more}
use Rattle.hedge.proofs.choices.wrong_choice.Goals as goal

pub loop-v-preserved : goal.loop-v-preserved
loop-v-preserved c = below_more _ _ c.loop-v.invariant (c.chooses_right.ensures.0 c.if-not-chooses_right.false)
