use Rattle.std.proofs.Common.{ℕ, ◌+◌, ◌≡◌, ◌∙◌, List, true, false, get_or, sym, subst, arith}
use Rattle.mixed_graph.specs.Vocabulary.{has}
use Rattle.count_eval.proofs.CellSteps.{zeros, length-zeros}
use Rattle.count_eval.proofs.Within.{IsWithin, within_more, within_skip}
use Rattle.count_eval.proofs.values.cell_within.Goals as goal
use Rattle.count_eval.proofs.values.cell_within.Goals.{then-has, else-has}

pub loop-v-init : goal.loop-v-init
loop-v-init c = record { long = length-zeros 64; kept = λ u lt. absurd (omega arith); rest = λ u le. zeros 64 u }

pub loop-v-preserved : goal.loop-v-preserved
loop-v-preserved c =
    let within = c.loop-v.within in let v = c.loop-v.v in let x = get_or c.args.cell v 0 in
    elim c.if-has.branch [
      | then-has w ↦
          let member : has c.args.used.bits v ≡ true = sym c.has.ensures ∙ w.if-has.true in
          subst (λ (l : List ℕ). IsWithin c.args.used.bits c.args.cell l (v + 1)) (sym w.within-is)
          (within_more c.args.used.bits c.args.cell within v (let long = c.loop-v.invariant.long in let end = c.loop-v-test.true in omega (arith, long, end))
          c.loop-v.invariant member)
      | else-has w ↦
          let outside : has c.args.used.bits v ≡ false = sym c.has.ensures ∙ w.if-has.false in
          subst (λ (l : List ℕ). IsWithin c.args.used.bits c.args.cell l (v + 1)) (sym w.within-is)
          (within_skip c.args.used.bits c.args.cell within v c.loop-v.invariant outside)
    ]
