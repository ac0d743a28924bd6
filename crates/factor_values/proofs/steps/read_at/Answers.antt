use Rattle.std.proofs.Common.{ℕ, ◌+◌, ◌∙◌, List, refl, sym, subst, arith}
use Rattle.count_eval.specs.Vocabulary.{cell_of}
use Rattle.factor_values.proofs.Walking.{IsReadTo, read_none, read_second, read_first, read_all, past_end}
use Rattle.factor_values.proofs.steps.read_at.Goals as goal
use Rattle.factor_values.proofs.steps.read_at.Goals.{then-has, else-has}

pub loop-v-init : goal.loop-v-init
loop-v-init c = read_none c.args.second.bits c.args.first.now (cell_of c.args.other.now) (omega arith)

pub loop-v-preserved : goal.loop-v-preserved
loop-v-preserved c =
    let second = c.args.second.bits in let first = c.args.first.now in let other = cell_of c.args.other.now in let cell = c.loop-v.cell in let v = c.loop-v.v in
    elim c.if-has.branch [
      | then-has w ↦ subst (λ (l : List ℕ). IsReadTo second first other l (v + 1)) (sym w.cell-is)
          (read_second second first other cell v (cell_of c.args.other.now v) (omega (arith, c.loop-v-test.true)) refl c.loop-v.invariant
          (sym c.has.ensures ∙ w.if-has.true))
      | else-has w ↦ subst (λ (l : List ℕ). IsReadTo second first other l (v + 1)) (sym w.cell-is)
          (read_first second first other cell v c.loop-v.invariant (sym c.has.ensures ∙ w.if-has.false))
    ]

pub returns : goal.returns
returns c = read_all c.args.second.bits c.args.first.now (cell_of c.args.other.now) c.loop-v.cell c.loop-v.v (omega (arith, c.loop-v-test.false)) (omega arith)
    (λ u far member. past_end c.args.other.now u (omega (arith, far))) c.loop-v.invariant
