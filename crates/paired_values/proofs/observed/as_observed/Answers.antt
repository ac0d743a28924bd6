use Rattle.std.proofs.Common.{ℕ, ◌+◌, ◌∙◌, List, ap, sym, subst, arith}
use Rattle.count_eval.specs.Vocabulary.{cell_of}
use Rattle.treated_models.specs.Vocabulary.{prime_of}
use Rattle.treated_models.proofs.Primes.{prime_low}
use Rattle.factor_values.proofs.Walking.{IsReadTo, read_none, read_second, read_first, read_all}
use Rattle.paired_values.proofs.observed.as_observed.Goals as goal
use Rattle.paired_values.proofs.observed.as_observed.Goals.{then-has, else-has}

pub loop-v-init : goal.loop-v-init
loop-v-init c = read_none c.args.x.bits c.args.cell.now (λ v. cell_of c.args.cell.now (prime_of c.args.n c.args.x.bits v)) (omega arith)

pub bounds-cell-prime_of : goal.bounds-cell-prime_of
bounds-cell-prime_of c =
    let member = sym c.has.ensures ∙ c.if-has.true in
    let low = prime_low c.args.n c.args.x.bits c.loop-v.v (c.requires.within c.loop-v.v member) member in
    omega (arith, low, c.requires.few, c.prime_of.ensures)

pub loop-v-preserved : goal.loop-v-preserved
loop-v-preserved c =
    let x = c.args.x.bits in let first = c.args.cell.now in let g = λ (v : ℕ). cell_of first (prime_of c.args.n x v) in
    let made = c.loop-v.observed in let v = c.loop-v.v in
    elim c.if-has.branch [
      | then-has w ↦ subst (λ (l : List ℕ). IsReadTo x first g l (v + 1)) (sym w.observed-is)
          (read_second x first g made v (cell_of first w.prime_of.result) (omega (arith, c.loop-v-test.true)) (ap (cell_of first) w.prime_of.ensures)
          c.loop-v.invariant (sym c.has.ensures ∙ w.if-has.true))
      | else-has w ↦ subst (λ (l : List ℕ). IsReadTo x first g l (v + 1)) (sym w.observed-is)
          (read_first x first g made v c.loop-v.invariant (sym c.has.ensures ∙ w.if-has.false))
    ]

pub returns : goal.returns
returns c = read_all c.args.x.bits c.args.cell.now (λ v. cell_of c.args.cell.now (prime_of c.args.n c.args.x.bits v)) c.loop-v.observed c.loop-v.v
    (omega (arith, c.loop-v-test.false)) (omega arith)
    (λ u far member. absurd (let low = c.requires.within u member in omega (arith, far, low, c.requires.few))) c.loop-v.invariant
