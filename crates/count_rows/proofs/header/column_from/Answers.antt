use Rattle.std.proofs.Common.{◌≡◌, ◌∙◌, arith, sym, ap, true, false, List, ℕ}
use Rattle.std.specs.Str.{bytes_eq}
use Rattle.count_rows.proofs.HeaderSteps.{found_at, not_at, at_end}
use Rattle.count_rows.proofs.header.column_from.Goals as goal

pub loop-at-preserved : goal.loop-at-preserved
loop-at-preserved c =
    let xs = c.args.header.now in
    let differs : bytes_eq c.args.name.now c.get.result.now ≡ false = sym c.eq.ensures ∙ c.if-eq.false in
    c.loop-at.invariant ∙ not_at (bytes_eq c.args.name.now) xs c.loop-at.at (omega (arith, c.count-at-end.ensures, c.loop-at-test.true))
    (ap (λ (f : List ℕ). bytes_eq c.args.name.now f) (sym c.get.ensures) ∙ differs)

pub returns-then-eq-clause-place : goal.returns-then-eq-clause-place
returns-then-eq-clause-place c =
    let xs = c.args.header.now in
    let same : bytes_eq c.args.name.now c.get.result.now ≡ true = sym c.eq.ensures ∙ c.if-eq.true in
    let here = found_at (bytes_eq c.args.name.now) xs c.loop-at.at (omega (arith, c.count-at-end.ensures, c.loop-at-test.true))
    (ap (λ (f : List ℕ). bytes_eq c.args.name.now f) (sym c.get.ensures) ∙ same) in
    omega (arith, here, c.loop-at.invariant)

pub returns-clause-place : goal.returns-clause-place
returns-clause-place c =
    let xs = c.args.header.now in
    let last = at_end (bytes_eq c.args.name.now) xs c.loop-at.at (omega (arith, c.count-at-end.ensures, c.loop-at-test.false)) in
    omega (arith, last, c.loop-at.invariant, c.count.ensures, c.count-at-end.ensures, c.loop-at-test.false, c.loop-at.auto.at-end, c.requires)
