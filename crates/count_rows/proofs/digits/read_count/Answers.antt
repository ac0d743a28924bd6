use Rattle.std.proofs.Common.{ℕ, suc, ◌≡◌, ◌+◌, ◌-◌, ◌*◌, ◌<◌, ◌≤◌, ◌∙◌, ap, sym, subst, arith, List, ◌∷◌, drop, length, get_or, drop-cons}
use Rattle.count_rows.specs.Numbers.{value_after, most_counted}
use Rattle.count_rows.proofs.DecimalSteps.{digits_step, value_over}
use Rattle.count_rows.proofs.digits.read_count.Invariants.{CountsDigits}
use Rattle.count_rows.proofs.digits.read_count.Goals as goal
use Rattle.count_rows.proofs.digits.read_count.Goals.{then-value-le-MOST, else-value-le-MOST}

-- one digit more, where the value is not over the most
more : (v b : ℕ) (rest all : List ℕ) → CountsDigits v (b ∷ rest) all → 48 ≤ b → b ≤ 57 → v ≤ most_counted → CountsDigits (10 * v + (b - 48)) rest all
more v b rest all r l h le = record {
  digits = sym (digits_step b rest l h) ∙ r.digits;
  exact = λ small. r.exact le;
  over = λ large. value_over v b rest (value_after 0 all) (r.exact le) large;
  small = omega arith;
}

same : (v b : ℕ) (rest all : List ℕ) → CountsDigits v (b ∷ rest) all → 48 ≤ b → b ≤ 57 → most_counted < v → CountsDigits v rest all
same v b rest all r l h lt = record {
  digits = sym (digits_step b rest l h) ∙ r.digits;
  exact = λ small. absurd (omega arith);
  over = r.over;
  small = r.small;
}

pub loop-b-preserved : goal.loop-b-preserved
loop-b-preserved c =
    let i = c.loop-b.b-index in let xs = c.args.field.now in
    let lt : i < length xs = omega arith in
    let split : drop i xs ≡ get_or xs i 0 ∷ drop (i + 1) xs = drop-cons xs i 0 lt
    ∙ ap (λ j. get_or xs i 0 ∷ drop j xs) (let k : suc i ≡ i + 1 = omega arith in k) in
    let r = subst (λ ys. CountsDigits c.loop-b.value ys xs) split c.loop-b.invariant in
    elim c.if-value-le-MOST.branch [
      | then-value-le-MOST w ↦ subst (λ v. CountsDigits v (drop (i + 1) xs) xs) (sym (w.value-is ∙ ap (λ n. 10 * c.loop-b.value + n) w.from.ensures))
          (more c.loop-b.value (get_or xs i 0) (drop (i + 1) xs) xs r (omega arith) (omega arith) (omega (arith, w.if-value-le-MOST.true)))
      | else-value-le-MOST w ↦ subst (λ v. CountsDigits v (drop (i + 1) xs) xs) (sym w.value-is)
          (same c.loop-b.value (get_or xs i 0) (drop (i + 1) xs) xs r (omega arith) (omega arith) (omega (arith, w.if-value-le-MOST.false)))
    ]
