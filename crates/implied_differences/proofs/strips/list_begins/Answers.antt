use Rattle.std.proofs.Common.{◌+◌, ◌<◌, ◌≤◌, length, sym, ap, subst, set, get_or, ◌≡◌, ◌∙◌, inl, inr, length-set, arith}
use Rattle.std.proofs.lemmas.Bool.{cases_eq}
use Rattle.std.proofs.lemmas.List.{get_or-set_same, get_or-set_other}
use Rattle.implied_differences.specs.Layouts.{base_of}
use Rattle.implied_differences.proofs.Bases.{begins}
use Rattle.implied_differences.proofs.strips.list_begins.Goals as goal

pub next-next-requires-clause-begin : goal.next-next-requires-clause-begin
next-next-requires-clause-begin c =
    subst (λ n. n ≤ 1048576) (sym (begins c.args.l.now c.loop-j.next c.loop-j.invariant.base ∙ ap (base_of c.args.l.now) c.loop-j.invariant.number))
    (c.requires.small c.loop-j.j (omega arith))

pub loop-j-preserved : goal.loop-j-preserved
loop-j-preserved c =
    let inv = c.loop-j.invariant in
    let now = c.loop-j.begins in
    let k = c.loop-j.j in
    let long = inv.long in
    let number = inv.number in
    let next = c.next-next.ensures.number in
    record {
      long = length-set now k c.loop-j.next.begin ∙ inv.long;
      each = λ j lt. elim (cases_eq j k) [
        | inl e ↦ (
            let inside : k < length now = omega (arith, long) in
            subst (λ n. get_or (set now k c.loop-j.next.begin) n 0 ≡ base_of c.args.l.now (c.args.block.number + n)) (sym e)
            (get_or-set_same now k c.loop-j.next.begin 0 inside ∙ begins c.args.l.now c.loop-j.next inv.base ∙ ap (base_of c.args.l.now) inv.number)
            )
        | inr ne ↦ get_or-set_other now k j c.loop-j.next.begin 0 ne ∙ inv.each j (omega (arith, ne))
      ];
      number = omega (arith, number, next);
      base = c.next-next.ensures.base;
    }
