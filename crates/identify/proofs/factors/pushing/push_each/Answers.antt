use Rattle.std.proofs.Common.{[], ◌∷◌, length-append, sym, ap, ◌∙◌, arith}
use Rattle.do_derivation.specs.Vocabulary.{steps_view}
use Rattle.identification_theory.specs.Vocabulary.{at_place, at_each}
use Rattle.identify.specs.Lists.{onto, lists_view}
use Rattle.identify.proofs.Steps.{at_each_more}
use Rattle.identify.proofs.factors.pushing.push_each.Goals as goal

pub loop-list-preserved : goal.loop-list-preserved
loop-list-preserved c =
    let l = c.in-Some.list in
    let n = length-append c.loop-list.yielded (l ∷ []) in
    record {
      made = λ rest. c.in_ok-push_at.ensures rest ∙ c.loop-list.invariant.made (at_place c.loop-list.i (steps_view l.items) rest)
          ∙ ap (λ k. onto c.args.out.now.items (at_each 0 (lists_view c.loop-list.yielded) (at_place k (steps_view l.items) rest)))
          (let e = c.loop-list.invariant.counted in omega (arith, e))
          ∙ ap (λ p. onto c.args.out.now.items p) (sym (at_each_more c.loop-list.yielded l 0 rest));
      counted = (let e = c.loop-list.invariant.counted in omega (arith, e, n));
      room = (let r = c.loop-list.invariant.room in let g = c.in-Some.ensures.steps.1 in omega (arith, r, g));
    }
