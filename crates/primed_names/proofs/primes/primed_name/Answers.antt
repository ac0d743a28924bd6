use Rattle.std.proofs.Common.{◌≡◌, ◌-◌, ◌+◌, suc, true, false, sym, ap, ◌∙◌, arith}
use Rattle.mixed_graph.specs.Vocabulary.{is_named}
use Rattle.primed_names.specs.Primed.{primed_from}
use Rattle.primed_names.proofs.Fresh.{stays, goes_on}
use Rattle.primed_names.proofs.primes.primed_name.Goals as goal

pub returns-then-is_none : goal.returns-then-is_none
returns-then-is_none c =
    let taken = c.args.taken.now in
    let free : is_named taken c.loop.text.items ≡ false = ap (is_named taken) (sym c.as_slice.ensures.value) ∙ sym c.index.ensures.has ∙ c.if-is_none.ensures in
    sym (stays (c.count-tries.result - c.loop.counter) taken c.loop.text.items free) ∙ c.loop.invariant

pub loop-preserved : goal.loop-preserved
loop-preserved c =
    let taken = c.args.taken.now in
    let left = c.count-tries.result - (c.loop.counter + 1) in
    let used : is_named taken c.loop.text.items ≡ true = ap (is_named taken) (sym c.as_slice.ensures.value) ∙ sym c.index.ensures.has ∙ c.if-is_none.ensures in
    let more : c.count-tries.result - c.loop.counter ≡ suc left = omega arith in
    ap (primed_from left taken) c.in_ok-push-2.ensures.items ∙ sym (goes_on left taken c.loop.text.items used)
    ∙ ap (λ k. primed_from k taken c.loop.text.items) (sym more) ∙ c.loop.invariant
