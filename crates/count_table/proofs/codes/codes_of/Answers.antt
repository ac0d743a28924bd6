use Rattle.std.proofs.Common.{◌<◌, ◌-◌, ◌^◌, ℕ, List, length, drop, sym, ◌∙◌, arith, All, subst}
use Rattle.count_table.proofs.TableSteps.{AreFew, few-one, few-drop, item_length, codes-small, codes_next, codes_end}
use Rattle.count_table.proofs.codes.codes_of.Goals as goal

pub loop-i-init : goal.loop-i-init
loop-i-init c =
    record { within = omega arith; so_far = c.in_ok-codes.ensures.items ∙ sym (codes_end c.args.levels.now (length c.args.levels.now) (omega arith)) }

pub with_field-requires-clause-few : goal.with_field-requires-clause-few
with_field-requires-clause-few c =
    let lt : c.loop-i.i - 1 < length c.args.levels.now = omega (arith, c.loop-i-test.true, c.loop-i.invariant.within) in
    let n = item_length c.args.levels.now (c.loop-i.i - 1) c.count.result c.index-levels-i.result lt c.index-levels-i.is c.count.ensures.count in
    let (pos, few) = few-one c.args.levels.now (c.loop-i.i - 1) lt (record { each = c.requires.each; few = c.requires.few }) in
    omega (arith, n, few)

pub with_field-requires-clause-small : goal.with_field-requires-clause-small
with_field-requires-clause-small c =
    let few : AreFew c.args.levels.now = record { each = c.requires.each; few = c.requires.few } in
    subst (λ (l : List ℕ). All (λ code. code < 2 ^ 40) l) (sym (c.as_slice.ensures.value ∙ c.loop-i.invariant.so_far))
    (codes-small (drop c.loop-i.i c.args.levels.now) (few-drop c.args.levels.now c.loop-i.i few))

pub loop-i-preserved : goal.loop-i-preserved
loop-i-preserved c =
    let lt : c.loop-i.i - 1 < length c.args.levels.now = omega (arith, c.loop-i-test.true, c.loop-i.invariant.within) in
    let n = item_length c.args.levels.now (c.loop-i.i - 1) c.count.result c.index-levels-i.result lt c.index-levels-i.is c.count.ensures.count in
    record {
      within = omega (arith, c.loop-i.invariant.within);
      so_far = codes_next c.args.levels.now c.loop-i.i c.count.result c.as_slice.result.now c.in_ok-codes-2.codes.items c.loop-i-test.true
          c.loop-i.invariant.within n
          (c.as_slice.ensures.value ∙ c.loop-i.invariant.so_far) c.in_ok-codes-2.ensures;
    }
