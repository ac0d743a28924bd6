use Rattle.std.proofs.Common.{◌≡◌, ◌<◌, true, false, get_or, sym, ap, ◌∙◌, rules, arith}
use Rattle.mixed_graph.specs.Vocabulary.{has, minus}
use Rattle.do_derivation.proofs.Walks
use Rattle.do_derivation.proofs.term_moves.is_list_of.Goals as goal

pub returns-then-not-is_member-clause-list : goal.returns-then-not-is_member-clause-list
returns-then-not-is_member-clause-list c =
    let h : has c.loop-v.rest.bits (get_or c.args.list.now c.loop-v.v-index 0) ≡ false = search rules in
    sym (sym c.loop-v.invariant.left ∙ Walks.list_fails c.args.list.now c.loop-v.v-index c.loop-v.rest.bits (omega arith) h)

pub loop-v-preserved : goal.loop-v-preserved
loop-v-preserved c =
    let h : has c.loop-v.rest.bits (get_or c.args.list.now c.loop-v.v-index 0) ≡ true = search rules in
    let low : get_or c.args.list.now c.loop-v.v-index 0 < 64 = search rules in
    record {
      left = Walks.list_step c.args.list.now c.loop-v.v-index c.loop-v.rest.bits c.difference-rest.result.bits (omega arith) h
          (c.difference-rest.ensures.mask ∙ ap (λ o. minus c.loop-v.rest.bits o) c.one.ensures.mask) ∙ c.loop-v.invariant.left;
      small = Walks.small_more c.args.list.now c.loop-v.v-index (omega arith) c.loop-v.invariant.small low;
    }
