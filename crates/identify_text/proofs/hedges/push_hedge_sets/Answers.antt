use Rattle.std.proofs.Common.{codes}
use Rattle.answer_text.specs.Vocabulary.{set_text}
use Rattle.identify_text.proofs.Lines.{seven_written}
use Rattle.identify_text.proofs.hedges.push_hedge_sets.Goals as goal

pub returns : goal.returns
returns c =
    let names = c.args.names.now in let h = c.args.h.now in
    seven_written (codes "hedge ") (set_text names h.big.bits) (codes " over ") (set_text names h.small.bits) (codes " with roots ")
    (set_text names h.roots.bits) (codes "\n")
    c.args.out.now.items _ _ _ _ _ _ _ c.in_ok-extend_from_slice.ensures.items c.in_ok-push_set.ensures c.in_ok-extend_from_slice-2.ensures.items
    c.in_ok-push_set-2.ensures
    c.in_ok-extend_from_slice-3.ensures.items c.in_ok-push_set-3.ensures c.in_ok-push.ensures.items
