use Rattle.std.proofs.Common.{sym, ap, ◌∙◌}
use Rattle.answer_json.specs.Vocabulary.{with_values}
use Rattle.answer_json.proofs.Arrays.{both_written}
use Rattle.hedge_json.specs.declared.bits.Bit.TheVariants.{HedgeBit, CarriedBit}
use Rattle.hedge_json.specs.Models.{part_values}
use Rattle.hedge_json.proofs.parts.push_parity.Goals as goal

pub returns : goal.returns
returns c =
    let first = part_values c.args.names.now HedgeBit c.args.v c.args.hedge.now in
    let second = part_values c.args.names.now CarriedBit c.args.v c.args.carried.now in
    c.in_ok-push_part-2.ensures ∙ ap (with_values second) c.in_ok-push_part.ensures ∙ sym (both_written first second c.args.object.now)
