use Rattle.std.proofs.Common.{◌<◌, length, arith}
use Rattle.experiment_lists.proofs.Quotes.{boundary}
use Rattle.experiment_lists.proofs.words.first_part.Goals as goal

pub range_from-requires : goal.range_from-requires
range_from-requires c = λ _.
    let within = c.part_end-end.ensures.within in let len = c.as_bytes.ensures.len in let other = c.if-end-text.false in
    let lt : c.part_end-end.result < length c.as_bytes.result.now = omega arith in
    let below : c.part_end-end.result < length c.args.text.now = omega arith in
    boundary c.args.text.now c.as_bytes.result.now c.part_end-end.result c.as_bytes.ensures.value c.utf8.text below (c.part_end-end.ensures.cut lt).0
