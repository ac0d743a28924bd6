use Rattle.std.proofs.Common.{Err, refl, ap₂}
use Rattle.replies.specs.Vocabulary.{refusal_of}
use Rattle.bounds_command.specs.declared.faults.BoundsFault.TheVariants.{TooLong}
use Rattle.bounds_command.proofs.reply.long_counts.Goals as goal

pub returns : goal.returns
returns c = λ format exact g names q count bytes long. record {
  answer = Err TooLong;
  right = long;
  ends = refl;
  prints = ap₂ refusal_of c.in_ok-size_line.ensures c.in_ok-count_size.ensures.text;
}
