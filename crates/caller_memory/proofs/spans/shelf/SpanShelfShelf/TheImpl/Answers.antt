use Rattle.std.proofs.Common.{refl, lit≤, arith}
use Rattle.caller_memory.proofs.spans.shelf.SpanShelfShelf.TheImpl.Goals as goal

-- reads are not counted here
pub read-tells : goal.read-tells
read-tells g c = record {
  bound = c.ensures.bound;
  told = c.ensures.told;
  lacked = c.ensures.lacked;
  failed = c.ensures.failed;
  never_falls = c.ensures.never_falls;
  others = c.ensures.others;
  one_read = lit≤ tt;
  gives = omega arith;
  other_reads = λ other apart. refl;
  other_given = λ other apart. refl;
  holds = c.ensures.holds;
  lack = c.ensures.lack;
}
