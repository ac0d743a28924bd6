use Rattle.std.proofs.Common.{refl, lit≤, arith}
use Rattle.std.proofs.lemmas.Bool.{false≢true}
use Rattle.causal_io.proofs.outside.FileShelfShelf.TheImpl.Goals as goal

-- no name is lacked, and no content is told
pub read-tells : goal.read-tells
read-tells g c = record {
  bound = c.ensures.bound;
  told = tt;
  lacked = λ p. absurd (false≢true p);
  failed = c.ensures.failed;
  never_falls = c.ensures.never_falls;
  others = λ other apart _. c.ensures.others other apart;
  one_read = lit≤ tt;
  gives = omega arith;
  other_reads = λ other apart. refl;
  other_given = λ other apart. refl;
  holds = refl;
  lack = refl;
}
