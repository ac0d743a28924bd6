use Rattle.std.proofs.Common.{length, ap, arith}
use Rattle.derived_certificates.proofs.Keeping.{all_short, next_short}
use Rattle.derived_certificates.proofs.kept.have_short_steps.Goals as goal

pub loop-part-preserved : goal.loop-part-preserved
loop-part-preserved c = next_short c.args.parts.now.items _ c.loop-part.part-index c.part-item.result c.deref-part-items.ensures.value c.loop-part-test.true
    c.part-item.is c.has_short.ensures c.loop-part.invariant

pub returns : goal.returns
returns c = all_short c.args.parts.now.items c.loop-part.part-index (let e = ap length c.deref-part-items.ensures.value in omega arith) c.loop-part.invariant
