use Rattle.std.proofs.Common.{◌≡◌, ◌∙◌, arith, sym, true, nat_lt}
use borrow.Author.Tests.{ltb-true}
use Rattle.count_cases.proofs.times.table_of.Goals as goal

pub read_counts-requires-clause-named : goal.read_counts-requires-clause-named
read_counts-requires-clause-named c = λ v h.
    let t : nat_lt v c.count.result ≡ true = sym (c.below-used.ensures.members v) ∙ h in
    let l = ltb-true v c.count.result t in omega (arith, l, c.count.ensures.count)
