use Rattle.std.proofs.Common.{◌≡◌, take}
use Rattle.do_derivation.specs.View.{numbers_of}
use Rattle.do_derivation.proofs.copying.copy_groups.Given as goal

abbrev pub invariant-loop-group : goal.invariant-loop-group
invariant-loop-group l = numbers_of l.copies.items ≡ numbers_of (take l.group-index l.groups.items)
