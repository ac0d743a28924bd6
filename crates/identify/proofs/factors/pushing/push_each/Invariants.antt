use Rattle.std.proofs.Common.{◌≡◌, ◌≤◌, ◌+◌, length}
use Rattle.do_derivation.specs.Plans.{Plans}
use Rattle.identification_theory.specs.Vocabulary.{at_each}
use Rattle.identify.specs.Lists.{onto, lists_view}
use Rattle.identify.proofs.factors.pushing.push_each.Given as goal

abbrev pub invariant-loop-list : goal.invariant-loop-list
invariant-loop-list l = record {
  made : (rest : Plans) → onto l.out.items rest ≡ onto l.initial.out.items (at_each 0 (lists_view l.yielded) rest);
  counted : l.i ≡ length l.yielded;
  room : l.i + goal.iterator-loop-list.remaining l.list-iterator ≤ 64;
}
