use Rattle.std.proofs.Common.{◌≡◌, ◌≤◌, length, drop}
use Rattle.hedge.specs.Vocabulary.{first_masks}
use Rattle.identification_theory.specs.Vocabulary.{home_lists}
use Rattle.identify.specs.Lists.{lists_onto}
use Rattle.identify.proofs.homes.home_lists.Given as goal

abbrev pub invariant-loop-v : goal.invariant-loop-v
invariant-loop-v l = record {
  made : lists_onto l.lists.items (home_lists l.d.bits (first_masks l.parts.sets l.parts.count) l.before.bits (drop l.v-index l.v-items))
      ≡ home_lists l.d.bits (first_masks l.parts.sets l.parts.count) 0 l.v-items;
  few : length l.lists.items ≤ l.v-index;
}
