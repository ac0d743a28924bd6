use Rattle.std.proofs.Common.{◌≡◌, ◌++◌, drop}
use Rattle.identification_theory.specs.Vocabulary.{places}
use Rattle.identify.proofs.groups.places.Given as goal

abbrev pub invariant-loop-v : goal.invariant-loop-v
invariant-loop-v l = record {
  made : l.found.items ++ places l.t.bits l.i (drop l.v-index l.v-items) ≡ places l.t.bits 0 l.v-items;
  counted : l.i ≡ l.v-index;
}
