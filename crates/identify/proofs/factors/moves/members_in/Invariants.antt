use Rattle.std.proofs.Common.{◌≡◌, ◌≤◌, ℕ, ◌++◌, length, take, drop, get_or}
use Rattle.identification_theory.specs.Vocabulary.{in_order}
use Rattle.identify.proofs.factors.moves.members_in.Given as goal

abbrev pub invariant-loop-v : goal.invariant-loop-v
invariant-loop-v l = record {
  left : take l.count l.list ++ in_order l.t.bits (drop l.v-index l.order) ≡ in_order l.t.bits l.order;
  few : l.count ≤ l.v-index;
  long : length l.list ≡ 64;
  blank : (i : ℕ) → l.count ≤ i → get_or l.list i 0 ≡ 0;
}
