use Rattle.std.proofs.Common.{◌≡◌, length, drop, map}
use Rattle.mixed_graph.specs.declared.sets.VSet.{VSet}
use Rattle.do_derivation.specs.Vocabulary.{listed}
use Rattle.identification_theory.specs.Vocabulary.{unchain_lists}
use Rattle.identify.specs.Lists.{lists_onto}
use Rattle.identify.proofs.groups.unchain_lists.Given as goal

abbrev pub invariant-loop-t : goal.invariant-loop-t
invariant-loop-t l = record {
  made : lists_onto l.lists.items (unchain_lists (map (λ (s : VSet). s.bits) (drop l.t-index l.t-items)) (listed l.chain))
      ≡ unchain_lists (map (λ (s : VSet). s.bits) l.t-items) (listed l.chain);
  counted : length l.lists.items ≡ l.t-index;
}
