use Rattle.std.proofs.Common.{◌≡◌, ◌++◌, drop, map}
use Rattle.mixed_graph.specs.declared.sets.VSet.{VSet}
use Rattle.do_derivation.specs.Vocabulary.{listed, numbers_of}
use Rattle.identification_theory.specs.Vocabulary.{group_lists}
use Rattle.identify.proofs.groups.group_lists.Given as goal

abbrev pub invariant-loop-t : goal.invariant-loop-t
invariant-loop-t l = numbers_of l.groups.items ++ group_lists (map (λ (s : VSet). s.bits) (drop l.t-index l.t-items)) (listed l.chain)
    ≡ group_lists (map (λ (s : VSet). s.bits) l.t-items) (listed l.chain)
