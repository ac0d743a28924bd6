use Rattle.std.proofs.Common.{◌≡◌, drop, map}
use Rattle.mixed_graph.specs.declared.sets.VSet.{VSet}
use Rattle.do_derivation.specs.Vocabulary.{listed}
use Rattle.identification_theory.specs.Vocabulary.{has_pair}
use Rattle.identify.proofs.groups.has_pair.Given as goal

abbrev pub invariant-loop-t : goal.invariant-loop-t
invariant-loop-t l = has_pair (listed l.order) (map (λ (s : VSet). s.bits) (drop l.t-index l.t-items))
    ≡ has_pair (listed l.order) (map (λ (s : VSet). s.bits) l.t-items)
