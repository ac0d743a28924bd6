use Rattle.std.proofs.Common.{◌≡◌, drop, map}
use Rattle.mixed_graph.specs.declared.sets.VSet.{VSet}
use Rattle.identification_theory.specs.Vocabulary.{home}
use Rattle.identify.proofs.homes.home.Given as goal

abbrev pub invariant-loop-t : goal.invariant-loop-t
invariant-loop-t l = home (map (λ (s : VSet). s.bits) (drop l.t-index l.t-items)) l.v ≡ home (map (λ (s : VSet). s.bits) l.t-items) l.v
