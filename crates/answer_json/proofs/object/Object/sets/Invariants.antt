use Rattle.std.proofs.Common.{◌≡◌, map, drop, []}
use Rattle.mixed_graph.specs.declared.sets.VSet.{VSet}
use Rattle.answer_json.specs.Values.{set_json}
use Rattle.answer_json.specs.Progress.{items, with_values}
use Rattle.answer_json.proofs.object.Object.sets.Given as goal

abbrev pub invariant-loop-set : goal.invariant-loop-set
invariant-loop-set l = with_values (map (set_json l.names) (map (λ (s : VSet). s.bits) (drop l.set-index l.sets))) l.self
    ≡ with_values (map (set_json l.names) (map (λ (s : VSet). s.bits) l.sets)) (items l.fn.self [])
