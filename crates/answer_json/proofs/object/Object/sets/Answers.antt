use Rattle.std.proofs.Common.{List, map, sym, ap, ◌∙◌}
use Rattle.std.proofs.lemmas.List.{at_drop_all}
use Rattle.mixed_graph.specs.declared.sets.VSet.{VSet}
use Rattle.answer_json.specs.Progress.{with_values, ended_array}
use Rattle.answer_json.specs.Values.{set_json}
use Rattle.answer_json.proofs.Arrays.{array_written}
use Rattle.answer_json.proofs.object.Object.sets.Goals as goal

pub returns : goal.returns
returns c =
    let names = c.args.names.now in
    let masks = λ (sets : List VSet). map (set_json names) (map (λ (s : VSet). s.bits) sets) in
    c.in_ok-end_array.ensures
    ∙ ap ended_array (sym (at_drop_all (λ ys. with_values (masks ys) c.loop-set.self) c.args.sets.now c.loop-set.set-index c.loop-set-test.false)
    ∙ c.loop-set.invariant)
    ∙ array_written (masks c.args.sets.now) c.args.self.now
