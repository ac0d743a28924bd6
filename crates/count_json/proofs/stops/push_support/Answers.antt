use Rattle.std.proofs.Common.{◌≡◌, ◌∙◌, ℕ, List, [], map, codes, ap}
use Rattle.count_eval.specs.Vocabulary.{cell_of}
use Rattle.answer_json.specs.Vocabulary.{items, with_key, with_values, ended_array}
use Rattle.answer_json.proofs.Arrays.{array_written}
use Rattle.count_json.specs.Cells.{level_json}
use Rattle.count_json.proofs.stops.push_support.Goals as goal

pub returns : goal.returns
returns c =
    let names = c.args.names.now in
    let t = c.args.counts.now in
    let begun = c.begin_array.new.self in
    let levels = map (λ v. level_json names t v (cell_of c.args.cell.now v)) t.vertices in
    let same : c.as_slice.result.now ≡ t.vertices = c.as_slice.ensures.value ∙ c.in_ok-list.ensures ∙ c.used.ensures.members in
    c.in_ok-end_array.ensures
    ∙ ap ended_array (c.in_ok-push_levels.ensures
    ∙ ap (λ (vs : List ℕ). with_values (map (λ v. level_json names t v (cell_of c.entries.result.now v)) vs) begun) same
    ∙ ap (λ (at : List ℕ). with_values (map (λ v. level_json names t v (cell_of at v)) t.vertices) begun) c.entries.ensures.same
    ∙ ap (with_values levels) (c.in_ok-begin_array.ensures ∙ ap (λ p. items p []) c.in_ok-key.ensures))
    ∙ array_written levels (with_key (codes "cell") c.args.object.now)
