use Rattle.std.proofs.Common.{◌+◌, ℕ, List, codes, drop, map, sym, ap, ◌∙◌, add-one, drop-cons, arith}
use Rattle.json.specs.Json.{Json, string}
use Rattle.answer_json.specs.Vocabulary.{with_value, with_values}
use Rattle.treated_command.proofs.objects.push_each_mark.Goals as goal

pub loop-preserved : goal.loop-preserved
loop-preserved c =
    let path = c.args.path.now in let i = c.loop.index in
    let marks : List ℕ → List Json = map (λ v. string (codes "<->")) in
    ap (with_values (marks (drop (i + 1) path))) c.in_ok-string.ensures
    ∙ ap (λ k. with_values (marks (drop k path)) (with_value (string (codes "<->")) c.loop.object)) (add-one i)
    ∙ ap (λ vs. with_values (marks vs) c.loop.object) (sym (drop-cons path i 0 (omega arith)))
    ∙ c.loop.invariant
