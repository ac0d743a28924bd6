use Rattle.std.proofs.Common.{◌≡◌, ◌∙◌, ◌+◌, ◌++◌, ◌∷◌, [], List, ℕ, ap, rules, true, take}
use Rattle.std.specs.Prelude.{is_ok}
use Rattle.count_rows.specs.Fields.{cut_from}
use Rattle.count_rows.proofs.FieldLists.{cut-taken}
use Rattle.count_rows.proofs.Splitting.{moved}
use Rattle.count_rows.proofs.fields.take_fields.Goals as goal

pub returns-clause-fields : goal.returns-clause-fields
returns-clause-fields c =
    let text = c.args.text.now in
    let ends = c.split.new.ends.items in
    let good : is_ok c.extend_from_slice.result ≡ true = search rules in
    let copied : c.extend_from_slice.new.self.items ≡ c.clear.new.self.items ++ take c.in-Ok.end text = rw good at c.extend_from_slice.ensures.items in
    let one : c.extend_from_slice.new.self.items ≡ take c.in-Ok.end text = copied ∙ ap (λ (l : List ℕ). l ++ take c.in-Ok.end text) c.clear.ensures.items in
    let pushed : is_ok c.push.result ≡ true = search rules in
    let two : c.push.new.self.items ≡ c.extend_from_slice.new.self.items ++ 10 ∷ [] = rw pushed at c.push.ensures.items in
    moved text (cut_from 0 ends text) (cut_from 0 ends c.push.new.self.items) (c.in-Ok.end + 1) c.behind.result c.in-Ok.ensures.goes
    (cut-taken ends text c.extend_from_slice.new.self.items c.push.new.self.items c.in-Ok.end 10 c.in-Ok.ensures.ordered c.in-Ok.ensures.within one two)
    c.behind.ensures.same
