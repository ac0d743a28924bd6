use Rattle.count_rows.proofs.FieldLists.{ends-nil, cut-nil}
use Rattle.count_rows.proofs.fields.Fields.none.Goals as goal

pub invariant_of-result : goal.invariant_of-result
invariant_of-result c = ends-nil c.new-2.result.items c.new.result.items c.new-2.ensures.items c.new.ensures.items

pub returns : goal.returns
returns c = cut-nil c.new-2.result.items c.new.result.items c.new-2.ensures.items
