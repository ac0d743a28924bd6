use Rattle.count_rows.proofs.FieldLists.{ends-nil, cut-nil}
use Rattle.count_rows.proofs.fields.take_away.Goals as goal

pub returns : goal.returns
returns c = record {
  ordered = ends-nil c.clear-2.new.self.items c.clear.new.self.items c.clear-2.ensures.items c.clear.ensures.items;
  fields = cut-nil c.clear-2.new.self.items c.clear.new.self.items c.clear-2.ensures.items;
}
