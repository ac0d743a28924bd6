use Rattle.std.proofs.Common.{length, ap, sym, ◌∙◌, arith}
use Rattle.count_rows.proofs.FieldLists.{length-cut}
use Rattle.count_rows.proofs.fields.Fields.count.Goals as goal

pub returns : goal.returns
returns c =
    let n = sym (ap length c.self.view_is) ∙ length-cut 0 c.self.inside.ends.items c.self.inside.bytes.items in
    omega (arith, n, c.len.ensures, c.self.inside.ends.ok.0)
