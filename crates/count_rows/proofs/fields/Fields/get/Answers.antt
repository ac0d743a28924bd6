use Rattle.std.proofs.Common.{length, ap, sym, ◌∙◌, arith}
use Rattle.count_rows.proofs.FieldLists.{length-cut, no_field}
use Rattle.count_rows.proofs.fields.Fields.get.Goals as goal

pub returns-then-place-len : goal.returns-then-place-len
returns-then-place-len c =
    let n = sym (ap length c.self.view_is) ∙ length-cut 0 c.self.inside.ends.items c.self.inside.bytes.items in
    no_field c.args.self.now c.args.place (omega (arith, n, c.len.ensures, c.self.inside.ends.ok.0, c.if-place-len.true))
