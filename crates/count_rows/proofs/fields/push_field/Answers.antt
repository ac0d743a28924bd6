use Rattle.std.proofs.Common.{◌≡◌, length, arith}
use Rattle.count_rows.proofs.FieldLists.{ends-pushed, cut-pushed}
use Rattle.count_rows.proofs.fields.push_field.Goals as goal

pub returns-clause-ordered : goal.returns-clause-ordered
returns-clause-ordered c =
    let at : c.len-end.result ≡ length c.extend_from_slice.new.self.items = omega (arith, c.len-end.ensures, c.extend_from_slice.new.self.ok.0) in
    ends-pushed c.args.ends.now.items c.push-2.new.self.items c.args.bytes.now.items c.extend_from_slice.new.self.items c.push.new.self.items
    c.args.field.now c.len-end.result 44 c.requires c.in_ok-extend_from_slice.ensures.items at c.in_ok-push.ensures.items c.in_ok-push-2.ensures.items

pub returns-clause-fields : goal.returns-clause-fields
returns-clause-fields c =
    let at : c.len-end.result ≡ length c.extend_from_slice.new.self.items = omega (arith, c.len-end.ensures, c.extend_from_slice.new.self.ok.0) in
    cut-pushed c.args.ends.now.items c.push-2.new.self.items c.args.bytes.now.items c.extend_from_slice.new.self.items c.push.new.self.items
    c.args.field.now c.len-end.result 44 c.requires c.in_ok-extend_from_slice.ensures.items at c.in_ok-push.ensures.items c.in_ok-push-2.ensures.items
