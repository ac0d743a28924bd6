use Rattle.std.proofs.Common.{◌≡◌, ◌+◌, ◌-◌, sym, get_or, arith}
use Rattle.count_rows.specs.Fields.{start_of}
use Rattle.count_rows.proofs.FieldLists.{start-first, start-behind}
use Rattle.count_rows.proofs.fields.start.Goals as goal

pub overflow_add-result : goal.overflow_add-result
overflow_add-result c =
    let e : start_of 0 c.args.ends.now c.args.place ≡ get_or c.args.ends.now (c.args.place - 1) 0 + 1 =
    start-behind c.args.ends.now c.args.place (omega arith) c.requires.there in
    record { fits = omega (arith, e, c.requires.before, (c.type_inv.ends c.args.place).fits) }

pub returns-then-place-eq0 : goal.returns-then-place-eq0
returns-then-place-eq0 c = sym (start-first c.args.ends.now c.args.place (omega arith))

pub returns-else-place-eq0 : goal.returns-else-place-eq0
returns-else-place-eq0 c = sym (start-behind c.args.ends.now c.args.place (omega arith) c.requires.there)
