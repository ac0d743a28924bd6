use Rattle.std.proofs.Common.{◌%◌, ◌<◌, ◌∙◌, arith}
use Rattle.bound_values.proofs.Quotients.{by_quotients, no_left, no_right, turned}
use Rattle.bound_values.proofs.comparing.+is_at_most.Goals as goal

pub returns-then-left-right : goal.returns-then-left-right
returns-then-left-right t c = by_quotients c.args.a c.args.b c.args.c c.args.d c.requires.left c.requires.right c.if-left-right.true

pub returns-then-left_rest-eq0 : goal.returns-then-left_rest-eq0
returns-then-left_rest-eq0 t c = no_left c.args.a c.args.b c.args.c c.args.d c.if-left-right.false c.if-left_rest-eq0.true

pub returns-then-right_rest-eq0 : goal.returns-then-right_rest-eq0
returns-then-right_rest-eq0 t c = no_right c.args.a c.args.b c.args.c c.args.d c.requires.right c.if-left-right.false c.if-left_rest-eq0.false
    c.if-right_rest-eq0.true

pub is_at_most-requires : goal.is_at_most-requires
is_at_most-requires t c =
    let left = c.requires.left in let right = c.requires.right in
    let less : c.args.a % c.args.b < c.args.b = omega (arith, left) in
    let other : c.args.c % c.args.d < c.args.d = omega (arith, right) in
    let some = c.if-left_rest-eq0.false in let more = c.if-right_rest-eq0.false in
    (omega (arith, less, other), (omega (arith, more), omega (arith, some)))

pub returns : goal.returns
returns t c = c.is_at_most.ensures ∙ turned c.args.a c.args.b c.args.c c.args.d c.if-left-right.false
