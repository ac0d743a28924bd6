use Rattle.std.proofs.Common.{arith}
use Rattle.count_table.proofs.CodeLaws.{room-is, room-most}
use Rattle.count_table.proofs.codes.room_for.Goals as goal

pub returns-clause-room : goal.returns-clause-room
returns-clause-room c =
    let e = c.from.ensures in
    room-is c.next_power_of_two.result (c.next_power_of_two.ensures.power).0 c.args.levels (c.next_power_of_two.ensures.power).1
    c.requires.some c.requires.few
    (let l = c.next_power_of_two.ensures.lower_bound in omega (arith, l, e))
    (rw e at c.next_power_of_two.ensures.upper_bound)

pub returns-clause-most : goal.returns-clause-most
returns-clause-most c =
    let same = returns-clause-room c in
    let most = room-most c.args.levels in
    omega (arith, same, most)
