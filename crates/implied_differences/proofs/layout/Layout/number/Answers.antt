use Rattle.std.proofs.Common.{arith}
use Rattle.implied_differences.proofs.Bases.{number_room}
use Rattle.implied_differences.proofs.layout.Layout.number.Goals as goal

pub overflow_mul-pair : goal.overflow_mul-pair
overflow_mul-pair c =
    let l = c.args.self.now in
    let fits = (number_room l.firsts l.seconds l.count c.args.x c.args.y c.args.given c.requires.first c.requires.second c.requires.given
    c.requires.few).product in
    omega (arith, fits)

pub overflow_add-pair : goal.overflow_add-pair
overflow_add-pair c =
    let l = c.args.self.now in
    let fits = (number_room l.firsts l.seconds l.count c.args.x c.args.y c.args.given c.requires.first c.requires.second c.requires.given c.requires.few).sum in
    omega (arith, fits)

pub overflow_mul-result : goal.overflow_mul-result
overflow_mul-result c =
    let l = c.args.self.now in
    let fits = (number_room l.firsts l.seconds l.count c.args.x c.args.y c.args.given c.requires.first c.requires.second c.requires.given
    c.requires.few).times in
    omega (arith, fits)

pub overflow_add-result : goal.overflow_add-result
overflow_add-result c =
    let l = c.args.self.now in
    let fits = (number_room l.firsts l.seconds l.count c.args.x c.args.y c.args.given c.requires.first c.requires.second c.requires.given
    c.requires.few).number in
    omega (arith, fits)
