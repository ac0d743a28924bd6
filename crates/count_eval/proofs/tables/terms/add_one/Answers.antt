use Rattle.count_eval.proofs.Room.{room_kept}
use Rattle.count_eval.proofs.tables.terms.add_one.Goals as goal

pub returns-clause-most : goal.returns-clause-most
returns-clause-most c = room_kept c.args.sums.now c.add.new.self c.args.of.bits c.args.most c.add.result c.add.ensures.table c.add.ensures.sets
