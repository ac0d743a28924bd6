use Rattle.std.proofs.Common.{arith}
use Rattle.std.proofs.lemmas.List.{take_rest}
use Rattle.count_rows.specs.Reader.{GivesNext}
use Rattle.count_rows.proofs.ReadingSteps.{another, all_read}
use Rattle.count_rows.proofs.reader.read.Goals as goal

pub returns-then-from-text : goal.returns-then-from-text
unfolding GivesNext
returns-then-from-text c before h =
    all_read c.args.text.now before c.args.at c.skip_line_ends-from.result h c.skip_line_ends-from.ensures.same (omega arith)

pub returns-in-Ok : goal.returns-in-Ok
unfolding GivesNext
returns-in-Ok c before h =
    another c.args.text.now before c.args.at c.skip_line_ends-from.result c.in-Ok.next c.take_record.new.into h c.skip_line_ends-from.ensures.same
    (omega arith) (c.skip_line_ends-from.ensures.begins (omega arith))
    (rw (take_rest c.args.text.now c.skip_line_ends-from.result) at c.in-Ok.ensures.fields)

pub returns-in-Err : goal.returns-in-Err
unfolding GivesNext
returns-in-Err c before h = tt
