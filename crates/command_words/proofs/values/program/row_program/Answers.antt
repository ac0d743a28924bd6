use Rattle.command_words.specs.Views.{row_of}
use Rattle.command_words.proofs.Building.{row_built}
use Rattle.command_words.proofs.values.program.row_program.Goals as goal

pub returns-clause-shape : goal.returns-clause-shape
returns-clause-shape c =
    row_built (row_of c.args.row.now) _ _ _ _ _ _ c.new-program.ensures.app c.in_ok-program.ensures.shape c.in_ok-program-2.ensures.shape
    c.in_ok-program-3.ensures.shape
    c.in_ok-program-4.ensures.shape c.in_ok-program-5.ensures.shape
