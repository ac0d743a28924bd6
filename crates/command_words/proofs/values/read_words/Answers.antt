use Rattle.std.proofs.Common.{map}
use Rattle.command_words.specs.Views.{row_of, texts_of, uses_in}
use Rattle.command_words.proofs.Alone.{alone}
use Rattle.command_words.proofs.values.read_words.Goals as goal

pub read_matches-requires-clause-readable : goal.read_matches-requires-clause-readable
read_matches-requires-clause-readable c =
    let call = rw c.in-Some.is at c.in_ok-call.ensures.call in
    c.requires.each (row_of c.in-Some.call.row.now) call.command

pub read_matches-requires-clause-call : goal.read_matches-requires-clause-call
read_matches-requires-clause-call c =
    let call = rw c.in-Some.is at c.in_ok-call.ensures.call in
    alone (map row_of c.args.table.now) (texts_of c.args.words.now) (row_of c.in-Some.call.row.now) (uses_in c.in-Some.call.uses) call
