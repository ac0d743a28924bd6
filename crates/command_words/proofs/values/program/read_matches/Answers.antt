use Rattle.std.proofs.Common.{[], ◌∷◌}
use Rattle.command_words.specs.Views.{row_of, texts_of, uses_in}
use Rattle.command_words.proofs.Reading.{ok_gives, err_memory}
use Rattle.command_words.proofs.values.program.read_matches.Goals as goal

pub returns-clause-ok : goal.returns-clause-ok
returns-clause-ok c =
    ok_gives (row_of c.args.call.now.row.now ∷ []) c.requires.readable (texts_of c.args.words.now) (row_of c.args.call.now.row.now)
    (uses_in c.args.call.now.uses) c.requires.call _ c.in_ok-program.ensures
    c.try_get_matches_from.result c.try_get_matches_from.ensures.matches

pub returns-clause-err : goal.returns-clause-err
returns-clause-err c =
    err_memory (row_of c.args.call.now.row.now ∷ []) c.requires.readable (texts_of c.args.words.now) (row_of c.args.call.now.row.now)
    (uses_in c.args.call.now.uses) c.requires.call _ c.in_ok-program.ensures
    c.try_get_matches_from.result c.try_get_matches_from.ensures.passes
