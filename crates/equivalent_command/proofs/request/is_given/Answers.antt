use Rattle.std.proofs.Common.{sym}
use Rattle.command_words.specs.Vocabulary.{value_of}
use Rattle.equivalent_command.specs.Requests.{equivalent_row}
use Rattle.equivalent_command.proofs.Asked.{not_missing}
use Rattle.equivalent_command.proofs.request.is_given.Goals as goal

pub returns-in-Some-clause-yes : goal.returns-in-Some-clause-yes
returns-in-Some-clause-yes c = λ uses g known e none. not_missing _ (value_of uses c.args.name.now) (c.in-Some.ensures equivalent_row uses g known) none

pub returns-in-None-clause-no : goal.returns-in-None-clause-no
returns-in-None-clause-no c = λ uses g known e. sym (c.in-None.ensures equivalent_row uses g known)
