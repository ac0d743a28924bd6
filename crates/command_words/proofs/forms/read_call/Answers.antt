use Rattle.std.proofs.Common.{map}
use Rattle.command_words.specs.Views.{texts_of, row_of}
use Rattle.command_words.proofs.Exact.{is_the_call, is_only_call, has_no_form}
use Rattle.command_words.proofs.forms.read_call.Goals as goal

pub returns-clause-call : goal.returns-clause-call
returns-clause-call c = is_the_call (map row_of c.args.table.now) c.requires (texts_of c.args.words.now) c.find_call.result c.find_call.ensures

pub returns-clause-only : goal.returns-clause-only
returns-clause-only c = is_only_call (map row_of c.args.table.now) c.requires (texts_of c.args.words.now) c.find_call.result c.find_call.ensures

pub returns-clause-none : goal.returns-clause-none
returns-clause-none c = has_no_form (map row_of c.args.table.now) c.requires (texts_of c.args.words.now) c.find_call.result c.find_call.ensures
