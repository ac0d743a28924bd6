use Rattle.command_words.proofs.ListLaw.{is_list, is_only_list, is_no_list}
use Rattle.command_words.proofs.lists.read_list.Goals as goal

pub returns-clause-list : goal.returns-clause-list
returns-clause-list c = is_list c.args.text.now c.find_list.result c.find_list.ensures

pub returns-clause-only : goal.returns-clause-only
returns-clause-only c = is_only_list c.args.text.now c.find_list.result c.find_list.ensures

pub returns-clause-none : goal.returns-clause-none
returns-clause-none c = is_no_list c.args.text.now c.find_list.result c.find_list.ensures
