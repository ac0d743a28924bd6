use Rattle.std.proofs.Common.{rules}
use Rattle.command_words.specs.Form.{word_of}
use Rattle.command_words.proofs.Inputs.{with_second}
use Rattle.command_words.proofs.typed.second_input.Goals as goal

pub returns-in_err-second-clause-none : goal.returns-in_err-second-clause-none
returns-in_err-second-clause-none c = λ row uses g known e text is two. c.in_err-second.ensures.none row uses g known (search rules) text is

pub returns-then-are_both_standard-clause-none : goal.returns-then-are_both_standard-clause-none
returns-then-are_both_standard-clause-none c = λ row uses g known e text is two.
    c.are_both_standard.ensures.yes c.if-are_both_standard.true (with_second (word_of row uses c.args.name.now)
    c.args.file.now text c.in_ok-second.second.now is (c.in_ok-second.ensures.ok row uses g known) two)

pub returns-clause-ok : goal.returns-clause-ok
returns-clause-ok c = c.in_ok-second.ensures.ok

pub returns-clause-inputs : goal.returns-clause-inputs
returns-clause-inputs c = c.are_both_standard.ensures.no c.if-are_both_standard.false
