use Rattle.std.proofs.Common.{sym, subst}
use Rattle.std.specs.Prelude.{IfOk}
use Rattle.command_words.specs.Values.{IsRequiredNumber}
use Rattle.command_words.proofs.typed.required_number.Goals as goal

pub returns-clause-ok : goal.returns-clause-ok
returns-clause-ok c = λ row uses g known. subst (λ o. IfOk c.number_of.result (IsRequiredNumber o c.args.low c.args.high)) (c.option.ensures row uses g known)
    c.number_of.ensures.ok

pub returns-clause-none : goal.returns-clause-none
returns-clause-none c = λ row uses g known e n h. c.number_of.ensures.none e n
    (subst (λ o. IsRequiredNumber o c.args.low c.args.high n) (sym (c.option.ensures row uses g known)) h)
