use Rattle.std.proofs.Common.{refl, sym, subst}
use Rattle.std.specs.Prelude.{IfOk}
use Rattle.command_words.specs.Values.{IsNumberOr}
use Rattle.command_words.proofs.typed.number_or.Goals as goal

pub returns-in-None-clause-ok : goal.returns-in-None-clause-ok
returns-in-None-clause-ok c = λ row uses g known. subst (λ o. IsNumberOr c.args.default o c.args.low c.args.high c.args.default)
    (c.in-None.ensures row uses g known) refl

pub returns-in-Some-clause-ok : goal.returns-in-Some-clause-ok
returns-in-Some-clause-ok c = λ row uses g known. subst (λ o. IfOk c.number_of.result (IsNumberOr c.args.default o c.args.low c.args.high))
    (c.in-Some.ensures row uses g known) c.number_of.ensures.ok

pub returns-in-Some-clause-none : goal.returns-in-Some-clause-none
returns-in-Some-clause-none c = λ row uses g known e n h. c.number_of.ensures.none e n
    (subst (λ o. IsNumberOr c.args.default o c.args.low c.args.high n) (sym (c.in-Some.ensures row uses g known)) h)
