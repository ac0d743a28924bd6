use Rattle.std.proofs.Common.{sym, subst, ap, map}
use Rattle.std.specs.Prelude.{IfOk}
use Rattle.command_words.specs.ListViews.{names_in}
use Rattle.command_words.specs.Values.{IsListedOrEmpty}
use Rattle.command_words.proofs.typed.names_or_empty.Goals as goal

pub returns-in-None-clause-ok : goal.returns-in-None-clause-ok
returns-in-None-clause-ok c = λ row uses g known. subst (λ o. IsListedOrEmpty o (names_in c.new.result)) (c.in-None.ensures row uses g known)
    (ap (map (λ n. n.items)) c.new.ensures.items)

pub returns-in-Some-clause-ok : goal.returns-in-Some-clause-ok
returns-in-Some-clause-ok c = λ row uses g known. subst (λ o. IfOk c.names_of.result (λ names. IsListedOrEmpty o (names_in names)))
    (c.in-Some.ensures row uses g known) c.names_of.ensures.ok

pub returns-in-Some-clause-none : goal.returns-in-Some-clause-none
returns-in-Some-clause-none c = λ row uses g known e names h. c.names_of.ensures.none e names
    (subst (λ o. IsListedOrEmpty o names) (sym (c.in-Some.ensures row uses g known)) h)
