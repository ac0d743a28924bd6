use Rattle.std.proofs.Common.{Some, None, sym, subst, rules}
use Rattle.command_words.specs.ListViews.{names_in}
use Rattle.command_words.specs.Values.{IsListed}
use Rattle.command_words.proofs.Found.{not_listed}
use Rattle.command_words.proofs.typed.listed_names.Goals as goal

pub returns-in_default-clause-ok : goal.returns-in_default-clause-ok
returns-in_default-clause-ok c = λ row uses g known. subst (λ o. IsListed o None) (c.in_default.ensures row uses g known) tt

pub returns-in_err-names-clause-none : goal.returns-in_err-names-clause-none
returns-in_err-names-clause-none c = λ row uses g known e names h.
    not_listed c.in-Some.text.now (c.in_err-names.ensures.none (search rules)) names
    (subst (λ o. IsListed o names) (sym (c.in-Some.ensures row uses g known)) h)

pub returns-clause-ok : goal.returns-clause-ok
returns-clause-ok c = λ row uses g known. subst (λ o. IsListed o (Some (names_in c.in_ok-names.names))) (c.in-Some.ensures row uses g known)
    c.in_ok-names.ensures.ok
