use Rattle.std.proofs.Common.{◌∙◌, refl, rules, sym}
use Rattle.std.proofs.lemmas.Bool.{false≢true}
use Rattle.command_choice.specs.Choice.{one_of}
use Rattle.command_choice.proofs.OneOfTwo.{neither_asked}
use Rattle.evaluate_command.specs.Vocabulary.{evaluate_command, evaluate_row}
use Rattle.evaluate_natural.specs.Vocabulary.{evaluate_natural_command}
use Rattle.evaluate_treated.specs.Vocabulary.{evaluate_treated_command}
use Rattle.causal_cli.proofs.request.read_evaluate.Goals as goal

-- `--treated` is there, so neither an effect as it is nor a nested one is asked for
pub returns-in_err-asked-clause-none : goal.returns-in_err-asked-clause-none
returns-in_err-asked-clause-none c = λ uses g e.
    let there = sym (c.flag.ensures evaluate_row uses g refl) ∙ c.if-flag.true in
    neither_asked evaluate_command (one_of evaluate_treated_command evaluate_natural_command) uses
    (record { nothing = λ q is. false≢true (sym is.plain.treated ∙ there) })
    (neither_asked evaluate_treated_command evaluate_natural_command uses (c.in_err-asked.ensures.none uses g (search rules))
    (record { nothing = λ q is. false≢true (sym is.alone.treated ∙ there) }))

-- `--natural` is there and `--treated` isn't
pub returns-in_err-asked-2-clause-none : goal.returns-in_err-asked-2-clause-none
returns-in_err-asked-2-clause-none c = λ uses g e.
    let there = sym (c.flag-2.ensures evaluate_row uses g refl) ∙ c.if-flag-2.true in
    neither_asked evaluate_command (one_of evaluate_treated_command evaluate_natural_command) uses
    (record { nothing = λ q is. false≢true (sym is.plain.natural ∙ there) })
    (neither_asked evaluate_treated_command evaluate_natural_command uses
    (record { nothing = λ q is. false≢true (sym c.if-flag.false ∙ c.flag.ensures evaluate_row uses g refl ∙ is.treated) })
    (c.in_err-asked-2.ensures.none uses g (search rules)))

-- neither is there
pub returns-in_err-asked-3-clause-none : goal.returns-in_err-asked-3-clause-none
returns-in_err-asked-3-clause-none c = λ uses g e.
    neither_asked evaluate_command (one_of evaluate_treated_command evaluate_natural_command) uses (c.in_err-asked-3.ensures.none uses g (search rules))
    (neither_asked evaluate_treated_command evaluate_natural_command uses
    (record { nothing = λ q is. false≢true (sym c.if-flag.false ∙ c.flag.ensures evaluate_row uses g refl ∙ is.treated) })
    (record { nothing = λ q is. false≢true (sym c.if-flag-2.false ∙ c.flag-2.ensures evaluate_row uses g refl ∙ is.natural) }))

pub returns-clause-ok : goal.returns-clause-ok
returns-clause-ok c = λ uses g. c.in_ok-asked-3.ensures.ok uses g
