use Rattle.std.proofs.Common.{sym, refl, subst, codes, rules, ap, ◌∙◌}
use Rattle.command_words.specs.Vocabulary.{value_of, IsRequiredNumber}
use Rattle.do_rules.specs.Vocabulary.{number_of}
use Rattle.replies.specs.Vocabulary.{format_of}
use Rattle.separation_commands.specs.RuleRequests.{rule_row}
use Rattle.separation_commands.proofs.rule.request.Request.read.Goals as goal

pub returns-in_err-file-clause-none : goal.returns-in_err-file-clause-none
returns-in_err-file-clause-none c = λ uses g e. record { nothing = λ r is. c.in_err-file.ensures.none rule_row uses g refl (search rules) r.file is.file }

pub returns-in_err-number-clause-none : goal.returns-in_err-number-clause-none
returns-in_err-number-clause-none c =
    λ uses g e. record { nothing = λ r is. c.in_err-number.ensures.none rule_row uses g refl (search rules) (number_of r.rule) is.rule }

pub returns-in_err-y-clause-none : goal.returns-in_err-y-clause-none
returns-in_err-y-clause-none c = λ uses g e. record { nothing = λ r is. c.in_err-y.ensures.none rule_row uses g refl (search rules) r.y is.y }

pub returns-in_err-x-clause-none : goal.returns-in_err-x-clause-none
returns-in_err-x-clause-none c = λ uses g e. record { nothing = λ r is. c.in_err-x.ensures.none rule_row uses g refl (search rules) r.x is.x }

pub returns-in_err-z-clause-none : goal.returns-in_err-z-clause-none
returns-in_err-z-clause-none c = λ uses g e. record { nothing = λ r is. c.in_err-z.ensures.none rule_row uses g refl (search rules) r.z is.z }

pub returns-in_err-given-clause-none : goal.returns-in_err-given-clause-none
returns-in_err-given-clause-none c = λ uses g e. record { nothing = λ r is. c.in_err-given.ensures.none rule_row uses g refl (search rules) r.given is.given }

pub returns-clause-ok : goal.returns-clause-ok
returns-clause-ok c = λ uses g. record {
  file = c.in_ok-file.ensures.ok rule_row uses g refl;
  rule = subst (λ n. IsRequiredNumber (value_of uses (codes "rule")) 1 3 n) (sym c.of.ensures) (c.in_ok-number.ensures.ok rule_row uses g refl);
  y = c.in_ok-y.ensures.ok rule_row uses g refl;
  x = c.in_ok-x.ensures.ok rule_row uses g refl;
  z = c.in_ok-z.ensures.ok rule_row uses g refl;
  given = c.in_ok-given.ensures.ok rule_row uses g refl;
  format = c.of-format.ensures ∙ ap format_of (c.flag-json.ensures rule_row uses g refl);
}
