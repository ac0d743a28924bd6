use Rattle.std.proofs.Common.{◌≡◌, Bool, sym, refl, ◌∙◌, rules}
use Rattle.std.proofs.lemmas.Option.{none-some}
use Rattle.derived_certificates.specs.Vocabulary.{certified_form}
use Rattle.treated_command.specs.Requests.{treated_row}
use Rattle.treated_command.proofs.request.Request.read.Goals as goal

-- the form by the flags as they are read is that by the uses
flags : {a b d certificate latex json : Bool} → a ≡ certificate → b ≡ latex → d ≡ json → certified_form a b d ≡ certified_form certificate latex json
flags one two three = λ i. certified_form (one i) (two i) (three i)

pub returns-in_default-clause-none : goal.returns-in_default-clause-none
returns-in_default-clause-none c = λ uses g e. record {
  nothing = λ r is. none-some r.form (c.in_default.ensures ∙ flags (c.flag-certificate.ensures treated_row uses g refl) (c.flag-latex.ensures treated_row uses g refl) (c.flag-json.ensures treated_row uses g refl) ∙ is.form);
}

pub returns-in_err-file-clause-none : goal.returns-in_err-file-clause-none
returns-in_err-file-clause-none c =
    λ uses g e. record { nothing = λ r is. c.in_err-file.ensures.none treated_row uses g (refl, refl, refl) (search rules) r.file r.x r.y is.subject }

pub returns-in_err-given-clause-none : goal.returns-in_err-given-clause-none
returns-in_err-given-clause-none c =
    λ uses g e. record { nothing = λ r is. c.in_err-given.ensures.none treated_row uses g refl (search rules) r.given is.given }

pub returns-clause-ok : goal.returns-clause-ok
returns-clause-ok c = λ uses g. record {
  subject = c.in_ok-file.ensures.ok treated_row uses g (refl, refl, refl);
  given = c.in_ok-given.ensures.ok treated_row uses g refl;
  form = sym (flags (c.flag-certificate.ensures treated_row uses g refl) (c.flag-latex.ensures treated_row uses g refl) (c.flag-json.ensures treated_row uses g refl)) ∙ sym c.in-Some.ensures;
}
