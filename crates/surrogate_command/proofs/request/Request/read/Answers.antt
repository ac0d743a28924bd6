use Rattle.std.proofs.Common.{◌≡◌, Bool, sym, refl, ◌∙◌, rules}
use Rattle.std.proofs.lemmas.Option.{none-some}
use Rattle.surrogate_command.specs.Forms.{form_for}
use Rattle.surrogate_command.specs.Requests.{surrogate_row}
use Rattle.surrogate_command.proofs.request.Request.read.Goals as goal

-- the form by the flags as they are read is that by the uses
flags : {a b d models certificate json : Bool} → a ≡ models → b ≡ certificate → d ≡ json → form_for a b d ≡ form_for models certificate json
flags one two three = λ i. form_for (one i) (two i) (three i)

pub returns-in_default-clause-none : goal.returns-in_default-clause-none
returns-in_default-clause-none c = λ uses g e. record {
  nothing = λ r is. none-some r.form (c.in_default.ensures
      ∙ flags (c.flag-models.ensures surrogate_row uses g refl) (c.flag-certificate.ensures surrogate_row uses g refl)
      (c.flag-json.ensures surrogate_row uses g refl) ∙ is.form);
}

pub returns-in_err-file-clause-none : goal.returns-in_err-file-clause-none
returns-in_err-file-clause-none c =
    λ uses g e. record { nothing = λ r is. c.in_err-file.ensures.none surrogate_row uses g (refl, refl, refl) (search rules) r.file r.x r.y is.subject }

pub returns-in_err-experiments-clause-none : goal.returns-in_err-experiments-clause-none
returns-in_err-experiments-clause-none c =
    λ uses g e. record { nothing = λ r is. c.in_err-experiments.ensures.none surrogate_row uses g refl (search rules) r.experiments is.experiments }

pub returns-clause-ok : goal.returns-clause-ok
returns-clause-ok c = λ uses g. record {
  subject = c.in_ok-file.ensures.ok surrogate_row uses g (refl, refl, refl);
  experiments = c.in_ok-experiments.ensures.ok surrogate_row uses g refl;
  form = sym (flags (c.flag-models.ensures surrogate_row uses g refl) (c.flag-certificate.ensures surrogate_row uses g refl)
      (c.flag-json.ensures surrogate_row uses g refl)) ∙ sym c.in-Some.ensures;
}
