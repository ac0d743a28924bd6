use Rattle.std.proofs.Common.{◌∙◌, codes, option_map, ap, sym, refl, rules}
use Rattle.command_words.specs.Vocabulary.{value_of, names_in}
use Rattle.command_words.proofs.Inputs.{with_file}
use Rattle.replies.specs.Vocabulary.{format_of}
use Rattle.bounds_command.specs.Requests.{bounds_row}
use Rattle.bounds_command.proofs.NoWays.{no_way}
use Rattle.bounds_command.proofs.request.Request.read.Goals as goal

pub returns-in_err-file-clause-none : goal.returns-in_err-file-clause-none
returns-in_err-file-clause-none c =
    λ uses g e. record { nothing = λ r is. c.in_err-file.ensures.none bounds_row uses g (refl, refl, refl) (search rules) r.file r.x r.y is.subject }

pub returns-in_err-counts-clause-none : goal.returns-in_err-counts-clause-none
returns-in_err-counts-clause-none c = λ uses g e. record {
  nothing = λ r is. c.in_err-counts.ensures.none bounds_row uses g refl (search rules) r.counts is.counts
      (with_file _ _ _ _ is.subject.is_file (c.in_ok-file.ensures.ok bounds_row uses g (refl, refl, refl)).is_file is.inputs);
}

pub returns-in_err-set-clause-none : goal.returns-in_err-set-clause-none
returns-in_err-set-clause-none c = λ uses g e. record { nothing = λ r is. c.in_err-set.ensures.none bounds_row uses g refl (search rules) is.set is.is_set }

pub returns-in_err-given-clause-none : goal.returns-in_err-given-clause-none
returns-in_err-given-clause-none c =
    λ uses g e. record { nothing = λ r is. c.in_err-given.ensures.none bounds_row uses g refl (search rules) is.given is.is_given }

pub returns-in_err-instruments-clause-none : goal.returns-in_err-instruments-clause-none
returns-in_err-instruments-clause-none c = λ uses g e. record {
  nothing = λ r is. c.in_err-instruments.ensures.none bounds_row uses g refl (search rules) is.instruments is.are_instruments;
}

pub returns-in_err-strata-clause-none : goal.returns-in_err-strata-clause-none
returns-in_err-strata-clause-none c =
    λ uses g e. record { nothing = λ r is. c.in_err-strata.ensures.none bounds_row uses g refl (search rules) is.strata is.are_strata }

pub returns-in_default-clause-none : goal.returns-in_default-clause-none
returns-in_default-clause-none c = λ uses g e. record {
  nothing = λ r is.
      no_way (value_of uses (codes "set")) (value_of uses (codes "given")) (value_of uses (codes "instrument")) (value_of uses (codes "strata"))
      (record {
        set = option_map names_in c.in_ok-set.set;
        given = names_in c.in_ok-given.given;
        instruments = names_in c.in_ok-instruments.instruments;
        strata = names_in c.in_ok-strata.strata;
        is_set = c.in_ok-set.ensures.ok bounds_row uses g refl;
        is_given = c.in_ok-given.ensures.ok bounds_row uses g refl;
        are_instruments = c.in_ok-instruments.ensures.ok bounds_row uses g refl;
        are_strata = c.in_ok-strata.ensures.ok bounds_row uses g refl;
      })
      (record {
        set = is.set;
        given = is.given;
        instruments = is.instruments;
        strata = is.strata;
        is_set = is.is_set;
        is_given = is.is_given;
        are_instruments = is.are_instruments;
        are_strata = is.are_strata;
      })
      r.way c.in_default.ensures is.is_way;
}

pub returns-clause-ok : goal.returns-clause-ok
returns-clause-ok c = λ uses g. record {
  subject = c.in_ok-file.ensures.ok bounds_row uses g (refl, refl, refl);
  counts = c.in_ok-counts.ensures.ok bounds_row uses g refl;
  inputs = c.in_ok-counts.ensures.inputs;
  set = option_map names_in c.in_ok-set.set;
  is_set = c.in_ok-set.ensures.ok bounds_row uses g refl;
  given = names_in c.in_ok-given.given;
  is_given = c.in_ok-given.ensures.ok bounds_row uses g refl;
  instruments = names_in c.in_ok-instruments.instruments;
  are_instruments = c.in_ok-instruments.ensures.ok bounds_row uses g refl;
  strata = names_in c.in_ok-strata.strata;
  are_strata = c.in_ok-strata.ensures.ok bounds_row uses g refl;
  is_way = sym c.in-Some.ensures;
  count = sym (c.value_bytes-count.ensures bounds_row uses g refl);
  exact = sym (c.flag-exact.ensures bounds_row uses g refl);
  format = c.of-format.ensures ∙ ap format_of (c.flag.ensures bounds_row uses g refl);
}
