use Rattle.std.proofs.Common.{◌≡◌, ◌∙◌, true, Some, codes, option_map, ap, subst, sym, refl, rules}
use Rattle.std.specs.Bool.{OnTrue}
use Rattle.command_words.specs.Vocabulary.{value_of, has_flag, names_in}
use Rattle.command_words.proofs.Inputs.{with_file}
use Rattle.replies.specs.Vocabulary.{format_of}
use Rattle.evaluate_command.specs.Requests.{evaluate_row, AskPlainly}
use Rattle.evaluate_command.specs.Ways.{way_of, way_for}
use Rattle.evaluate_command.proofs.NoWays.{no_way}
use Rattle.evaluate_command.proofs.request.Request.read.Goals as goal

pub returns-in_err-file-clause-none : goal.returns-in_err-file-clause-none
returns-in_err-file-clause-none c =
    λ uses g e. record {
      nothing = λ r is. c.in_err-file.ensures.none evaluate_row uses g (refl, refl, refl) (search rules) r.file r.x r.y (record {
        is_file = is.file;
        is_x = is.x;
        is_y = is.y;
      });
    }

pub returns-in_err-counts-clause-none : goal.returns-in_err-counts-clause-none
returns-in_err-counts-clause-none c = λ uses g e. record {
  nothing = λ r is. c.in_err-counts.ensures.none evaluate_row uses g refl (search rules) r.counts is.counts
      (with_file _ _ _ _ is.file (c.in_ok-file.ensures.ok evaluate_row uses g (refl, refl, refl)).is_file is.inputs);
}

pub returns-in_err-set-clause-none : goal.returns-in_err-set-clause-none
returns-in_err-set-clause-none c = λ uses g e. record { nothing = λ r is. c.in_err-set.ensures.none evaluate_row uses g refl (search rules) is.set is.is_set }

pub returns-in_err-given-clause-none : goal.returns-in_err-given-clause-none
returns-in_err-given-clause-none c =
    λ uses g e. record { nothing = λ r is. c.in_err-given.ensures.none evaluate_row uses g refl (search rules) is.given is.is_given }

pub returns-in_default-clause-none : goal.returns-in_default-clause-none
returns-in_default-clause-none c = λ uses g e. record {
  nothing = λ r is.
      no_way (value_of uses (codes "set")) (value_of uses (codes "given")) (option_map names_in c.in_ok-set.set) is.set (names_in c.in_ok-given.given)
      is.given c.flag-back_door.result c.flag-short.result r.way
      (c.in_ok-set.ensures.ok evaluate_row uses g refl) is.is_set (c.in_ok-given.ensures.ok evaluate_row uses g refl) is.is_given c.in_default.ensures
      (subst (λ b. way_for is.set is.given c.flag-back_door.result b ≡ Some r.way) (sym (c.flag-short.ensures evaluate_row uses g refl))
      (subst (λ b. way_for is.set is.given b (has_flag uses (codes "short")) ≡ Some r.way)
      (sym (c.flag-back_door.ensures evaluate_row uses g refl)) is.is_way));
}

pub returns-clause-ok : goal.returns-clause-ok
returns-clause-ok c = λ uses g. let s = c.in_ok-file.ensures.ok evaluate_row uses g (refl, refl, refl) in record {
  plain = let asked : c.is_plain.result ≡ true = search rules in subst (λ b. OnTrue b (AskPlainly uses)) asked (c.is_plain.ensures.yes uses g);
  file = s.is_file;
  x = s.is_x;
  y = s.is_y;
  counts = c.in_ok-counts.ensures.ok evaluate_row uses g refl;
  inputs = c.in_ok-counts.ensures.inputs;
  set = option_map names_in c.in_ok-set.set;
  is_set = c.in_ok-set.ensures.ok evaluate_row uses g refl;
  given = names_in c.in_ok-given.given;
  is_given = c.in_ok-given.ensures.ok evaluate_row uses g refl;
  is_way = subst (λ b. way_for (option_map names_in c.in_ok-set.set) (names_in c.in_ok-given.given) b (has_flag uses (codes "short")) ≡ Some
      (way_of c.in-Some.way))
      (c.flag-back_door.ensures evaluate_row uses g refl)
      (subst (λ b. way_for (option_map names_in c.in_ok-set.set) (names_in c.in_ok-given.given) c.flag-back_door.result b ≡ Some (way_of c.in-Some.way))
      (c.flag-short.ensures evaluate_row uses g refl) (sym c.in-Some.ensures));
  count = sym (c.value_bytes-count.ensures evaluate_row uses g refl);
  exact = sym (c.flag-exact.ensures evaluate_row uses g refl);
  zero = sym (c.flag-zero.ensures evaluate_row uses g refl);
  matched = sym (c.flag-matched.ensures evaluate_row uses g refl);
  format = c.of-format.ensures ∙ ap format_of (c.flag.ensures evaluate_row uses g refl);
}
