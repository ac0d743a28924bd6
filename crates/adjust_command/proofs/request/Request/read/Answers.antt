use Rattle.std.proofs.Common.{◌≡◌, ◌∙◌, Some, sym, ap, refl, subst, codes, option_map, rules}
use Rattle.std.specs.Prelude.{is_some}
use Rattle.command_words.specs.Vocabulary.{value_of, has_flag, names_in}
use Rattle.replies.specs.Vocabulary.{format_of}
use Rattle.adjust_command.specs.Queries.{query_of, query_for}
use Rattle.adjust_command.specs.Requests.{adjust_row}
use Rattle.adjust_command.proofs.NoQueries.{no_query}
use Rattle.adjust_command.proofs.request.Request.read.Goals as goal

pub returns-in_err-file-clause-none : goal.returns-in_err-file-clause-none
returns-in_err-file-clause-none c =
    λ uses g e. record { nothing = λ r is. c.in_err-file.ensures.none adjust_row uses g (refl, refl, refl) (search rules) r.file r.x r.y is.subject }

pub returns-in_err-most-clause-none : goal.returns-in_err-most-clause-none
returns-in_err-most-clause-none c = λ uses g e. record { nothing = λ r is. c.in_err-most.ensures.none adjust_row uses g refl (search rules) is.most is.is_most }

pub returns-in_err-set-clause-none : goal.returns-in_err-set-clause-none
returns-in_err-set-clause-none c = λ uses g e. record { nothing = λ r is. c.in_err-set.ensures.none adjust_row uses g refl (search rules) is.set is.is_set }

pub returns-in_default-clause-none : goal.returns-in_default-clause-none
returns-in_default-clause-none c = λ uses g e. record {
  nothing = λ r is.
      no_query (value_of uses (codes "set")) (option_map names_in c.in_ok-set.set) is.set c.flag-back_door.result c.has_most-counted.result c.in_ok-most.most
      is.most r.query
      (c.in_ok-set.ensures.ok adjust_row uses g refl) is.is_set c.in_default.ensures.query
      (subst (λ n. query_for is.set c.flag-back_door.result n is.most ≡ Some r.query) (sym (c.has_most-counted.ensures uses g))
      (subst (λ b. query_for is.set b (is_some (value_of uses (codes "most"))) is.most ≡ Some r.query)
      (sym (c.flag-back_door.ensures adjust_row uses g refl)) is.is_query));
}

pub returns-clause-ok : goal.returns-clause-ok
returns-clause-ok c = λ uses g. record {
  subject = c.in_ok-file.ensures.ok adjust_row uses g (refl, refl, refl);
  set = option_map names_in c.in_ok-set.set;
  is_set = c.in_ok-set.ensures.ok adjust_row uses g refl;
  most = c.in_ok-most.most;
  is_most = c.in_ok-most.ensures.ok adjust_row uses g refl;
  is_query =
      subst (λ n. query_for (option_map names_in c.in_ok-set.set) (has_flag uses (codes "back-door")) n c.in_ok-most.most ≡ Some (query_of c.in-Some.query))
      (c.has_most-counted.ensures uses g)
      (subst (λ b. query_for (option_map names_in c.in_ok-set.set) b c.has_most-counted.result c.in_ok-most.most ≡ Some (query_of c.in-Some.query))
      (c.flag-back_door.ensures adjust_row uses g refl) (sym c.in-Some.ensures.query));
  format = c.of-format.ensures ∙ ap format_of (c.flag-json.ensures adjust_row uses g refl);
}
