use Rattle.std.proofs.Common.{refl, codes, rules}
use Rattle.command_words.specs.Vocabulary.{value_of}
use Rattle.equivalent_command.specs.Requests.{equivalent_row}
use Rattle.equivalent_command.proofs.Asked.{no_query}
use Rattle.equivalent_command.proofs.request.read_query.Goals as goal

pub returns-then-has_no_list-clause-ok : goal.returns-then-has_no_list-clause-ok
returns-then-has_no_list-clause-ok c = λ uses g. c.has_no_list.ensures.yes uses g c.if-has_no_list.true

pub returns-in_err-x-clause-none : goal.returns-in_err-x-clause-none
returns-in_err-x-clause-none c = λ uses g e.
    no_query (value_of uses (codes "x")) (value_of uses (codes "y")) (value_of uses (codes "given")) (c.has_no_list.ensures.no uses g c.if-has_no_list.false)
    (λ q h. c.in_err-x.ensures.none equivalent_row uses g refl (search rules) q.x h.0)

pub returns-in_err-y-clause-none : goal.returns-in_err-y-clause-none
returns-in_err-y-clause-none c = λ uses g e.
    no_query (value_of uses (codes "x")) (value_of uses (codes "y")) (value_of uses (codes "given")) (c.has_no_list.ensures.no uses g c.if-has_no_list.false)
    (λ q h. c.in_err-y.ensures.none equivalent_row uses g refl (search rules) q.y h.1)

pub returns-in_err-given-clause-none : goal.returns-in_err-given-clause-none
returns-in_err-given-clause-none c = λ uses g e.
    no_query (value_of uses (codes "x")) (value_of uses (codes "y")) (value_of uses (codes "given")) (c.has_no_list.ensures.no uses g c.if-has_no_list.false)
    (λ q h. c.in_err-given.ensures.none equivalent_row uses g refl (search rules) q.given h.2)

pub returns-clause-ok : goal.returns-clause-ok
returns-clause-ok c = λ uses g. (
  c.in_ok-x.ensures.ok equivalent_row uses g refl,
  c.in_ok-y.ensures.ok equivalent_row uses g refl,
  c.in_ok-given.ensures.ok equivalent_row uses g refl,
)
