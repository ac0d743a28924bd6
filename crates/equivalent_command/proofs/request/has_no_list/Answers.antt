use Rattle.std.proofs.Common.{refl}
use Rattle.equivalent_command.proofs.request.has_no_list.Goals as goal

pub returns-then-is_given-clause-no : goal.returns-then-is_given-clause-no
returns-then-is_given-clause-no c = λ uses g e h. c.is_given.ensures.yes uses g refl c.if-is_given.true h.0

pub returns-then-is_given-2-clause-no : goal.returns-then-is_given-2-clause-no
returns-then-is_given-2-clause-no c = λ uses g e h. c.is_given-2.ensures.yes uses g refl c.if-is_given-2.true h.1

pub returns-then-is_given-3-clause-no : goal.returns-then-is_given-3-clause-no
returns-then-is_given-3-clause-no c = λ uses g e h. c.is_given-3.ensures.yes uses g refl c.if-is_given-3.true h.2

pub returns-clause-yes : goal.returns-clause-yes
returns-clause-yes c = λ uses g e. (
  c.is_given.ensures.no uses g refl c.if-is_given.false,
  c.is_given-2.ensures.no uses g refl c.if-is_given-2.false,
  c.is_given-3.ensures.no uses g refl c.if-is_given-3.false,
)
