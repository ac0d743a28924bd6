use Rattle.std.proofs.Common.{codes}
use Rattle.part_check_command.proofs.request.read_request.Goals as goal

pub returns-clause-ok : goal.returns-clause-ok
returns-clause-ok c = c.read_named.ensures.ok (codes "check")

pub returns-clause-none : goal.returns-clause-none
returns-clause-none c = λ uses g e. record { nothing = c.read_named.ensures.none (codes "check") uses g e }
