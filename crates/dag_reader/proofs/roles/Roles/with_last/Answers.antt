use Rattle.std.proofs.Common.{◌∙◌}
use Rattle.dag_reader.specs.RoleSets.{in_set}
use Rattle.dag_reader.proofs.RoleRows.{with_some, with_none}
use Rattle.dag_reader.proofs.roles.Roles.with_last.Goals as goal

pub returns-in-Some : goal.returns-in-Some
returns-in-Some c = λ r u. c.with.ensures r u ∙ with_some (in_set c.args.self r u) c.args.last c.in-Some.v c.args.role r u c.in-Some.is

pub returns-in-None : goal.returns-in-None
returns-in-None c = λ r u. with_none (in_set c.args.self r u) c.args.last c.args.role r u c.in-None.is
