use Rattle.std.proofs.Common.{◌≡◌, map}
use Rattle.dag_reader.specs.Rows.{count_up}
use Rattle.dag_reader.specs.Written.{role_at}
use Rattle.dag_reader.proofs.writing.roles_listed.Given as goal

abbrev pub invariant-loop-v : goal.invariant-loop-v
invariant-loop-v l = l.roles.items ≡ map (role_at l.g) (count_up l.v)
