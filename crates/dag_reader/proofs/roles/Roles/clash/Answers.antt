use Rattle.std.proofs.Common.{sym, ap, ◌∙◌}
use Rattle.mixed_graph.specs.Vocabulary.{has}
use Rattle.mixed_graph.proofs.Masks.{has-zero}
use Rattle.dag_reader.specs.RoleSets.{in_set}
use Rattle.dag_reader.proofs.RoleClashes.{none_of_two}
use Rattle.dag_reader.proofs.roles.Roles.clash.Goals as goal

pub returns-then-is_empty-clause-none : goal.returns-then-is_empty-clause-none
returns-then-is_empty-clause-none c = λ v two.
    none_of_two (in_set c.args.self) v (sym (c.in_two-two.ensures v) ∙ ap (λ m. has m v) (c.is_empty.ensures.none.0 c.if-is_empty.true) ∙ has-zero v) two
