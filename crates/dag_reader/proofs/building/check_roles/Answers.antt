use Rattle.std.proofs.Common.{None, sym, ◌∙◌}
use Rattle.dag_reader.specs.Passes.{has_role, roles_of}
use Rattle.dag_reader.specs.RoleSets.{in_set}
use Rattle.dag_reader.proofs.PairLists.{role_inside}
use Rattle.dag_reader.proofs.RoleClashes.{two_same, clash_same}
use Rattle.dag_reader.proofs.building.check_roles.Goals as goal

pub vertex_name-requires : goal.vertex_name-requires
vertex_name-requires c =
    let two = c.in-Some.ensures.found.two in
    role_inside _ c.args.marks.now None two.first c.in-Some.v c.requires.inside (λ w e. absurd (cc e))
    (sym (c.requires.roles two.first c.in-Some.v) ∙ two.has_first)

pub returns-in_ok-vertex_name-in-Some : goal.returns-in_ok-vertex_name-in-Some
returns-in_ok-vertex_name-in-Some c = (
  c.in-Some.v,
  clash_same (in_set c.args.roles) (has_role (roles_of c.args.marks.now)) c.requires.roles c.in-Some.v c.in-Some.ensures.found,
  c.in_ok-vertex_name-in-Some.ensures,
)

pub returns-in-None : goal.returns-in-None
returns-in-None c = (
  λ v two. c.in-None.ensures.none v (two_same (has_role (roles_of c.args.marks.now)) (in_set c.args.roles)
      (λ r u. sym (c.requires.roles r u)) v two),
  c.requires.roles,
)
