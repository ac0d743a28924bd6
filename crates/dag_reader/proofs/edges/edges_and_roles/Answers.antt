use Rattle.std.proofs.Common.{◌∙◌, ap}
use Rattle.std.specs.Prelude.{◌||◌}
use Rattle.mixed_graph.specs.Vocabulary.{has}
use Rattle.mixed_graph.proofs.PairMasks.{no_mask}
use Rattle.dag_reader.specs.declared.marks.Remark.TheVariants.{Begins, Joined, Member, HasRole}
use Rattle.dag_reader.proofs.EdgeRows.{begin, opened, at_lone, at_begins, at_member, at_role, at_right, at_left, at_both}
use Rattle.dag_reader.proofs.RoleRows.{roles_begin, first_mark, roles_at_begins, roles_at_joined, roles_at_member, roles_at_lone, roles_at_role}
use Rattle.dag_reader.proofs.edges.edges_and_roles.Goals as goal
use Rattle.dag_reader.proofs.edges.edges_and_roles.Goals.{in-Right, in-Left, in-Both}

pub turns-init : goal.turns-init
turns-init c = record {
  edges = begin c.args.marks.now _ _ _ c.empty-left.ensures.members no_mask no_mask c.requires;
  roles = roles_begin c.args.marks.now c.none-roles.result c.none-roles.ensures;
}

pub turns-preserved-in-Some : goal.turns-preserved-in-Some
turns-preserved-in-Some c = record {
  edges = at_lone c.args.marks.now _ _ _ _ _ _ _ _ _ _ _ c.turns.invariant.edges c.in-Some.ensures.edge c.empty-left-in-Some.ensures.members
      c.connect_ends.ensures.arrows c.connect_ends.ensures.doubles;
  roles = roles_at_lone c.args.marks.now _ _ _ _ c.turns.invariant.roles _ _ _ c.in-Some.ensures.edge c.in-Some.ensures.inside.1;
}

pub turns-preserved-in-Begins : goal.turns-preserved-in-Begins
turns-preserved-in-Begins c = record {
  edges = at_begins c.args.marks.now _ _ _ _ _ (opened c.args.marks.now _ _ _ _ Begins c.turns.invariant.edges c.in-len1-up.len_at_least c.in-Begins.is)
      c.empty-left-in-Begins.ensures.members;
  roles = roles_at_begins c.args.marks.now _ _ _ _ c.turns.invariant.roles (first_mark c.turns.rest.now Begins c.in-len1-up.len_at_least c.in-Begins.is);
}

pub turns-preserved-in-Member : goal.turns-preserved-in-Member
turns-preserved-in-Member c = record {
  edges = at_member c.args.marks.now _ _ _ _ _ c.in-Member.v (opened c.args.marks.now _ _ _ _ (Member c.in-Member.v)
      c.turns.invariant.edges c.in-len1-up.len_at_least c.in-Member.is)
      (λ v. c.union-left.ensures.members v ∙ ap (λ b. has c.turns.left.bits v || b) (c.one.ensures.members v));
  roles = roles_at_member c.args.marks.now _ _ _ _ c.turns.invariant.roles c.in-Member.v
      (first_mark c.turns.rest.now (Member c.in-Member.v) c.in-len1-up.len_at_least c.in-Member.is) c.turns.invariant.edges.inside;
}

pub turns-preserved : goal.turns-preserved
turns-preserved c = record {
  edges = at_role c.args.marks.now _ _ _ _ c.in-HasRole.role (opened c.args.marks.now _ _ _ _ (HasRole c.in-HasRole.role)
      c.turns.invariant.edges c.in-len1-up.len_at_least c.in-HasRole.is);
  roles = roles_at_role c.args.marks.now _ _ _ _ _ c.in-HasRole.role c.turns.invariant.roles
      (first_mark c.turns.rest.now (HasRole c.in-HasRole.role) c.in-len1-up.len_at_least c.in-HasRole.is) c.with_last-roles.ensures;
}

pub turns-preserved-after-arrow : goal.turns-preserved-after-arrow
turns-preserved-after-arrow c =
    let here = opened c.args.marks.now c.turns.rest.now c.turns.left.bits c.turns.arrows c.turns.doubles (Joined c.in-Joined.arrow)
    c.turns.invariant.edges c.in-len1-up.len_at_least c.in-Joined.is in record {
      edges = elim c.match-arrow.branch [
        | in-Right w ↦ rw (w.arrows-is, w.doubles-is)
            (at_right c.args.marks.now _ c.turns.left.bits c.group-right.result.bits c.empty-left-in-Joined.result.bits c.turns.arrows
            w.connect.new.rows c.turns.doubles
            (rw w.in-Right.is at here) c.group-right.ensures c.empty-left-in-Joined.ensures.members w.connect.ensures)
        | in-Left w ↦ rw (w.arrows-is, w.doubles-is)
            (at_left c.args.marks.now _ c.turns.left.bits c.group-right.result.bits c.empty-left-in-Joined.result.bits c.turns.arrows
            w.connect-in-Left.new.rows c.turns.doubles
            (rw w.in-Left.is at here) c.group-right.ensures c.empty-left-in-Joined.ensures.members w.connect-in-Left.ensures)
        | in-Both w ↦ rw (w.arrows-is, w.doubles-is)
            (at_both c.args.marks.now _ c.turns.left.bits c.group-right.result.bits c.empty-left-in-Joined.result.bits c.turns.arrows
            c.turns.doubles w.connect-in-Both.new.rows
            (rw w.in-Both.is at here) c.group-right.ensures c.empty-left-in-Joined.ensures.members w.connect-in-Both.ensures)
      ];
      roles = roles_at_joined c.args.marks.now _ _ _ _ c.turns.invariant.roles c.in-Joined.arrow
          (first_mark c.turns.rest.now (Joined c.in-Joined.arrow) c.in-len1-up.len_at_least c.in-Joined.is);
    }
