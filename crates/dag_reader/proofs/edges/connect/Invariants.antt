use Rattle.std.proofs.Common.{◌≡◌, ℕ, ◌&&◌, ◌||◌}
use Rattle.mixed_graph.specs.Vocabulary.{has}
use Rattle.mixed_graph.proofs.MemberLists.{AreMembers, is_in}
use Rattle.dag_reader.specs.Rows.{row_has}
use Rattle.dag_reader.proofs.edges.connect.Given as goal

-- the members that are left complete the rows
abbrev pub invariant-members : goal.invariant-members
invariant-members l = record {
  are : AreMembers (has l.fn.from.bits) 64 l.v-iterator;
  whole : (a b : ℕ) → (row_has l.rows a b || (is_in l.v-iterator a && has l.to.bits b))
      ≡ (row_has l.initial.rows a b || (has l.fn.from.bits a && has l.to.bits b));
}
