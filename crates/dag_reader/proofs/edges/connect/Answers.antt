use Rattle.std.proofs.Common.{◌∙◌, ap, sym, subst, arith}
use Rattle.std.specs.Prelude.{◌&&◌, ◌||◌, ◌==◌}
use Rattle.mixed_graph.specs.Vocabulary.{has}
use Rattle.mixed_graph.proofs.MemberLists.{AreMembers, is_in, members-are, is_in-members}
use Rattle.dag_reader.specs.Rows.{row_has}
use Rattle.dag_reader.proofs.Joined.{row_joined, rest_joined, all_joined}
use Rattle.dag_reader.proofs.edges.connect.Goals as goal

pub members-init : goal.members-init
members-init c =
    let whole = c.into_iter-v-iterator.ensures.into_iter_gives ∙ c.iter-v-items.ensures in
    record {
      are = subst (AreMembers (has c.args.from.bits) 64) (sym whole) (members-are (has c.args.from.bits) 64);
      whole = λ a b. ap (λ h. row_has c.args.rows.now a b || (h && has c.args.to.bits b))
          (ap (λ vs. is_in vs a) whole ∙ is_in-members c.args.from.bits (omega arith) a);
    }

pub members-preserved : goal.members-preserved
members-preserved c =
    let first = c.in-Some.ensures.steps in
    let are = subst (AreMembers (has c.args.from.bits) 64) first c.members.invariant.are in
    record {
      are = are.3;
      whole = λ a b.
          rest_joined (row_has c.members.rows a b) _ (a == c.in-Some.v) (has c.args.to.bits b) (is_in c.next.new.self a)
          (row_joined c.members.rows c.in-Some.v c.union.result.bits (has c.args.to.bits) (omega (arith, are.0))
          (rw c.row.ensures at c.union.ensures.members) a b)
          ∙ sym (ap (λ vs. row_has c.members.rows a b || (is_in vs a && has c.args.to.bits b)) first) ∙ c.members.invariant.whole a b;
    }

pub returns : goal.returns
returns c = λ a b. all_joined (row_has c.members.rows a b) (is_in c.members.v-iterator a) (has c.args.to.bits b)
    (ap (λ vs. is_in vs a) c.in-None.ensures.steps.0) ∙ c.members.invariant.whole a b
