use Rattle.std.proofs.Common.{◌≡◌, ℕ, sym, ◌∙◌, arith}
use Rattle.mixed_graph.specs.Bits.{has, members_below}
use Rattle.mixed_graph.proofs.Masks.{below_64}
use Rattle.mixed_graph.proofs.MemberLists.{some-member, member-some}
use Rattle.mixed_graph.proofs.Joining.{in_rows, joining_none, joined_all}
use Rattle.mixed_graph.proofs.rows.joined.Goals as goal
use Rattle.mixed_graph.proofs.rows.joined.Goals.{In-None}

pub each-init : goal.each-init
each-init c = joining_none c.args.rows.now c.args.members.bits c.into_iter-v-iterator.result c.empty-all.result.bits
    (c.into_iter-v-iterator.ensures.into_iter_gives ∙ c.iter-v-items.ensures) c.empty-all.ensures.members

all_joined : (c : In-None) → (u : ℕ) → has c.each.all.bits u ≡ in_rows c.args.rows.now (members_below (has c.args.members.bits) 64) u
all_joined c = joined_all c.args.rows.now c.args.members.bits c.each.all.bits c.each.v-iterator c.in-None.ensures.steps.0 c.each.invariant

pub returns : goal.returns
returns c =
    let e = all_joined (goal.at.returns c).In-None in λ u. (
      λ i. some-member (has c.args.members.bits) _ 64 (sym (e u) ∙ i),
      λ s. e u ∙ member-some (has c.args.members.bits) _ 64 s.0 (below_64 c.args.members.bits s.0 (omega arith) s.1) s.1 s.2,
    )
