use Rattle.std.proofs.Common.{◌≡◌, ◌&&◌, not, ◌∷◌, sym, ap, ◌∙◌}
use Rattle.std.proofs.Common.{length, arith}
use Rattle.mixed_graph.specs.Bits.{has, members_below}
use Rattle.mixed_graph.proofs.FirstMembers.{members-empty, members-without}
use Rattle.mixed_graph.proofs.sets.MembersLeftIterator.next.Goals as goal
use Rattle.mixed_graph.proofs.sets.MembersLeftIterator.next.Goals.{After-difference-self-inside}

pub returns-then-is_empty-clause-steps : goal.returns-then-is_empty-clause-steps
returns-then-is_empty-clause-steps c =
    let none = sym c.self.view_is ∙ members-empty c.self.inside.rest.bits (c.is_empty.ensures.none.0 c.if-is_empty.true) in (none, none)

-- what was still to come is the lowest member, and then what the set without it has
first : (c : After-difference-self-inside) → members_below (has c.self.inside.rest.bits) 64
    ≡ c.lowest-v.result ∷ members_below (has c.difference-self-inside.result.bits) 64
first c = members-without c.self.inside.rest.bits c.difference-self-inside.result.bits c.lowest-v.result c.lowest-v.ensures.in_range c.lowest-v.ensures.member
    c.lowest-v.ensures.least
    (λ u. c.difference-self-inside.ensures.members u ∙ ap (λ t. has c.self.inside.rest.bits u && not t) (c.one.ensures.members u))

pub returns-clause-steps : goal.returns-clause-steps
returns-clause-steps c = sym c.self.view_is ∙ first (goal.at.returns-clause-steps c).After-difference-self-inside

pub returns-clause-goes : goal.returns-clause-goes
returns-clause-goes c =
    let e = ap length (sym c.self.view_is ∙ first (goal.at.returns-clause-goes c).After-difference-self-inside) in
    record { on = λ _. (tt, tt, omega (arith, e)); keeps = tt; rests = λ _. tt }
