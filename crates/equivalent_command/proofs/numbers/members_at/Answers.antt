use Rattle.std.proofs.Common.{◌≡◌, ◌&&◌, ◌||◌, nat_lt, get_or, ap, ◌∙◌, arith}
use Rattle.mixed_graph.specs.Vocabulary.{has}
use Rattle.equivalent_command.proofs.Placing.{no_member, member_more}
use Rattle.equivalent_command.proofs.numbers.members_at.Goals as goal

pub loop-k-init : goal.loop-k-init
loop-k-init c = λ j. c.empty-found.ensures.members j ∙ no_member (λ i. has c.args.s.bits (get_or c.args.places.now i 0)) j

pub loop-k-preserved : goal.loop-k-preserved
loop-k-preserved c = λ j. c.union-found.ensures.members j ∙ ap (λ b. b || has c.only_if.result.bits j) (c.loop-k.invariant j)
    ∙ ap (λ b. (nat_lt j c.loop-k.k && has c.args.s.bits (get_or c.args.places.now j 0)) || b)
    (c.only_if.ensures j ∙ ap (λ b. c.has.result && b) (c.one.ensures.members j))
    ∙ member_more (λ i. has c.args.s.bits (get_or c.args.places.now i 0)) c.loop-k.k j c.has.result c.has.ensures

pub returns : goal.returns
returns c = λ j. c.loop-k.invariant j
    ∙ (let e : c.loop-k.k ≡ c.args.n = omega arith in ap (λ m. nat_lt j m && has c.args.s.bits (get_or c.args.places.now j 0)) e)
