use Rattle.std.proofs.Common.{◌≡◌, ◌≢◌, ℕ, not, ◌&&◌, ◌==◌, ap, ◌∙◌, arith}
use Rattle.mixed_graph.specs.Vocabulary.{has, graph_of}
use Rattle.treated_id.proofs.Joined.{fewer, some_next, walking_more, walked_all}
use Rattle.treated_id.proofs.paths.joined_path.Goals as goal
use Rattle.treated_id.proofs.paths.joined_path.Goals.{After-intersection, After-difference-left}

other : (c : After-difference-left) → c.steps.at ≢ c.args.to
other c = let t = c.steps-test.true in omega (arith, t)

left_is : (c : After-difference-left) → (v : ℕ) → has c.difference-left.result.bits v ≡ (has c.steps.left.bits v && not (v == c.steps.at))
left_is c v = c.difference-left.ensures.members v ∙ ap (λ b. has c.steps.left.bits v && not b) (c.one.ensures.members v)

next_is : (c : After-intersection) → (v : ℕ) → has c.intersection.result.bits v ≡ ((graph_of c.args.g.now).both c.steps.at v && has c.district_of.result.bits v)
next_is c v = c.intersection.ensures.members v ∙ ap (λ b. b && has c.district_of.result.bits v) (c.spouses.ensures.members v)

pub lowest-at-requires : goal.lowest-at-requires
lowest-at-requires c =
    let a = (goal.at.lowest-at-requires c).After-difference-left in
    let b = (goal.at.lowest-at-requires c).After-intersection in
    some_next (graph_of c.args.g.now) c.args.g.now.valid c.args.within.bits c.args.from c.args.to c.steps.left.bits c.steps.at c.steps.path.items
    c.steps.invariant (other a) c.difference-left.result.bits (left_is a) c.district_of.result.bits c.district_of.ensures.district
    c.intersection.result.bits (next_is b)

pub steps-smaller : goal.steps-smaller
steps-smaller c =
    let a = (goal.at.steps-smaller c).After-difference-left in
    fewer (graph_of c.args.g.now) c.args.g.now.valid c.args.within.bits c.args.from c.args.to c.steps.left.bits c.steps.at c.steps.path.items
    c.steps.invariant (other a) c.difference-left.result.bits (left_is a)

pub steps-preserved : goal.steps-preserved
steps-preserved c =
    let a = (goal.at.steps-preserved c).After-difference-left in
    let b = (goal.at.steps-preserved c).After-intersection in
    walking_more (graph_of c.args.g.now) c.args.g.now.valid c.args.within.bits c.args.from c.args.to c.steps.left.bits c.steps.at c.steps.path.items
    c.steps.invariant (other a) c.difference-left.result.bits (left_is a) c.district_of.result.bits c.district_of.ensures.district
    c.intersection.result.bits (next_is b) c.lowest-at.result c.lowest-at.ensures.member c.push.new.self.items c.in_ok-push.ensures.items

pub returns : goal.returns
returns c = walked_all (graph_of c.args.g.now) c.args.within.bits c.args.from c.args.to c.steps.left.bits c.steps.at c.steps.path.items
    (let t = c.steps-test.false in omega (arith, t)) c.steps.invariant
