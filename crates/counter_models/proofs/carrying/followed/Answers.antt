use Rattle.std.proofs.Common.{◌∙◌, arith, ap, ◌&&◌, not}
use Rattle.mixed_graph.specs.Vocabulary.{has}
use Rattle.mixed_graph.proofs.Masks.{below_64, has-zero}
use Rattle.mixed_graph.proofs.Searches.{Step, searching_none, searching_more, searching_smaller}
use Rattle.counter_models.proofs.Following.{choosing, choosing_low, reached_from, held_by_reached}
use Rattle.counter_models.proofs.carrying.followed.Goals as goal
use Rattle.counter_models.proofs.carrying.followed.Goals.{After-union-front}

step_of : (c : After-union-front) → Step (choosing c.args.choice.now.next) c.lowest-v.result
    c.loop-front.found.bits c.loop-front.front.bits c.difference.result.bits c.difference-fresh.result.bits c.union-found.result.bits c.union-front.result.bits
step_of c = record {
  taken = c.lowest-v.ensures.member;
  rest_is = λ u. c.difference.ensures.members u ∙ ap (λ t. has c.loop-front.front.bits u && not t) (c.one.ensures.members u);
  fresh_is = λ u. c.difference-fresh.ensures.members u ∙ ap (λ t. t && not (has c.loop-front.found.bits u)) (c.vertex_or_none.ensures u);
  found_is = c.union-found.ensures.members;
  front_is = c.union-front.ensures.members;
}

pub loop-front-init : goal.loop-front-init
loop-front-init c = (
  searching_none (choosing c.args.choice.now.next) c.args.roots.bits (λ v i. below_64 c.args.roots.bits v (omega arith) i),
  omega arith,
  omega arith,
)

pub loop-front-preserved : goal.loop-front-preserved
loop-front-preserved c = (
  searching_more (choosing c.args.choice.now.next) (λ u v a. choosing_low c.args.choice.now.next u v a) c.args.roots.bits c.lowest-v.result
      c.loop-front.found.bits c.loop-front.front.bits c.difference.result.bits c.difference-fresh.result.bits c.union-found.result.bits
      c.union-front.result.bits
      (step_of c) c.loop-front.invariant.0,
  omega arith,
  omega arith,
)

pub loop-front-smaller : goal.loop-front-smaller
loop-front-smaller c = searching_smaller (choosing c.args.choice.now.next) (λ u v a. choosing_low c.args.choice.now.next u v a)
    c.args.roots.bits c.lowest-v.result
    c.loop-front.found.bits c.loop-front.front.bits c.difference.result.bits c.difference-fresh.result.bits c.union-found.result.bits c.union-front.result.bits
    (step_of c) (omega arith) (omega arith) (omega arith) (omega arith)

pub returns : goal.returns
returns c = record {
  sound = λ v i. let s = c.loop-front.invariant.0.sound v i in reached_from c.args.choice.now.next c.args.roots.bits v s.path s.end s.leads s.inside;
  complete = λ v r. held_by_reached c.args.choice.now.next c.args.roots.bits c.loop-front.found.bits c.loop-front.front.bits
      (λ w. rw c.loop-front-test.false (has-zero w)) c.loop-front.invariant.0 v r;
}
