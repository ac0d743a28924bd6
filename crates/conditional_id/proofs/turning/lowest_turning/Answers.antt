use Rattle.std.proofs.Common.{ℕ, ◌<◌, IsTrue, true, sym, ◌∙◌, arith}
use Rattle.mixed_graph.specs.Vocabulary.{has, graph_of}
use Rattle.conditional_id.specs.HedgeLaws.{HasOpenWalkTo}
use Rattle.conditional_id.proofs.Moving.{all_more, walk_excludes}
use Rattle.conditional_id.proofs.turning.lowest_turning.Goals as goal

pub loop-v-init : goal.loop-v-init
loop-v-init c = λ u low. absurd (omega (arith, low))

pub loop-v-preserved : goal.loop-v-preserved
loop-v-preserved c =
    all_more (λ u. IsTrue (has c.args.z.bits u) → HasOpenWalkTo (graph_of c.args.g.now) c.args.x.bits c.args.y.bits c.args.z.bits u)
    c.loop-v.v c.loop-v.invariant (c.turns.ensures.open c.if-turns.false)

pub returns-then-turns : goal.returns-then-turns
returns-then-turns c =
    let found = c.turns.ensures.turns.0 c.if-turns.true in
    record {
      member = found.0;
      turns = found.1;
      lowest = λ u low member turning. walk_excludes (graph_of c.args.g.now) c.args.x.bits c.args.y.bits c.args.z.bits u
          (c.loop-v.invariant u low member) turning;
    }

pub returns : goal.returns
returns c = λ u member.
    let low = c.requires.sets.w_within u member in
    let few = c.args.g.now.small in
    c.loop-v.invariant u (omega (arith, low, few, c.loop-v-test.false)) member
