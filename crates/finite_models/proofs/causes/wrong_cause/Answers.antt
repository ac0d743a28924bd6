use Rattle.std.proofs.Common.{arith}
use borrow.Author.Count.{below_more}
use Rattle.mixed_graph.specs.Vocabulary.{graph_of}
use Rattle.finite_models.proofs.Places.{sound_at}
use Rattle.finite_models.proofs.causes.wrong_cause.Goals as goal

pub loop-j-preserved : goal.loop-j-preserved
loop-j-preserved c = below_more _ _ c.loop-j.invariant
    (sound_at (graph_of c.args.g.now) c.args.m.now c.loop-j.j c.index.result.now (let k = c.args.m.now.causes.ok in omega arith) c.index.ensures
    (c.is_sound.ensures.0 c.if-not-is_sound.false))
