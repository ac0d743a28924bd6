use Rattle.std.proofs.Common.{◌≡◌, ◌+◌, ◌-◌, subst, arith}
use Rattle.mixed_graph.specs.Vocabulary.{has, graph_of}
use Rattle.implications.proofs.Thinning.{IsDownTo, down_begins, down_step, down_ends}
use Rattle.implications.proofs.sets.thinned.Goals as goal

pub down-init : goal.down-init
down-init c = (
  down_begins (graph_of c.args.g.now) c.args.pair.a c.args.pair.b (has c.args.all.kept.bits) 64
      (λ v h. let l = c.requires.cut.separating.within v h in let n = c.args.g.now.small in omega (arith, l, n)),
  c.requires.cut,
)

pub down-preserved : goal.down-preserved
down-preserved c =
    let e : c.down.v ≡ c.down.v - 1 + 1 = omega (arith, c.down-test.true) in (
      down_step (graph_of c.args.g.now) c.args.pair.a c.args.pair.b (has c.args.all.kept.bits) (c.down.v - 1) (has c.down.cut.kept.bits)
          (has c.without-cut.result.kept.bits)
          (subst (λ n. IsDownTo (graph_of c.args.g.now) c.args.pair.a c.args.pair.b (has c.args.all.kept.bits) n (has c.down.cut.kept.bits)) e
          c.down.invariant.0)
          c.without-cut.ensures.step,
      c.without-cut.ensures.cut,
    )

pub returns : goal.returns
returns c =
    let e : c.down.v ≡ 0 = omega (arith, c.down-test.false) in
    record {
      thinned = down_ends (graph_of c.args.g.now) c.args.pair.a c.args.pair.b (has c.args.all.kept.bits) (has c.down.cut.kept.bits)
          (subst (λ n. IsDownTo (graph_of c.args.g.now) c.args.pair.a c.args.pair.b (has c.args.all.kept.bits) n (has c.down.cut.kept.bits)) e
          c.down.invariant.0);
      separates = c.down.invariant.1.separating;
    }
