use Rattle.std.proofs.Common.{sym, subst}
use Rattle.mixed_graph.specs.declared.sets.VSet.{VSet}
use Rattle.mixed_graph.specs.Vocabulary.{graph_of}
use Rattle.hedge.specs.Vocabulary.{IsMaximalJoined}
use Rattle.part_checks.proofs.Lists.{all_here, alike_more}
use Rattle.part_checks.proofs.natural.first_split.Goals as goal

pub returns-in-Some : goal.returns-in-Some
returns-in-Some c = (
  subst (λ (s : VSet). IsMaximalJoined (graph_of c.args.g.now) c.args.d.bits s.bits) (sym c.in-Some.ensures.0)
      (all_here c.args.districts.now c.loop-c.c-index c.loop-c-test.true (IsMaximalJoined (graph_of c.args.g.now) c.args.d.bits) c.requires.maximal),
  c.in-Some.ensures.1,
)

pub loop-c-preserved : goal.loop-c-preserved
loop-c-preserved c = alike_more c.args.districts.now c.loop-c.c-index c.loop-c-test.true (graph_of c.args.g.now) c.args.x.bits c.args.through.bits
    c.loop-c.invariant c.in_default.ensures
