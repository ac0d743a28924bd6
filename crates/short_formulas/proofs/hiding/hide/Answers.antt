use Rattle.std.proofs.Common.{sym, subst}
use Rattle.mixed_graph.specs.Vocabulary.{has}
use Rattle.do_rules.specs.Vocabulary.{AreThreeSets}
use Rattle.short_formulas.proofs.hiding.hide.Goals as goal

pub loop-i-init : goal.loop-i-init
loop-i-init c = c.project-graph.ensures.vertices

pub without-requires-clause-sets : goal.without-requires-clause-sets
without-requires-clause-sets c = subst (λ n. AreThreeSets n (has c.args.t.now.x.bits) (has c.args.t.now.y.bits) (has c.args.t.now.given.bits))
    (sym c.loop-i.invariant) c.requires.sets
