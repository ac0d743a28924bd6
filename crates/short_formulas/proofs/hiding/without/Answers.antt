use Rattle.std.proofs.Common.{sym, subst}
use Rattle.mixed_graph.specs.Vocabulary.{has}
use Rattle.do_rules.specs.Vocabulary.{AreThreeSets}
use Rattle.short_formulas.proofs.hiding.without.Goals as goal

pub derivation_in-requires-clause-sets : goal.derivation_in-requires-clause-sets
derivation_in-requires-clause-sets c = subst (λ n. AreThreeSets n (has c.args.t.now.x.bits) (has c.args.t.now.y.bits) (has c.args.t.now.given.bits))
    (sym c.project-small.ensures.vertices) c.requires.sets
