use Rattle.std.proofs.Common.{refl}
use Rattle.mixed_graph.specs.Vocabulary.{has}
use Rattle.bound_values.proofs.TwoValued.{some_vertex}
use Rattle.bound_values.proofs.pairs.other_value.Goals as goal

pub lowest-x-requires : goal.lowest-x-requires
lowest-x-requires c =
    some_vertex c.args.scope.now.n c.args.scope.now.counts.now (has c.args.scope.now.question.x.bits) c.requires.pairs.two_valued
    c.args.scope.now.question.x.bits (λ v. refl)
