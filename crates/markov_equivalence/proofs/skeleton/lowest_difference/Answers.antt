use Rattle.std.proofs.Common.{◌≡◌, false, arith}
use Rattle.mixed_graph.specs.Vocabulary.{has}
use Rattle.mixed_graph.proofs.Masks.{has-zero}
use Rattle.markov_equivalence.proofs.skeleton.lowest_difference.Goals as goal

pub returns-then-is_empty-clause-same : goal.returns-then-is_empty-clause-same
returns-then-is_empty-clause-same c = λ v.
    let none : has c.union-alone.result.bits v ≡ false = rw (c.is_empty.ensures.none.0 c.if-is_empty.true) (has-zero v) in
    let u = c.union-alone.ensures.members v in
    let s = c.difference.ensures.members v in
    let t = c.difference-2.ensures.members v in
    grind (arith, none, u, s, t)
