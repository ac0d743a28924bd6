use Rattle.std.proofs.Common.{◌≡◌, ◌++◌, map}
use Rattle.mixed_graph.specs.Vocabulary.{has, members_below}
use Rattle.treated_models.specs.Vocabulary.{prime_of}
use Rattle.paired_values.proofs.axes.push_observed.Given as goal

abbrev pub invariant-loop-v : goal.invariant-loop-v
invariant-loop-v l = l.out.items ≡ l.fn.out.items ++ map (λ v. record { vertex = v; name = prime_of l.n l.x.bits v }) (members_below (has l.x.bits) l.v)
