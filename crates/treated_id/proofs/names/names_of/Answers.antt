use Rattle.std.proofs.Common.{ap, ◌∙◌, ◌&&◌}
use Rattle.mixed_graph.specs.Vocabulary.{has}
use Rattle.treated_id.proofs.NameSets.{names_are}
use Rattle.treated_id.proofs.names.names_of.Goals as goal

pub returns : goal.returns
returns c = names_are c.args.n c.args.x.bits c.args.seen.bits c.args.set.bits c.intersection-observed.result.bits c.difference.result.bits
    c.primes_of.result.bits c.union.result.bits
    (λ u. c.intersection-observed.ensures.members u ∙ ap (λ b. b && has c.args.seen.bits u) (c.intersection.ensures.members u))
    c.difference.ensures.members c.primes_of.ensures c.union.ensures.members
