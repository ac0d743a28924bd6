use Rattle.std.proofs.Common.{◌∙◌, ap}
use Rattle.std.proofs.lemmas.Bool.{and_from}
use Rattle.mixed_graph.specs.Bits.{has}
use Rattle.mixed_graph.proofs.Masks.{positive_from_has}
use Rattle.mixed_graph.proofs.cycles.child_in.Goals as goal

pub lowest-requires : goal.lowest-requires
lowest-requires c = positive_from_has c.intersection.result.bits c.requires.child.0
    (c.intersection.ensures.members c.requires.child.0 ∙ and_from _ _ (ap (λ m. has m c.requires.child.0) c.row.ensures ∙ c.requires.child.2)
    c.requires.child.1)
