use Rattle.std.proofs.Common.{not, ap, ◌∙◌, ◌&&◌}
use Rattle.mixed_graph.specs.Vocabulary.{has}
use Rattle.latent_projection.proofs.Numbering.{length-members-cut}
use Rattle.latent_projection.proofs.numbers.count_observed.Goals as goal

pub returns : goal.returns
returns c = c.count.ensures
    ∙ length-members-cut (λ v. not (has c.args.latent.bits v)) (has c.difference.result.bits) c.args.n 64 c.requires
    (λ v. c.difference.ensures.members v ∙ ap (λ b. b && not (has c.args.latent.bits v)) (c.below.ensures.members v))
