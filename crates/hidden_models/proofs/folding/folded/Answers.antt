use Rattle.std.proofs.Common.{◌<◌, ◌∙◌, not, length, get_or, sym, ap, subst}
use Rattle.mixed_graph.specs.Vocabulary.{has}
use Rattle.hidden_models.specs.Reaching.{has_some}
use Rattle.hidden_models.proofs.ListLaws.{members-within}
use Rattle.hidden_models.proofs.folding.folded.Goals as goal

pub kept_causes-requires-clause-within : goal.kept_causes-requires-clause-within
kept_causes-requires-clause-within c i lt =
    subst (λ n. get_or c.deref-3.result.now i 0 < n) (ap length c.deref.ensures.value ∙ c.requires.parts.reached.long)
    (members-within (has_some c.deref.result.now) (length c.deref.result.now) c.deref-3.result.now (c.deref-3.ensures.value ∙ c.in_ok-numbers.ensures) i lt)

pub kept_sizes-requires : goal.kept_sizes-requires
kept_sizes-requires c k lt =
    subst (λ n. get_or c.args.kept.now k 0 < n) (sym c.requires.accepted.sizes)
    (members-within (λ v. not (has c.args.latent.bits v)) c.args.g.now.n c.args.kept.now c.requires.vertices k lt)

pub kept_tables-requires-clause-below : goal.kept_tables-requires-clause-below
kept_tables-requires-clause-below c k lt = members-within (λ v. not (has c.args.latent.bits v)) c.args.g.now.n c.args.kept.now c.requires.vertices k lt
