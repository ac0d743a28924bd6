-- Made positive, the pairs differ on the nested effect, so no formula equals it.
use Rattle.std.proofs.Common.{ℕ, ◌≡◌, ◌<◌, true}
use Rattle.mixed_graph.specs.Vocabulary.{has, MixedGraph, IsMixedGraph}
use Rattle.nested_models.specs.Vocabulary.{HasNoFormulaNested}
use Rattle.nested_models.proofs.NoFormula.{difference_excludes_nested}
use Rattle.twisted_models.specs.Vocabulary.{DifferOnNested}
use Rattle.twisted_models.proofs.Differing.{apart_differ}
use Rattle.carrying_models.specs.Apart.{WitnessDiffers, SplitDiffers, WitnessExcludesNested, SplitExcludesNested}
use Rattle.carrying_models.proofs.Split.{split_is_apart}
use Rattle.carrying_models.proofs.Witness.{witness_is_apart}

pub witness_differs : WitnessDiffers
witness_differs g ok x m y z c asked witness = apart_differ g ok x m y z (witness_is_apart g ok x m y z c asked witness)

pub split_differs : SplitDiffers
split_differs g ok x m y z p t v w asked split = apart_differ g ok x m y z (split_is_apart g ok x m y z p t v w asked split)

excludes : (g : MixedGraph) → IsMixedGraph g → (x m y z : ℕ) → ((v : ℕ) → has x v ≡ true → v < g.vertices) → DifferOnNested g x m y z
    → HasNoFormulaNested g x m y z
excludes g ok x m y z low d = difference_excludes_nested g ok d.first d.second d.first_fits d.second_fits d.first_positive d.second_positive d.agree x m y z
    low d.s d.t d.s_values d.t_values d.differ

pub witness_excludes_nested : WitnessExcludesNested
witness_excludes_nested g ok x m y z c asked low witness = excludes g ok x m y z low (witness_differs g ok x m y z c asked witness)

pub split_excludes_nested : SplitExcludesNested
split_excludes_nested g ok x m y z p t v w asked low split = excludes g ok x m y z low (split_differs g ok x m y z p t v w asked split)
