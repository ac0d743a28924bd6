-- A recanting witness and a split district give a pair of models that a nested event tells apart.
use Rattle.std.specs.Prelude.{ℕ, ◌≡◌, ◌<◌, true}
use Rattle.mixed_graph.specs.Vocabulary.{has, MixedGraph, IsMixedGraph}
use Rattle.nested_models.specs.Vocabulary.{IsNestedQuery, IsRecantingWitness, HasNoFormulaNested, IsSplitDistrict}
use Rattle.twisted_models.specs.Vocabulary.{AreApart, DifferOnNested}

-- with a recanting witness there is a model and a twist of it, where the nested event is possible in the one alone (Avin, Shpitser and Pearl 2005)
abbrev pub WitnessIsApart : Type 0
WitnessIsApart = (g : MixedGraph) → IsMixedGraph g → (x m y z c : ℕ) → IsNestedQuery g (has x) (has m) (has y) (has z)
    → IsRecantingWitness g (has x) (has m) (has y) c → AreApart g x m y z

-- and so there is with a district that has two children of one treatment, of which one leads to y past m, and one through m (Shpitser 2013)
abbrev pub SplitIsApart : Type 0
SplitIsApart = (g : MixedGraph) → IsMixedGraph g → (x m y z p t v w : ℕ) → IsNestedQuery g (has x) (has m) (has y) (has z)
    → IsSplitDistrict g x m y z p t v w → AreApart g x m y z

-- so with a witness there are two positive models with equal observed probabilities and different P(y[x, m[x']] | z)
abbrev pub WitnessDiffers : Type 0
WitnessDiffers = (g : MixedGraph) → IsMixedGraph g → (x m y z c : ℕ) → IsNestedQuery g (has x) (has m) (has y) (has z)
    → IsRecantingWitness g (has x) (has m) (has y) c → DifferOnNested g x m y z

-- and with a split district
abbrev pub SplitDiffers : Type 0
SplitDiffers = (g : MixedGraph) → IsMixedGraph g → (x m y z p t v w : ℕ) → IsNestedQuery g (has x) (has m) (has y) (has z)
    → IsSplitDistrict g x m y z p t v w → DifferOnNested g x m y z

-- and no formula over names and primed names equals it in the one case
abbrev pub WitnessExcludesNested : Type 0
WitnessExcludesNested = (g : MixedGraph) → IsMixedGraph g → (x m y z c : ℕ) → IsNestedQuery g (has x) (has m) (has y) (has z)
    → ((v : ℕ) → has x v ≡ true → v < g.vertices) → IsRecantingWitness g (has x) (has m) (has y) c → HasNoFormulaNested g x m y z

-- nor in the other
abbrev pub SplitExcludesNested : Type 0
SplitExcludesNested = (g : MixedGraph) → IsMixedGraph g → (x m y z p t v w : ℕ) → IsNestedQuery g (has x) (has m) (has y) (has z)
    → ((v : ℕ) → has x v ≡ true → v < g.vertices) → IsSplitDistrict g x m y z p t v w → HasNoFormulaNested g x m y z
