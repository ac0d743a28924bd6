-- A path of bidirected edges from a child of a treatment to the treatment leaves no formula for the effect among the treated.
use Rattle.std.specs.Prelude.{ℕ}
use Rattle.mixed_graph.specs.Vocabulary.{MixedGraph, IsMixedGraph}
use Rattle.treated_models.specs.Vocabulary.{HasNoFormulaAmong, DifferAmong}
use Rattle.treated_id.specs.Vocabulary.{IsTreatedTarget, IsConfounded}

-- where a treatment is joined to a child of its own by bidirected edges among the ancestors of y, x and z, two positive models of the graph agree on all
-- observations and differ on the effect among those whose x was observed (the criterion is that of Shpitser and Pearl 2009)
abbrev pub PathsDifferAmong : Type 0
PathsDifferAmong = (g : MixedGraph) → IsMixedGraph g → (x y z : ℕ) → IsTreatedTarget g x y z → IsConfounded g x y z → DifferAmong g x y z

-- so no formula equals it
abbrev pub PathsExcludeAmong : Type 0
PathsExcludeAmong = (g : MixedGraph) → IsMixedGraph g → (x y z : ℕ) → IsTreatedTarget g x y z → IsConfounded g x y z → HasNoFormulaAmong g x y z
