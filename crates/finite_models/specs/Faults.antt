-- What keeps data from meaning a model that fits the graph, the first in order.
use Rattle.std.specs.Prelude.{ℕ, ◌≡◌, ◌-◌, ◌^◌, min, length}
use Rattle.mixed_graph.specs.Vocabulary.{MixedGraph}
use Rattle.finite_models.specs.Sound.{IsSoundAt, IsFirstWrong, AllRight}
use Rattle.finite_models.specs.Inputs.{HasInputsAt, HasValuesAt, HasPartSizeAt}
use Rattle.finite_models.specs.declared.model.Model.{Model}
use Rattle.finite_models.specs.declared.model.ModelFault.{ModelFault}
use Rattle.finite_models.specs.declared.model.ModelFault.TheVariants.{Cause, Input, Value}

-- each cause is sound, and each vertex reads what it may and has values below its size
pub record IsSoundModel (g : MixedGraph) (m : Model) : Type 0 where
  pub causes : AllRight (length m.causes.items) (IsSoundAt g m)
  pub inputs : AllRight g.vertices (HasInputsAt g m)
  pub values : AllRight g.vertices (HasValuesAt m)

-- the mechanisms are written as they have to be: tables have an output for each place, parts read what they may, and their bits are those of the size
pub record IsWellFormed (g : MixedGraph) (m : Model) : Type 0 where
  pub inputs : AllRight g.vertices (HasInputsAt g m)
  pub part_sizes : AllRight g.vertices (HasPartSizeAt m)

-- a number that would pass the last of 32 bits is given as that
abbrev pub cap : ℕ → ℕ
cap j = min j (2 ^ 32 - 1)

-- the fault is there, at its lowest number, and no fault of a kind before it
abbrev pub IsFirstModelFault : MixedGraph → Model → ModelFault → Type 0
IsFirstModelFault g m (Cause c) = (j : ℕ) × IsFirstWrong (length m.causes.items) (IsSoundAt g m) j × (c ≡ cap j)
IsFirstModelFault g m (Input v) = AllRight (length m.causes.items) (IsSoundAt g m) × IsFirstWrong g.vertices (HasInputsAt g m) v
IsFirstModelFault g m (Value v) = AllRight (length m.causes.items) (IsSoundAt g m) × AllRight g.vertices (HasInputsAt g m)
    × IsFirstWrong g.vertices (HasValuesAt m) v
