-- The worlds of a model, numbered: in mixed radix the digits of a number are the values of the hidden causes, that of the first cause varying fastest.
use Rattle.std.specs.Prelude.{ℕ, ◌≡◌, ◌/◌, ◌%◌, ◌<◌, ◌≤◌, List, Option, Some, None, EachIndex, length, slice_index}
use Rattle.mixed_graph.specs.Vocabulary.{MixedGraph}
use Rattle.finite_models.specs.Sums.{sum_below, product_below}
use Rattle.finite_models.specs.Models.{Fits}
use Rattle.finite_models.specs.Data.{weights_of, meaning}
use Rattle.finite_models.specs.Faults.{IsWellFormed}
use Rattle.finite_models.specs.declared.model.Model.{Model}
use Rattle.finite_models.specs.declared.model.Cause.{Cause}
use Rattle.finite_models.specs.declared.model.Part.{Part}

-- the number of values of cause j
abbrev pub values_of : List Cause → ℕ → ℕ
values_of causes j = length (weights_of causes j)

-- the sum of the weights of cause j
abbrev pub weight_sum : List Cause → ℕ → ℕ
weight_sum causes j = sum_below (values_of causes j) (λ i. slice_index (weights_of causes j) i)

-- the value of cause j in the world of this number
abbrev pub value_in_world : List Cause → ℕ → ℕ → ℕ
value_in_world causes world j = world / product_below j (values_of causes) % values_of causes j

-- each cause has weights of a positive sum
abbrev pub HaveWeight : List Cause → Type 0
HaveWeight causes = (j : ℕ) → j < length causes → 1 ≤ weight_sum causes j

-- the model is one that `check_model` accepts: as many sizes and mechanisms as vertices, the right form, and a meaning that fits the graph
pub record IsAcceptedModel (g : MixedGraph) (m : Model) : Type 0 where
  pub sizes : length m.sizes.items ≡ g.vertices
  pub mechanisms : length m.mechanisms.items ≡ g.vertices
  pub form : IsWellFormed g m
  pub fits : Fits g (meaning g m)

-- the causes that a part reads are there
abbrev pub HasCauses : Model → Part → Type 0
HasCauses m p = EachIndex p.causes.items (λ i. slice_index p.causes.items i < length m.causes.items)

-- the part, if there is one, reads causes that are there
abbrev pub HaveCauses : Model → Option Part → Type 0
HaveCauses m None = Unit {0}
HaveCauses m (Some p) = HasCauses m p
