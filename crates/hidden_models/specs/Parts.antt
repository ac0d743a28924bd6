-- What folding a model needs of its graph.
use Rattle.std.specs.Prelude.{ℕ, Bool}
use Rattle.mixed_graph.specs.Vocabulary.{MixedGraph, IsOrder, graph_of}
use Rattle.latent_projection.specs.Vocabulary.{IsProjection}
use Rattle.finite_models.specs.declared.model.Model.{Model}
use Rattle.hidden_models.specs.Reaching.{AreReached}
use Rattle.hidden_models.specs.declared.parts.Parts.{Parts}

-- these are the parts for a model of the graph
pub record AreParts (g : MixedGraph) (l : ℕ → Bool) (m : Model) (parts : Parts) : Type 0 where
  pub order : IsOrder g parts.order.list parts.order.count
  pub projects : IsProjection g l (graph_of parts.projection)
  pub reached : AreReached g l m.causes.items parts.reached.items
