-- The factors of the vertices of a district, and that of the district, as the code gives them.
use Rattle.std.specs.Prelude.{ℕ, ◌≡◌, List}
use Rattle.mixed_graph.specs.Vocabulary.{MixedGraph, union, one, common}
use Rattle.prob_expr.specs.View.{view}
use Rattle.prob_expr.specs.Vocabulary.{views}
use Rattle.do_derivation.specs.Vocabulary.{steps_view}
use Rattle.identification_theory.specs.Vocabulary.{IsPillow, Source, conditional, AreFactors, IsBody, universe, source_steps, place_list, ArePlaceLists, AreBodySteps}
use Rattle.identify.specs.declared.factors.place.VertexFactor.{VertexFactor}
use Rattle.identify.specs.declared.factors.body.Places.{Places}
use Rattle.identify.specs.declared.factors.body.Body.{Body}
use Rattle.identify.specs.declared.wanted.Wanted.{Wanted}
use Rattle.identify.specs.declared.wanted.Wanted.TheVariants.{Derivation}
use Rattle.identify.specs.Lists.{lists_view}

-- the factor of v in the district t of a, and where a derivation is wanted the steps to it; p has the vertices before v
pub record IsPlaceOf (wanted : Wanted) (g : MixedGraph) (from : Source) (a t p v : ℕ) (found : VertexFactor) : Type 0 where
  pub m : ℕ
  pub pillow : IsPillow g (union (common a p) (one v)) v m
  pub term : view found.term ≡ conditional from a v m
  pub steps : wanted ≡ Derivation → steps_view found.steps.items ≡ place_list p (universe g.vertices from a) a t m (source_steps from a v m)

-- the factors of the members of the district t of a, and where a derivation is wanted the steps to each
pub record ArePlaces (wanted : Wanted) (g : MixedGraph) (order : List ℕ) (from : Source) (a t : ℕ) (found : Places) : Type 0 where
  pub factors : AreFactors g from a t 0 order (views found.factors.items)
  pub lists : wanted ≡ Derivation → ArePlaceLists g from a t 0 order (lists_view found.lists.items)

-- the factor of the district t of a, and where a derivation is wanted its steps
pub record IsBodyOf (wanted : Wanted) (g : MixedGraph) (order : List ℕ) (from : Source) (a t : ℕ) (found : Body) : Type 0 where
  pub value : IsBody g order from a t (view found.value)
  pub steps : wanted ≡ Derivation → AreBodySteps g order from a t (steps_view found.steps.items)
