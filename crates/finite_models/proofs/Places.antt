-- What stands at a place of a model's lists.
use Rattle.std.proofs.Common.{◌≡◌, ℕ, ◌<◌, List, [], length, get_or, sym, ap, ◌∙◌}
use Rattle.std.proofs.lemmas.List.{get_or-map}
use Rattle.mixed_graph.specs.Vocabulary.{MixedGraph}
use Rattle.finite_models.specs.Data.{weights_of, children_of}
use Rattle.finite_models.specs.Sound.{IsSoundCause, IsSoundAt}
use Rattle.finite_models.specs.declared.model.Model.{Model}
use Rattle.finite_models.specs.declared.model.Cause.{Cause}

-- the weights at a place are those of the cause that stands there
pub weights_of-at : (causes : List Cause) (j : ℕ) (x : Cause) → j < length causes → x ≡ get_or causes j x → weights_of causes j ≡ x.weights.items
weights_of-at causes j x lt is = get_or-map (λ c. c.weights.items) causes j x [] lt ∙ ap (λ c. c.weights.items) (sym is)

-- the children at a place are those of the cause that stands there
pub children_of-at : (causes : List Cause) (j : ℕ) (x : Cause) → j < length causes → x ≡ get_or causes j x → children_of causes j ≡ x.children.bits
children_of-at causes j x lt is = get_or-map (λ c. c.children.bits) causes j x 0 lt ∙ ap (λ c. c.children.bits) (sym is)

pub sound_at : (g : MixedGraph) (m : Model) (j : ℕ) (x : Cause) → j < length m.causes.items → x ≡ get_or m.causes.items j x
    → IsSoundCause g x.weights.items x.children.bits → IsSoundAt g m j
sound_at g m j x lt is h = rw (weights_of-at m.causes.items j x lt is, children_of-at m.causes.items j x lt is) h

pub sound_from : (g : MixedGraph) (m : Model) (j : ℕ) (x : Cause) → j < length m.causes.items → x ≡ get_or m.causes.items j x → IsSoundAt g m j
    → IsSoundCause g x.weights.items x.children.bits
sound_from g m j x lt is h = rw (weights_of-at m.causes.items j x lt is, children_of-at m.causes.items j x lt is) at h
