-- The tables of a folded model, in the old numbers of vertices and causes.
use Rattle.std.specs.Prelude.{ℕ, ◌≡◌, ◌<◌, ◌*◌, ◌/◌, ◌%◌, Bool, List, length, slice_index}
use Rattle.mixed_graph.specs.declared.sets.VSet.{VSet}
use Rattle.mixed_graph.specs.Vocabulary.{has, MixedGraph}
use Rattle.finite_models.specs.declared.model.Model.{Model}
use Rattle.finite_models.specs.declared.model.Mechanism.{Mechanism}
use Rattle.finite_models.specs.declared.model.Mechanism.TheVariants.{Table, Parity}
use Rattle.finite_models.specs.Vocabulary.{meaning, FiniteModel, radix_range, values_of}
use Rattle.hidden_models.specs.Digits.{digits}
use Rattle.hidden_models.specs.Reaching.{mask_at}
use Rattle.hidden_models.specs.Values.{filled}

-- the number of values of the causes that reach v together
abbrev pub world_range : Model → List VSet → ℕ → ℕ
world_range m reached v = radix_range (length m.causes.items) (λ j. has (mask_at reached j) v) (values_of m.causes.items)

-- how many entries the table of v has: one for each choice of values of its parents in the projection p and of the causes that reach it
abbrev pub entries : MixedGraph → Model → List VSet → ℕ → ℕ
entries p m reached v = radix_range p.vertices (λ k. p.arrow k v) (λ k. slice_index m.sizes.items k) * world_range m reached v

-- the values of the parents of v at a place of its table
abbrev pub parents_at : MixedGraph → Model → List VSet → ℕ → ℕ → ℕ → ℕ
parents_at p m reached v place = digits p.vertices (λ k. p.arrow k v) (λ k. slice_index m.sizes.items k) (place / world_range m reached v)

-- the values of the causes that reach v at a place of its table
abbrev pub causes_at : Model → List VSet → ℕ → ℕ → ℕ → ℕ
causes_at m reached v place = digits (length m.causes.items) (λ j. has (mask_at reached j) v) (values_of m.causes.items) (place % world_range m reached v)

-- the value of v where the observed vertices have the values s and the causes the values u: the hidden mechanisms are evaluated
abbrev pub folded_value : FiniteModel → (ℕ → Bool) → ℕ → (s u : ℕ → ℕ) → ℕ
folded_value m l v s u = m.mechanism v (filled m l s u) u

-- the entry at a place
abbrev pub entry_at : (g p : MixedGraph) → (ℕ → Bool) → Model → List VSet → ℕ → ℕ → ℕ
entry_at g p l m reached v place = folded_value (meaning g m) l v (parents_at p m reached v place) (causes_at m reached v place)

-- these are the entries of the table of v
pub record AreEntries (g p : MixedGraph) (l : ℕ → Bool) (m : Model) (reached : List VSet) (v : ℕ) (outputs : List ℕ) : Type 0 where
  pub long : length outputs ≡ entries p m reached v
  pub each : (i : ℕ) → i < entries p m reached v → slice_index outputs i ≡ entry_at g p l m reached v i

-- the mechanism is the table of v
abbrev pub IsTableFor : (g p : MixedGraph) → (ℕ → Bool) → Model → List VSet → ℕ → Mechanism → Type 0
IsTableFor g p l m reached v (Table outputs) = AreEntries g p l m reached v outputs.items
IsTableFor g p l m reached v (Parity h c) = ⊥
