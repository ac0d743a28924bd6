-- What a vertex's mechanism may read, and which values it may give.
use Rattle.std.specs.Prelude.{◌≡◌, ℕ, ◌<◌, ◌&&◌, false, Option, Some, None, IsSome, EachIndex, length, slice_index, get_or, IsTrue}
use Rattle.mixed_graph.specs.Vocabulary.{has, MixedGraph}
use Rattle.finite_models.specs.Tables.{table_range}
use Rattle.finite_models.specs.Data.{weights_of, children_of, has_hedge, has_carried}
use Rattle.finite_models.specs.declared.model.Model.{Model}
use Rattle.finite_models.specs.declared.model.Part.{Part}
use Rattle.finite_models.specs.declared.model.Mechanism.{Mechanism}
use Rattle.finite_models.specs.declared.model.Mechanism.TheVariants.{Table, Parity}

-- j is a cause of vertex v with two values
pub record IsBitCause (m : Model) (v j : ℕ) : Type 0 where
  pub below : j < length m.causes.items
  pub serves : IsTrue (has (children_of m.causes.items j) v)
  pub two : length (weights_of m.causes.items j) ≡ 2

-- a part of vertex v reads hedge bits and carried bits of v's parents, and causes of v with two values
pub record MayRead (g : MixedGraph) (m : Model) (v : ℕ) (p : Part) : Type 0 where
  pub hedges : (k : ℕ) → IsTrue (has p.hedge_of.bits k) → IsTrue (g.arrow k v && has_hedge m.mechanisms.items k)
  pub carrieds : (k : ℕ) → IsTrue (has p.carried_of.bits k) → IsTrue (g.arrow k v && has_carried m.mechanisms.items k)
  pub causes : EachIndex p.causes.items (λ i. IsBitCause m v (slice_index p.causes.items i))

-- the hedge part of v doesn't read v's own hedge bit
abbrev pub HedgeMayRead : MixedGraph → Model → ℕ → Option Part → Type 0
HedgeMayRead g m v None = Unit {0}
HedgeMayRead g m v (Some p) = MayRead g m v p × (p.own_hedge ≡ false)

-- the carried part of v does so only where v has a hedge part
abbrev pub CarriedMayRead : MixedGraph → Model → ℕ → Option Part → Option Part → Type 0
CarriedMayRead g m v h None = Unit {0}
CarriedMayRead g m v h (Some p) = MayRead g m v p × (IsTrue p.own_hedge → IsSome h)

-- how many places the table of v has
abbrev pub places_of : MixedGraph → Model → ℕ → ℕ
places_of g m v = table_range g.vertices (length m.causes.items) (λ p. g.arrow p v) (λ j. has (children_of m.causes.items j) v)
    (λ p. slice_index m.sizes.items p) (λ j. length (weights_of m.causes.items j))

-- a mechanism of v reads what it may, and a table has an output for each place
abbrev pub HasInputs : MixedGraph → Model → ℕ → Mechanism → Type 0
HasInputs g m v (Table outputs) = length outputs.items ≡ places_of g m v
HasInputs g m v (Parity h c) = HedgeMayRead g m v h × CarriedMayRead g m v h c

-- the number of values of these bits
abbrev pub parity_size : Option Part → Option Part → ℕ
parity_size None None = 1
parity_size (Some h) None = 2
parity_size None (Some c) = 2
parity_size (Some h) (Some c) = 4

-- a mechanism gives values below the size
abbrev pub HasValues : ℕ → Mechanism → Type 0
HasValues size (Table outputs) = EachIndex outputs.items (λ i. slice_index outputs.items i < size)
HasValues size (Parity h c) = size ≡ parity_size h c

-- the mechanism of v reads what it may, whatever is taken to stand past the last mechanism
abbrev pub HasInputsAt : MixedGraph → Model → ℕ → Type 0
HasInputsAt g m v = (past : Mechanism) → HasInputs g m v (get_or m.mechanisms.items v past)

-- v gives values below its size
abbrev pub HasValuesAt : Model → ℕ → Type 0
HasValuesAt m v = (past : Mechanism) → HasValues (slice_index m.sizes.items v) (get_or m.mechanisms.items v past)

-- the bits of a parity mechanism have as many values together as the size says
abbrev pub HasPartSize : ℕ → Mechanism → Type 0
HasPartSize size (Table outputs) = Unit {0}
HasPartSize size (Parity h c) = size ≡ parity_size h c

-- the same of the mechanism of v
abbrev pub HasPartSizeAt : Model → ℕ → Type 0
HasPartSizeAt m v = (past : Mechanism) → HasPartSize (slice_index m.sizes.items v) (get_or m.mechanisms.items v past)
