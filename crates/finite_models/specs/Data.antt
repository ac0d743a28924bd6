-- Models as data, and the models that they mean.
use Rattle.std.specs.Prelude.{ℕ, ◌+◌, ◌*◌, ◌%◌, ◌/◌, Bool, true, false, if◌then◌else◌, List, [], Option, Some, None, map, get_or, length, slice_index, sum}
use Rattle.mixed_graph.specs.Vocabulary.{has, MixedGraph}
use Rattle.finite_models.specs.Sums.{sum_below}
use Rattle.finite_models.specs.Tables.{table_index, table_value}
use Rattle.finite_models.specs.Models.{FiniteModel}
use Rattle.finite_models.specs.declared.model.Model.{Model}
use Rattle.finite_models.specs.declared.model.Cause.{Cause}
use Rattle.finite_models.specs.declared.model.Part.{Part}
use Rattle.finite_models.specs.declared.model.Mechanism.{Mechanism}
use Rattle.finite_models.specs.declared.model.Mechanism.TheVariants.{Table, Parity}

-- the weights of cause j's values
abbrev pub weights_of : List Cause → ℕ → List ℕ
weights_of causes j = get_or (map (λ c. c.weights.items) causes) j []

-- the mask of cause j's children
abbrev pub children_of : List Cause → ℕ → ℕ
children_of causes j = slice_index (map (λ c. c.children.bits) causes) j

-- whether the mechanism has a hedge bit
abbrev pub hedged : Mechanism → Bool
hedged (Table outputs) = false
hedged (Parity (Some h) c) = true
hedged (Parity None c) = false

-- whether the mechanism has a carried bit
abbrev pub carries : Mechanism → Bool
carries (Table outputs) = false
carries (Parity h (Some c)) = true
carries (Parity h None) = false

-- whether vertex v has a hedge bit
abbrev pub has_hedge : List Mechanism → ℕ → Bool
has_hedge mechanisms v = get_or (map hedged mechanisms) v false

-- whether vertex v has a carried bit
abbrev pub has_carried : List Mechanism → ℕ → Bool
has_carried mechanisms v = get_or (map carries mechanisms) v false

-- the hedge bit in the value x: the first of two, or the only one
abbrev pub hedge_bit : ℕ → ℕ
hedge_bit x = x % 2

-- the carried bit in the value x of vertex v: the second where v has a hedge bit, or the only one
abbrev pub carried_bit : List Mechanism → ℕ → ℕ → ℕ
carried_bit mechanisms v x = if has_hedge mechanisms v then x / 2 else x

-- the bit of a part where the n vertices have the values s, the hidden causes the values u, and the vertex the hedge bit `own`
abbrev pub part_bit : ℕ → List Mechanism → (s u : ℕ → ℕ) → ℕ → Part → ℕ
part_bit n mechanisms s u own p = (sum_below n (λ k. if has p.hedge_of.bits k then hedge_bit (s k) else 0)
    + sum_below n (λ k. if has p.carried_of.bits k then carried_bit mechanisms k (s k) else 0)
    + (if p.own_hedge then own else 0) + sum (map u p.causes.items)) % 2

-- the value of a vertex with these two parts
abbrev pub parity_value : ℕ → List Mechanism → (s u : ℕ → ℕ) → Option Part → Option Part → ℕ
parity_value n mechanisms s u None None = 0
parity_value n mechanisms s u (Some h) None = part_bit n mechanisms s u 0 h
parity_value n mechanisms s u None (Some c) = part_bit n mechanisms s u 0 c
parity_value n mechanisms s u (Some h) (Some c) = part_bit n mechanisms s u 0 h + 2 * part_bit n mechanisms s u (part_bit n mechanisms s u 0 h) c

-- the place of vertex v's output in its table
abbrev pub place_in_table : MixedGraph → Model → ℕ → (s u : ℕ → ℕ) → ℕ
place_in_table g m v s u = table_index g.vertices (length m.causes.items) (λ p. g.arrow p v) (λ j. has (children_of m.causes.items j) v)
    (λ p. slice_index m.sizes.items p) (λ j. length (weights_of m.causes.items j)) s u

-- the value that a mechanism gives vertex v
abbrev pub value_by : MixedGraph → Model → ℕ → (s u : ℕ → ℕ) → Mechanism → ℕ
value_by g m v s u (Table outputs) = table_value outputs.items (place_in_table g m v s u)
value_by g m v s u (Parity h c) = parity_value g.vertices m.mechanisms.items s u h c

-- the model that the data means on the graph
abbrev pub meaning : MixedGraph → Model → FiniteModel
meaning g m = record {
  vertices = g.vertices;
  size = λ v. slice_index m.sizes.items v;
  causes = length m.causes.items;
  values = λ j. length (weights_of m.causes.items j);
  weight = λ j i. slice_index (weights_of m.causes.items j) i;
  serves = λ j v. has (children_of m.causes.items j) v;
  mechanism = λ v s u. slice_index (map (value_by g m v s u) m.mechanisms.items) v;
}
