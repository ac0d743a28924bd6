-- The folded model of a model of a diagram with hidden vertices, as data.
use Rattle.std.specs.Prelude.{ℕ, ◌≡◌, ◌<◌, ◌≤◌, ◌↔◌, Bool, List, length, slice_index, IsTrue}
use Rattle.mixed_graph.specs.declared.sets.VSet.{VSet}
use Rattle.mixed_graph.specs.Vocabulary.{has, members_below, MixedGraph}
use Rattle.latent_projection.specs.Vocabulary.{observed_below, renumbered_set, IsObserved}
use Rattle.finite_models.specs.declared.model.Model.{Model}
use Rattle.finite_models.specs.declared.model.Mechanism.{Mechanism}
use Rattle.finite_models.specs.declared.model.Mechanism.TheVariants.{Table, Parity}
use Rattle.finite_models.specs.Vocabulary.{weights_of, children_of, table_range, values_of}
use Rattle.finite_models.specs.declared.model.Cause.{Cause}
use Rattle.hidden_models.specs.Lists.{AreListed}
use Rattle.hidden_models.specs.Reaching.{IsReachedFrom, mask_at}
use Rattle.hidden_models.specs.Tables.{IsTableFor}
use Rattle.hidden_models.specs.declared.faults.FoldFault.{FoldFault}
use Rattle.hidden_models.specs.declared.faults.FoldFault.TheVariants.{TooLarge, NoMemory}

-- ---- what callers see

-- r tells which observed vertices each cause reaches: those that some child of it reaches
abbrev pub TellsReach : MixedGraph → (ℕ → Bool) → List Cause → (ℕ → ℕ → Bool) → Type 0
TellsReach g l causes r = (j : ℕ) → j < length causes → (v : ℕ) → IsTrue (r j v) ↔ IsReachedFrom g l (has (children_of causes j)) v

-- the cause has the weights of cause j, and serves the vertices that r says, in their new numbers
pub record IsCauseOf (g : MixedGraph) (l : ℕ → Bool) (causes : List Cause) (r : ℕ → ℕ → Bool) (j : ℕ) (c : Cause) : Type 0 where
  pub weights : c.weights.items ≡ weights_of causes j
  pub children : (k : ℕ) → has c.children.bits k ≡ renumbered_set (observed_below l g.vertices) (r j) k

-- the numbers are those of the causes that reach some observed vertex, in ascending order
pub record AreReaching (g : MixedGraph) (l : ℕ → Bool) (causes : List Cause) (r : ℕ → ℕ → Bool) (js : List ℕ) : Type 0 where
  pub some : ℕ → Bool
  pub tells : (j : ℕ) → j < length causes → IsTrue (some j) ↔ ((v : ℕ) × IsTrue (r j v))
  pub members : js ≡ members_below some (length causes)

-- the causes are those that reach some observed vertex, in their order, each serving the observed vertices that it reaches
pub record AreFoldedCauses (g : MixedGraph) (l : ℕ → Bool) (causes : List Cause) (folded : List Cause) : Type 0 where
  pub reaches : ℕ → ℕ → Bool
  pub tells : TellsReach g l causes reaches
  pub numbers : List ℕ
  pub reaching : AreReaching g l causes reaches numbers
  pub each : AreListed (λ i c. IsCauseOf g l causes reaches (slice_index numbers i) c) folded (length numbers)

-- it is a table
abbrev pub IsTable : Mechanism → Type 0
IsTable (Table outputs) = Unit {0}
IsTable (Parity h c) = ⊥

-- how many entries the table of the observed vertex k has, by its new number: one for each choice of values of its parents in the observed graph q
-- and of the causes that reach it
abbrev pub table_size : (ℕ → Bool) → MixedGraph → MixedGraph → Model → (ℕ → ℕ → Bool) → ℕ → ℕ
table_size l g q m r k = table_range q.vertices (length m.causes.items) (λ p. q.arrow p k) (λ j. r j (slice_index (observed_below l g.vertices) k))
    (λ p. slice_index m.sizes.items (slice_index (observed_below l g.vertices) p)) (values_of m.causes.items)

-- the table of the observed vertex k would have more than 2^20 entries
abbrev pub IsTooLarge : MixedGraph → (ℕ → Bool) → Model → ℕ → Type 0
IsTooLarge g l m k = (q : MixedGraph) → IsObserved g l q → (r : ℕ → ℕ → Bool) → TellsReach g l m.causes.items r → 1048576 < table_size l g q m r k

-- it would not
abbrev pub IsSmallEnough : MixedGraph → (ℕ → Bool) → Model → ℕ → Type 0
IsSmallEnough g l m k = (q : MixedGraph) → IsObserved g l q → (r : ℕ → ℕ → Bool) → TellsReach g l m.causes.items r → table_size l g q m r k ≤ 1048576

-- k is the lowest observed vertex with such a table
pub record IsFirstTooLarge (g : MixedGraph) (l : ℕ → Bool) (m : Model) (k : ℕ) : Type 0 where
  pub below : k < length (observed_below l g.vertices)
  pub large : IsTooLarge g l m k
  pub before : (i : ℕ) → i < k → IsSmallEnough g l m i

-- the fault is the lowest observed vertex whose table would be too large; want of memory may stand in its place
abbrev pub IsFoldFault : MixedGraph → (ℕ → Bool) → Model → FoldFault → Type 0
IsFoldFault g l m (TooLarge k) = IsFirstTooLarge g l m k
IsFoldFault g l m NoMemory = Unit {0}

-- ---- what the parts give

-- the model has the sizes of these vertices, these causes, each serving the vertices that it reaches, and these vertices' tables
pub record IsFoldedData (g p : MixedGraph) (l : ℕ → Bool) (m : Model) (reached : List VSet) (vertices numbers : List ℕ) (f : Model) : Type 0 where
  pub sizes : AreListed (λ k x. x ≡ slice_index m.sizes.items (slice_index vertices k)) f.sizes.items (length vertices)
  pub causes : AreListed (λ i c. IsCauseOf g l m.causes.items (λ j v. has (mask_at reached j) v) (slice_index numbers i) c) f.causes.items (length numbers)
  pub mechanisms : AreListed (λ k x. IsTableFor g p l m reached (slice_index vertices k) x) f.mechanisms.items (length vertices)
