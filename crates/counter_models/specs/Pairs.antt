-- The two models that a hedge gives, as data.
use Rattle.std.specs.Prelude.{◌≡◌, ℕ, suc, ◌+◌, ◌-◌, ◌<◌, Bool, true, false, if◌then◌else◌, ◌==◌, ◌&&◌, ◌||◌, Option, Some, None, List, [], ◌∷◌, ◌++◌}
use Rattle.std.specs.Prelude.{IsTrue, length, get_or, slice_index}
use Rattle.mixed_graph.specs.Vocabulary.{has, members_below, MixedGraph}
use Rattle.finite_models.specs.declared.model.Model.{Model}
use Rattle.finite_models.specs.declared.model.Part.{Part}
use Rattle.finite_models.specs.declared.model.Mechanism.{Mechanism}
use Rattle.finite_models.specs.declared.model.Mechanism.TheVariants.{Table, Parity}
use Rattle.finite_models.specs.Vocabulary.{weights_of, children_of}
use Rattle.finite_models.specs.declared.model.Cause.{Cause}
use Rattle.hedge.specs.declared.hedge.Hedge.{Hedge}
use Rattle.hedge.specs.Vocabulary.{size_of}
use Rattle.counter_models.specs.Kept.{AreCarriers}
use Rattle.counter_models.specs.declared.counter_pair.CounterPair.{CounterPair}

-- ---- causes: one of each link in found order, one of each member of small, one of each kept vertex
-- how many links there are: one for each entry after the first
abbrev pub links_of : Hedge → ℕ
links_of h = h.links.count - 1

-- link j is that of entry j + 1: whether it has the end v
abbrev pub is_linked : Hedge → ℕ → ℕ → Bool
is_linked h j v = (v == slice_index h.links.found (suc j)) || (v == slice_index h.links.partner (suc j))

-- entries are below 64, and so are the partners of all after the first
pub record HasLowLinks (h : Hedge) : Type 0 where
  pub entries : (i : ℕ) → i < h.links.count → slice_index h.links.found i < 64
  pub partners : (i : ℕ) → 0 < i → i < h.links.count → slice_index h.links.partner i < 64

-- how many members of the set are below v
abbrev pub before : ℕ → ℕ → ℕ
before s v = length (members_below (has s) v)

-- the cause of v in small
abbrev pub small_cause : Hedge → ℕ → ℕ
small_cause h v = links_of h + before h.small.bits v

-- the cause of the kept vertex v
abbrev pub kept_cause : Hedge → ℕ → ℕ → ℕ
kept_cause h kept v = links_of h + size_of h.small.bits + before kept v

-- cause j has these weights and these children
pub record IsCauseAt (causes : List Cause) (j : ℕ) (weights : List ℕ) (children : ℕ → Bool) : Type 0 where
  pub weights_are : weights_of causes j ≡ weights
  pub children_are : (v : ℕ) → has (children_of causes j) v ≡ children v

-- links have the weights 1 1, the others 3 1
pub record AreCauses (h : Hedge) (kept : ℕ) (causes : List Cause) : Type 0 where
  pub count : length causes ≡ links_of h + size_of h.small.bits + size_of kept
  pub links : (j : ℕ) → j < links_of h → IsCauseAt causes j (1 ∷ 1 ∷ []) (is_linked h j)
  pub small : (v : ℕ) → IsTrue (has h.small.bits v) → IsCauseAt causes (small_cause h v) (3 ∷ 1 ∷ []) (λ u. u == v)
  pub kept_ones : (v : ℕ) → IsTrue (has kept v) → IsCauseAt causes (kept_cause h kept v) (3 ∷ 1 ∷ []) (λ u. u == v)

-- ---- bits
-- the causes of the links of entries in s that have the end v
abbrev pub link_causes : Hedge → (s v : ℕ) → List ℕ
link_causes h s v = members_below (λ j. is_linked h j v && has s (slice_index h.links.found (suc j))) (links_of h)

-- the hedge bit of v: the members of s that chose v, the links of entries in s at v, and the cause of v in small
pub record IsHedgePart (h : Hedge) (s v : ℕ) (p : Part) : Type 0 where
  pub hedges : (u : ℕ) → has p.hedge_of.bits u ≡ (has s u && (slice_index h.choice.next u == v))
  pub carrieds : (u : ℕ) → has p.carried_of.bits u ≡ false
  pub own : p.own_hedge ≡ false
  pub causes : p.causes.items ≡ link_causes h s v ++ (if has h.small.bits v then (small_cause h v ∷ []) else [])

-- the carried bit of v: its own hedge bit where it is a root, the kept vertices that carry to it, and its cause
pub record IsCarriedPart (h : Hedge) (kept : ℕ) (carry : List ℕ) (v : ℕ) (p : Part) : Type 0 where
  pub hedges : (u : ℕ) → has p.hedge_of.bits u ≡ false
  pub carrieds : (u : ℕ) → has p.carried_of.bits u ≡ (has kept u && (slice_index carry u == v))
  pub own : p.own_hedge ≡ has h.roots.bits v
  pub causes : p.causes.items ≡ kept_cause h kept v ∷ []

-- the part is there where b says so, and is as P says
abbrev pub IsPartWhere : Bool → (Part → Type 0) → Option Part → Type 0
IsPartWhere true P (Some p) = P p
IsPartWhere true P None = ⊥
IsPartWhere false P (Some p) = ⊥
IsPartWhere false P None = Unit {0}

-- v in big has a hedge bit from s, and a kept v a carried bit
abbrev pub IsMechanismOf : Hedge → (kept : ℕ) → List ℕ → (s v : ℕ) → Mechanism → Type 0
IsMechanismOf h kept carry s v (Table outputs) = ⊥
IsMechanismOf h kept carry s v (Parity a b) = IsPartWhere (has h.big.bits v) (IsHedgePart h s v) a × IsPartWhere (has kept v) (IsCarriedPart h kept carry v) b

-- 4 values with both bits, 2 with one, 1 with none
abbrev pub size_at : Hedge → (kept v : ℕ) → ℕ
size_at h kept v = if has h.big.bits v then (if has kept v then 4 else 2) else (if has kept v then 2 else 1)

-- the model in which the hedge bit of each v comes from the set `sources v`
pub record IsModelOf (g : MixedGraph) (h : Hedge) (kept : ℕ) (carry : List ℕ) (sources : ℕ → ℕ) (m : Model) : Type 0 where
  pub causes : AreCauses h kept m.causes.items
  pub all_sizes : length m.sizes.items ≡ g.vertices
  pub sizes : (v : ℕ) → v < g.vertices → slice_index m.sizes.items v ≡ size_at h kept v
  pub all_mechanisms : length m.mechanisms.items ≡ g.vertices
  -- whatever is taken to stand past the last
  pub mechanisms : (v : ℕ) → v < g.vertices → (past : Mechanism) → IsMechanismOf h kept carry (sources v) v (get_or m.mechanisms.items v past)

-- in the first model hedge bits come from big
abbrev pub in_first : Hedge → ℕ → ℕ
in_first h v = h.big.bits

-- in the second those of members of small come from small alone
abbrev pub in_second : Hedge → ℕ → ℕ
in_second h v = if has h.small.bits v then h.small.bits else h.big.bits

-- the two models of a hedge for the effect of x on y
pub record IsPairOf (g : MixedGraph) (x y : ℕ) (h : Hedge) (pair : CounterPair) : Type 0 where
  pub kept : ℕ
  pub are_kept : AreCarriers g x y h.roots.bits kept pair.carry.next
  pub first : IsModelOf g h kept pair.carry.next (in_first h) pair.first
  pub second : IsModelOf g h kept pair.carry.next (in_second h) pair.second
  pub event : (v : ℕ) → has pair.event.bits v ≡ (has kept v && has y v)
  pub noise : pair.noise ≡ size_of h.small.bits + size_of kept
