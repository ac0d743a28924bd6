-- The two models of a hedge as an object.
use Rattle.std.specs.Prelude.{ℕ, ◌+◌, List, [], ◌∷◌, ◌++◌, Option, Some, None, map, codes, decimal, if◌then◌else◌}
use Rattle.json.specs.Json.{Json, string, number}
use Rattle.mixed_graph.specs.Vocabulary.{has, members_below}
use Rattle.finite_models.specs.declared.model.Cause.{Cause}
use Rattle.finite_models.specs.declared.model.Part.{Part}
use Rattle.finite_models.specs.declared.model.Mechanism.{Mechanism}
use Rattle.finite_models.specs.declared.model.Mechanism.TheVariants.{Table, Parity}
use Rattle.counter_models.specs.declared.counter_pair.CounterPair.{CounterPair}
use Rattle.answer_json.specs.Vocabulary.{array_of, object_of, set_json, vertex_json}
use Rattle.hedge_json.specs.declared.bits.Bit.{Bit}
use Rattle.hedge_json.specs.declared.bits.Bit.TheVariants.{HedgeBit, CarriedBit}

-- a cause: the vertices on which it acts, and the weight of each of its values
abbrev pub cause_json : List (List ℕ) → Cause → Json
cause_json names c =
    object_of ((codes "acts_on", set_json names c.children.bits) ∷ (codes "weights", array_of (map (λ w. string (decimal w)) c.weights.items)) ∷ [])

-- the letter of a bit
abbrev pub letter : Bit → List ℕ
letter HedgeBit = codes "h"
letter CarriedBit = codes "k"

-- a bit of vertex v
abbrev pub bit_members : List (List ℕ) → Bit → ℕ → List (List ℕ × Json)
bit_members names bit v = (codes "bit", string (letter bit)) ∷ (codes "vertex", vertex_json names v) ∷ []

-- the same as a term
abbrev pub bit_json : List (List ℕ) → Bit → ℕ → Json
bit_json names bit v = object_of (bit_members names bit v)

-- that bit of each member of the set, in index order
abbrev pub bits_json : List (List ℕ) → Bit → ℕ → List Json
bits_json names bit set = map (bit_json names bit) (members_below (has set) 64)

-- a cause as a term
abbrev pub cause_term : ℕ → Json
cause_term j = object_of ((codes "cause", number (decimal j)) ∷ [])

-- what a bit of vertex v is the parity of: v's own hedge bit, hedge bits, carried bits, and causes
abbrev pub terms_json : List (List ℕ) → ℕ → Part → List Json
terms_json names v p = (if p.own_hedge then bit_json names HedgeBit v ∷ [] else [])
    ++ (bits_json names HedgeBit p.hedge_of.bits ++ (bits_json names CarriedBit p.carried_of.bits ++ map cause_term p.causes.items))

-- a bit of vertex v and what it is the parity of
abbrev pub part_json : List (List ℕ) → Bit → ℕ → Part → Json
part_json names bit v p = object_of (bit_members names bit v ++ (codes "sum", array_of (terms_json names v p)) ∷ [])

-- the same where v has that bit
abbrev pub part_values : List (List ℕ) → Bit → ℕ → Option Part → List Json
part_values names bit v None = []
part_values names bit v (Some p) = part_json names bit v p ∷ []

-- the bits of vertex v: its hedge bit, and then its carried bit
abbrev pub mechanism_values : List (List ℕ) → ℕ → Mechanism → List Json
mechanism_values names v (Table outputs) = []
mechanism_values names v (Parity h k) = part_values names HedgeBit v h ++ part_values names CarriedBit v k

-- those of the vertices from v on
abbrev pub vertex_values : List (List ℕ) → ℕ → List Mechanism → List Json
vertex_values names v [] = []
vertex_values names v (m ∷ ms) = mechanism_values names v m ++ vertex_values names (v + 1) ms

-- the event that an even number of these carried bits are 1, and its probability under the intervention in each model
abbrev pub event_json : List (List ℕ) → CounterPair → Json
event_json names pair = object_of (
    (codes "sum", array_of (bits_json names CarriedBit pair.event.bits)) ∷ (codes "first", string (codes "1/2"))
    ∷ (codes "second", string (codes "1/2 + 1/2^" ++ decimal (pair.noise + 1))) ∷ [])

-- both models: their causes, the bits of the first and of the second, and the event
abbrev pub models_json : List (List ℕ) → CounterPair → Json
models_json names pair = object_of (
    (codes "causes", array_of (map (cause_json names) pair.first.causes.items))
    ∷ (codes "first", array_of (vertex_values names 0 pair.first.mechanisms.items))
    ∷ (codes "second", array_of (vertex_values names 0 pair.second.mechanisms.items))
    ∷ (codes "event", event_json names pair) ∷ [])
