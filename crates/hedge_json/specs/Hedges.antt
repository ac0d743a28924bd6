-- A hedge as an object.
use Rattle.std.specs.Prelude.{ℕ, nat_lt, List, [], ◌∷◌, map, slice_index, codes}
use Rattle.json.specs.Json.{Json}
use Rattle.mixed_graph.specs.Vocabulary.{members_below}
use Rattle.hedge.specs.declared.hedge.Hedge.{Hedge}
use Rattle.identify_text.specs.Vocabulary.{chooses}
use Rattle.answer_json.specs.Vocabulary.{array_of, object_of, set_json, vertex_json, pair_json}

-- the choice of vertex v
abbrev pub choice_json : List (List ℕ) → Hedge → ℕ → Json
choice_json names h v = object_of ((codes "vertex", vertex_json names v) ∷ (codes "child", vertex_json names (slice_index h.choice.next v)) ∷ [])

-- the choice of each member of big that has one, in index order
abbrev pub choices_json : List (List ℕ) → Hedge → List Json
choices_json names h = map (choice_json names h) (members_below (chooses h) 64)

-- entry i and its partner
abbrev pub link_json : List (List ℕ) → Hedge → ℕ → Json
link_json names h i = pair_json names (slice_index h.links.found i, slice_index h.links.partner i)

-- each entry after the first with its partner, in found order
abbrev pub links_json : List (List ℕ) → Hedge → List Json
links_json names h = map (link_json names h) (members_below (nat_lt 0) h.links.count)

-- a hedge: its sets, its choices and its links
abbrev pub hedge_json : List (List ℕ) → Hedge → Json
hedge_json names h = object_of (
    (codes "larger", set_json names h.big.bits) ∷ (codes "smaller", set_json names h.small.bits) ∷ (codes "roots", set_json names h.roots.bits)
    ∷ (codes "choices", array_of (choices_json names h)) ∷ (codes "links", array_of (links_json names h)) ∷ [])
