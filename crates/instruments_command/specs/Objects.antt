-- The members of the objects of `instruments`.
use Rattle.std.specs.Prelude.{ℕ, List, [], ◌∷◌, ◌++◌, map, codes}
use Rattle.json.specs.Json.{Json, string, boolean}
use Rattle.answer_json.specs.Vocabulary.{array_of, object_of, vertex_json, set_json, sets_json}
use Rattle.instrument_sets.specs.declared.instruments.Candidate.{Candidate}

-- a vertex, the sets of strata in which it is an instrument, and whether there are more
abbrev pub candidate_members : List (List ℕ) → Candidate → List (List ℕ × Json)
candidate_members names c =
    (codes "vertex", vertex_json names c.vertex) ∷ (codes "strata", sets_json names (map (λ s. s.bits) c.strata.sets.items))
    ∷ (codes "more", boolean c.strata.more) ∷ []

-- their object
abbrev pub candidate_json : List (List ℕ) → Candidate → Json
candidate_json names c = object_of (candidate_members names c)

-- the answer in a word, and the effect of x on y
abbrev pub asked_members : (word : List ℕ) → List (List ℕ) → (x y : ℕ) → List (List ℕ × Json)
asked_members word names x y = (codes "answer", string word) ∷ (codes "x", set_json names x) ∷ (codes "y", set_json names y) ∷ []

-- these, and vertices with their sets
abbrev pub listing_members : (word : List ℕ) → List (List ℕ) → (x y : ℕ) → List Candidate → List (List ℕ × Json)
listing_members word names x y list = asked_members word names x y ++ (codes "instruments", array_of (map (candidate_json names) list)) ∷ []
