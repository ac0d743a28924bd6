-- The members of the objects of `adjust`, and their objects.
use Rattle.std.specs.Prelude.{ℕ, Bool, false, List, [], ◌∷◌, ◌++◌, map, codes}
use Rattle.mixed_graph.specs.declared.sets.VSet.{VSet}
use Rattle.json.specs.Json.{Json, string, boolean}
use Rattle.answer_json.specs.Vocabulary.{object_of, vertex_json, set_json, path_json}
use Rattle.answer_json.specs.Values as values
use Rattle.adjustment.specs.declared.criteria.AdjFault.{AdjFault}
use Rattle.adjustment.specs.declared.criteria.AdjFault.TheVariants.{Forbidden, Unblocked}
use Rattle.adjustment.specs.Vocabulary.{adjustment_formula}
use Rattle.prob_expr.specs.Vocabulary.{effect_on}
use Rattle.effect_answers.specs.Vocabulary.{formula_members}

-- the members up to the effect of x on y, behind the answer in a word
abbrev pub begun_members : (word : List ℕ) → List (List ℕ) → (x y : ℕ) → List (List ℕ × Json)
begun_members word names x y = (codes "answer", string word) ∷ (codes "x", set_json names x) ∷ (codes "y", set_json names y) ∷ []

-- the sets of a listing, and whether there are more
abbrev pub listing_members : (word : List ℕ) → List (List ℕ) → (x y : ℕ) → List VSet → Bool → List (List ℕ × Json)
listing_members word names x y sets more = begun_members word names x y
    ++ (codes "sets", values.sets_json names (map (λ s. s.bits) sets)) ∷ (codes "more", boolean more) ∷ []

-- their object
abbrev pub listing_json : (word : List ℕ) → List (List ℕ) → (x y : ℕ) → List VSet → Bool → Json
listing_json word names x y sets more = object_of (listing_members word names x y sets more)

-- the minimal sets, and whether there are more
abbrev pub sets_json : List (List ℕ) → (x y : ℕ) → List VSet → Bool → Json
sets_json names x y sets more = listing_json (codes "sets") names x y sets more

-- no set is admissible
abbrev pub none_json : List (List ℕ) → (x y : ℕ) → Json
none_json names x y = listing_json (codes "none") names x y [] false

-- z may be adjusted for: the members of that, and those of the effect of x on y with the adjustment formula of z
abbrev pub admissible_members : List (List ℕ) → (x y z : ℕ) → List (List ℕ × Json)
admissible_members names x y z =
    (codes "answer", string (codes "admissible")) ∷ (codes "x", set_json names x) ∷ (codes "y", set_json names y) ∷ (codes "set", set_json names z)
    ∷ formula_members names (effect_on x y) (adjustment_formula x y z)

-- that object
unfoldable pub admissible_json : List (List ℕ) → (x y z : ℕ) → Json
admissible_json names x y z = object_of (admissible_members names x y z)

-- what breaks a criterion: a member that is forbidden, or an open path
abbrev pub fault_member : List (List ℕ) → AdjFault → List ℕ × Json
fault_member names (Forbidden v) = (codes "forbidden", vertex_json names v)
fault_member names (Unblocked path) = (codes "open", path_json names path.vertices path.marks path.count)

-- z may not be adjusted for, and what breaks the criterion
abbrev pub not_admissible_members : List (List ℕ) → (x y z : ℕ) → AdjFault → List (List ℕ × Json)
not_admissible_members names x y z fault =
    begun_members (codes "not admissible") names x y ++ (codes "set", set_json names z) ∷ fault_member names fault ∷ []

-- that object
abbrev pub not_admissible_json : List (List ℕ) → (x y z : ℕ) → AdjFault → Json
not_admissible_json names x y z fault = object_of (not_admissible_members names x y z fault)
