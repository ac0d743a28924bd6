-- How far a JSON value is written, and what each token adds.
use Rattle.std.specs.Prelude.{ℕ, List, [], ◌∷◌, ◌++◌}
use Rattle.std.specs.List.{fold}
use Rattle.json.specs.Token.{Token}
use Rattle.json.specs.Json.{Json, null, boolean, number, string, array, object, Items, no_items, item, Members, no_members, member}
use Rattle.json.specs.Print.{print}
use Rattle.json.specs.Tree.{json_tokens}

-- ---- values of lists

-- items, one after another
abbrev pub items_of : List Json → Items
items_of [] = no_items
items_of (j ∷ js) = item j (items_of js)

-- members, each a key and its value
abbrev pub members_of : List (List ℕ × Json) → Members
members_of [] = no_members
members_of (m ∷ ms) = member m.0 m.1 (members_of ms)

-- an array of these items
abbrev pub array_of : List Json → Json
array_of js = array (items_of js)

-- an object of these members, each a key and its value
abbrev pub object_of : List (List ℕ × Json) → Json
object_of ms = object (members_of ms)

-- ---- how far a value is written

pub data Progress : Type 0 where
  -- nothing is written
  nothing : Progress
  -- a whole value
  whole : Json → Progress
  -- an array up to these items, in what is written around it
  items : Progress → List Json → Progress
  -- an object up to these members
  members : Progress → List (List ℕ × Json) → Progress
  -- the same, and a key whose value is to come
  at_key : Progress → List (List ℕ × Json) → List ℕ → Progress
  -- what is the beginning of no value
  unfit : Progress

-- a value more
abbrev pub with_value : Json → Progress → Progress
with_value j nothing = whole j
with_value j (whole i) = unfit
with_value j (items p js) = items p (js ++ j ∷ [])
with_value j (members p ms) = unfit
with_value j (at_key p ms k) = members p (ms ++ (k, j) ∷ [])
with_value j unfit = unfit

-- these values more
abbrev pub with_values : List Json → Progress → Progress
with_values [] p = p
with_values (j ∷ js) p = with_values js (with_value j p)

-- a key more
abbrev pub with_key : List ℕ → Progress → Progress
with_key k nothing = unfit
with_key k (whole j) = unfit
with_key k (items p js) = unfit
with_key k (members p ms) = at_key p ms k
with_key k (at_key p ms l) = unfit
with_key k unfit = unfit

-- a member more
abbrev pub with_member : List ℕ → Json → Progress → Progress
with_member k j p = with_value j (with_key k p)

-- these members more
abbrev pub with_members : List (List ℕ × Json) → Progress → Progress
with_members [] p = p
with_members (m ∷ ms) p = with_members ms (with_member m.0 m.1 p)

-- the array ends
abbrev pub ended_array : Progress → Progress
ended_array nothing = unfit
ended_array (whole j) = unfit
ended_array (items p js) = with_value (array_of js) p
ended_array (members p ms) = unfit
ended_array (at_key p ms k) = unfit
ended_array unfit = unfit

-- the object ends
abbrev pub ended_object : Progress → Progress
ended_object nothing = unfit
ended_object (whole j) = unfit
ended_object (items p js) = unfit
ended_object (members p ms) = with_value (object_of ms) p
ended_object (at_key p ms k) = unfit
ended_object unfit = unfit

-- a token more
abbrev pub next : Progress → Token → Progress
next p Token.begin_object = members p []
next p Token.end_object = ended_object p
next p Token.begin_array = items p []
next p Token.end_array = ended_array p
next p (Token.key k) = with_key k p
next p (Token.string s) = with_value (string s) p
next p (Token.number s) = with_value (number s) p
next p (Token.boolean b) = with_value (boolean b) p
next p Token.null = with_value null p
next p Token.bad = unfit

-- how far these tokens come
abbrev pub progress_of : List Token → Progress
progress_of = fold next nothing

-- ---- whole values

-- a whole value is written
abbrev pub IsWhole : Progress → Type 0
IsWhole nothing = ⊥
IsWhole (whole j) = Unit {0}
IsWhole (items p js) = ⊥
IsWhole (members p ms) = ⊥
IsWhole (at_key p ms k) = ⊥
IsWhole unfit = ⊥

-- that value
abbrev pub value_of : Progress → Json
value_of nothing = null
value_of (whole j) = j
value_of (items p js) = null
value_of (members p ms) = null
value_of (at_key p ms k) = null
value_of unfit = null

-- a value as a line
unfoldable pub json_line : Json → List ℕ
json_line j = print (json_tokens j) ++ 10 ∷ []
