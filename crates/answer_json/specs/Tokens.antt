-- The tokens of what is written.
use Rattle.std.specs.Prelude.{ℕ, List, [], ◌∷◌, ◌++◌}
use Rattle.std.specs.List.{flat_map}
use Rattle.json.specs.Token.{Token}
use Rattle.json.specs.Json.{Json}
use Rattle.json.specs.Tree.{json_tokens}
use Rattle.answer_json.specs.Progress.{Progress, nothing, whole, items, members, at_key, unfit}

-- the tokens of a member
abbrev pub member_tokens : List ℕ × Json → List Token
member_tokens m = Token.key m.0 ∷ json_tokens m.1

-- the tokens that come so far
abbrev pub tokens_of : Progress → List Token
tokens_of nothing = []
tokens_of (whole j) = json_tokens j
tokens_of (items p js) = tokens_of p ++ Token.begin_array ∷ flat_map json_tokens js
tokens_of (members p ms) = tokens_of p ++ Token.begin_object ∷ flat_map member_tokens ms
tokens_of (at_key p ms k) = tokens_of p ++ Token.begin_object ∷ (flat_map member_tokens ms ++ Token.key k ∷ [])
tokens_of unfit = Token.bad ∷ []
