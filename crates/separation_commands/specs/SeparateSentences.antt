-- The parts of what is told of a separation.
use Rattle.std.specs.Prelude.{ℕ, List, [], ◌∷◌, ◌++◌, codes}
use Rattle.json.specs.Json.{Json, string}
use Rattle.answer_json.specs.Vocabulary.{query_members}
use Rattle.targets.specs.declared.query.Sets.{Sets}
use Rattle.replies.specs.Vocabulary.{query_text}

-- `separated: X from Y given W`
abbrev pub sentence_text : (start : List ℕ) → List (List ℕ) → Sets → List ℕ
sentence_text start names s = start ++ (query_text names s.x.bits s.y.bits s.given.bits ++ 10 ∷ [])

-- the answer's word and the sets
abbrev pub sets_members : (word : List ℕ) → List (List ℕ) → Sets → List (List ℕ × Json)
sets_members word names s = (codes "answer", string word) ∷ query_members names s.x.bits s.y.bits s.given.bits
