-- What is told of questions with primed names that aren't answered.
use Rattle.std.specs.Prelude.{ℕ, List, ◌++◌, codes}
use Rattle.answer_text.specs.Vocabulary.{printed, line_of}
use Rattle.answer_json.specs.Vocabulary.{bare_fault_json, text_fault_json, json_line}
use Rattle.replies.specs.Told.{Told}
use Rattle.replies.specs.Vocabulary.{refusal_of}

-- the treatment acts on the vertex of this name, as the sentence says
abbrev pub acted_on_told : (sentence name : List ℕ) → Told
acted_on_told sentence name =
    refusal_of (line_of (codes "target fault 9: " ++ printed name)) (json_line (text_fault_json (codes "target") 9 sentence (codes "name") name))

-- there are more than 64 names, of which the sentence speaks
abbrev pub many_told : (sentence : List ℕ) → Told
many_told sentence = refusal_of (line_of (codes "target fault 10")) (json_line (bare_fault_json (codes "target") 10 sentence))
