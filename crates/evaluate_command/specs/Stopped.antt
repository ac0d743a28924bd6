-- Why a formula has no value over counts, in words.
use Rattle.std.specs.Prelude.{ℕ, Bool, true, false, List, [], ◌++◌, codes, Option, Some, None}
use Rattle.std.specs.Fmt.{decimal}
use Rattle.count_rows.specs.Vocabulary.{Table}
use Rattle.count_eval.specs.declared.failure.EvalFault.{EvalFault}
use Rattle.count_eval.specs.declared.failure.EvalFault.TheVariants.{NoSupport, TooWide, TooFine, NoMemory}
use Rattle.count_eval.specs.Vocabulary.{cell_of}
use Rattle.count_answers.specs.Vocabulary.{assignments}

-- want of memory is one of the faults
abbrev pub is_stop_memory : EvalFault → Bool
is_stop_memory NoMemory = true
is_stop_memory fault = false

-- the place of a node
abbrev pub place_text : Option ℕ → ℕ → List ℕ
place_text None node = codes "main node " ++ decimal node
place_text (Some k) node = codes "q" ++ (decimal k ++ (codes " node " ++ decimal node))

-- why there is no value, and at which node; where a denominator is 0, with the levels of all used vertices there
abbrev pub stop_words : List (List ℕ) → Table → EvalFault → List ℕ
stop_words names t (NoSupport cell place) =
    codes "evaluation fault 1: " ++ (place_text place.def place.node ++ (codes " at " ++ assignments names t (cell_of cell) t.vertices))
stop_words names t (TooWide place) = codes "evaluation fault 2: " ++ place_text place.def place.node
stop_words names t (TooFine place) = codes "evaluation fault 3: " ++ place_text place.def place.node
stop_words names t NoMemory = []
