-- The parts of what is told of a question without an instrument.
use Rattle.std.specs.Prelude.{ℕ, List, [], ◌∷◌, ◌++◌, codes}
use Rattle.json.specs.Json.{Json, string}
use Rattle.mixed_graph.specs.Vocabulary.{name_of}
use Rattle.answer_text.specs.Vocabulary.{printed, set_text}
use Rattle.answer_json.specs.Vocabulary.{set_json, query_members, vertex_json, path_json}
use Rattle.replies.specs.Vocabulary.{open_text}
use Rattle.natural_bounds.specs.declared.instruments.InstrumentFault.{InstrumentFault}
use Rattle.natural_bounds.specs.declared.instruments.InstrumentFault.TheVariants.{Moved, Open}
use Rattle.bound_values.specs.declared.questions.Method.{Method}
use Rattle.bound_values.specs.declared.questions.Method.TheVariants.{Instruments, LevelPairs, Adjustment}
use Rattle.bound_values.specs.declared.questions.Question.{Question}
use Rattle.bound_values.specs.Vocabulary.{fixed_mask}

-- `no instrument: {Z} given {W}`
abbrev pub refused_text : List (List ℕ) → Question → List ℕ
refused_text names q = codes "no instrument: " ++ (set_text names q.instruments.bits ++ (codes " given " ++ (set_text names (fixed_mask q) ++ codes "\n")))

-- `moved: W`, or the open path
abbrev pub why_text : List (List ℕ) → InstrumentFault → List ℕ
why_text names (Moved v) = codes "moved: " ++ (printed (name_of names v) ++ codes "\n")
why_text names (Open p) = open_text names p.vertices p.marks p.count

-- the same as a member
abbrev pub why_members : List (List ℕ) → InstrumentFault → List (List ℕ × Json)
why_members names (Moved v) = (codes "moved", vertex_json names v) ∷ []
why_members names (Open p) = (codes "open", path_json names p.vertices p.marks p.count) ∷ []

-- the sets by which x and y are asked for: the instruments and the strata; or the set that is adjusted for
abbrev pub method_members : List (List ℕ) → Question → Method → List (List ℕ × Json)
method_members names q Instruments = (codes "instrument", set_json names q.instruments.bits) ∷ (codes "strata", set_json names q.strata.bits) ∷ []
method_members names q LevelPairs = (codes "instrument", set_json names q.instruments.bits) ∷ (codes "strata", set_json names q.strata.bits) ∷ []
method_members names q Adjustment = (codes "set", set_json names q.strata.bits) ∷ []

-- the sets that are asked of
abbrev pub asked_members : List (List ℕ) → Question → List (List ℕ × Json)
asked_members names q = query_members names q.x.bits q.y.bits q.given.bits ++ method_members names q q.method

-- what stands before the reason: that these sets are no instrument's
abbrev pub refused_members : List (List ℕ) → Question → List (List ℕ × Json)
refused_members names q = (codes "answer", string (codes "no instrument")) ∷ asked_members names q
