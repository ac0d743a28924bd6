-- The members of the objects of a check of parts.
use Rattle.std.specs.Prelude.{ℕ, List, [], ◌∷◌, ◌++◌, map, codes, decimal}
use Rattle.json.specs.Json.{Json, string, number}
use Rattle.prob_expr.specs.Vocabulary.{formula_view}
use Rattle.do_derivation.specs.declared.faults.CheckFault.{CheckFault}
use Rattle.answer_json.specs.Vocabulary.{array_of, object_of, set_json, text_json, vertex_json}
use Rattle.effect_answers.specs.Vocabulary.{formula_members}
use Rattle.told.specs.declared.form.Writing.TheVariants as writings
use Rattle.derived_parts.specs.declared.fault.PartsFault.{PartsFault}
use Rattle.derived_parts.specs.declared.fault.PartsFault.TheVariants.{Missing, Further, District, Derivation, NoMemory}
use Rattle.treated_id.specs.declared.pairs.Pair.{Pair}
use Rattle.natural_id.specs.declared.answers.NaturalFormula.{NaturalFormula}
use Rattle.natural_id.specs.declared.answers.Part.{Part}
use Rattle.natural_id.specs.declared.answers.Split.{Split}
use Rattle.natural_id.specs.declared.answers.Witness.{Witness}
use Rattle.part_checks.specs.declared.answers.NaturalPartsFault.{NaturalPartsFault}
use Rattle.part_checks.specs.declared.answers.NaturalPartsFault.TheVariants as nested
use Rattle.part_checks.specs.declared.answers.TreatedFormula.{TreatedFormula}
use Rattle.part_checks.specs.declared.answers.TreatedPartsFault.{TreatedPartsFault}
use Rattle.part_checks.specs.declared.answers.TreatedPartsFault.TheVariants as treated
use Rattle.treated_command.specs.declared.answer.Asked.{Asked as AskedAmong}
use Rattle.treated_command.specs.Vocabulary.{effect_text as effect_among_text}
use Rattle.natural_command.specs.declared.answer.Asked.{Asked as AskedNested}
use Rattle.natural_command.specs.Vocabulary.{district_effect, effect_text as nested_effect_text}
use Rattle.check_command.specs.declared.answer.Answer.TheVariants.{RefusedDerivation}
use Rattle.check_command.specs.Vocabulary.{check_telling}

-- ---- what is accepted

-- what is said of parts
abbrev pub said_members : (word : List ℕ) → List (List ℕ × Json)
said_members word = (codes "answer", string word) ∷ (codes "of", string (codes "parts")) ∷ []

-- a part: its district, and its formula for the effect of all other vertices on that
abbrev pub part_members : List (List ℕ) → Part → List (List ℕ × Json)
part_members names p = (codes "district", set_json names p.district.bits) ∷ formula_members names (district_effect names p) (formula_view p.formula)

-- that object
abbrev pub part_json : List (List ℕ) → Part → Json
part_json names p = object_of (part_members names p)

-- the parts
abbrev pub parts_json : List (List ℕ) → List Part → Json
parts_json names parts = array_of (map (part_json names) parts)

-- an effect among the treated: its sets, its text and its parts
abbrev pub treated_members : List (List ℕ) → AskedAmong → TreatedFormula → List (List ℕ × Json)
treated_members names a f = said_members (codes "accepted") ++ (
    (codes "y", set_json names a.sets.y.bits)
    ∷ (codes "x", set_json names a.sets.x.bits)
    ∷ (codes "given", set_json names a.sets.given.bits)
    ∷ (codes "effect", text_json (effect_among_text names a))
    ∷ (codes "parts", parts_json names f.parts.items) ∷ [])

-- a nested effect
abbrev pub natural_members : List (List ℕ) → AskedNested → NaturalFormula → List (List ℕ × Json)
natural_members names a f = said_members (codes "accepted") ++ (
    (codes "y", set_json names a.question.y.bits)
    ∷ (codes "x", set_json names a.question.x.bits)
    ∷ (codes "given", set_json names a.question.given.bits)
    ∷ (codes "through", set_json names a.question.through.bits)
    ∷ (codes "effect", text_json (nested_effect_text names a))
    ∷ (codes "parts", parts_json names f.parts.items) ∷ [])

-- ---- what is refused

-- the number of a fault, and the same in words
abbrev pub numbered_members : ℕ → (message : List ℕ) → List (List ℕ × Json)
numbered_members n message = (codes "number", number (decimal n)) ∷ (codes "message", string message) ∷ []

-- fault 1 in words
unfoldable pub pair_message : List ℕ
pair_message = codes "the treatment is joined to this child of its own"

-- fault 2 in words
unfoldable pub witness_message : List ℕ
witness_message = codes "the vertex reads both values of a treatment"

-- fault 3 in words
unfoldable pub split_message : List ℕ
split_message = codes "the district reads both values of a treatment"

-- fault 4 in words
unfoldable pub missing_message : List ℕ
missing_message = codes "the part of this district is missing"

-- fault 5 in words
unfoldable pub further_message : List ℕ
further_message = codes "there is a further part"

-- fault 6 in words
unfoldable pub district_message : List ℕ
district_message = codes "the part is of another district than this one, which is due"

-- fault 7 in words
unfoldable pub derivation_message : List ℕ
derivation_message = codes "the derivation of the part isn't accepted"

-- a treatment is joined to a child of its own
abbrev pub pair_members : List (List ℕ) → Pair → List (List ℕ × Json)
pair_members names p = numbered_members 1 pair_message ++ ((codes "treatment", vertex_json names p.treatment) ∷ (codes "child", vertex_json names p.child) ∷ [])

-- a recanting witness
abbrev pub witness_members : List (List ℕ) → Witness → List (List ℕ × Json)
witness_members names w = numbered_members 2 witness_message ++ ((codes "vertex", vertex_json names w.child) ∷ [])

-- a district that reads both values of a treatment
abbrev pub split_members : List (List ℕ) → Split → List (List ℕ × Json)
split_members names s = numbered_members 3 split_message ++ ((codes "district", set_json names s.district.bits) ∷ [])

-- a fault of the part of that number, where this district is due
abbrev pub due_members : List (List ℕ) → (n : ℕ) → (message : List ℕ) → (k due : ℕ) → List (List ℕ × Json)
due_members names n message k due = numbered_members n message ++ ((codes "part", number (decimal k)) ∷ (codes "district", set_json names due) ∷ [])

-- a further part
abbrev pub further_members : ℕ → List (List ℕ × Json)
further_members k = numbered_members 5 further_message ++ ((codes "part", number (decimal k)) ∷ [])

-- a part whose derivation, of so many lemmas, is refused by this fault, with what `check` says of that
abbrev pub part_derivation_members : List (List ℕ) → (lemmas k : ℕ) → CheckFault → List (List ℕ × Json)
part_derivation_members names lemmas k fault = numbered_members 7 derivation_message ++ (
    (codes "part", number (decimal k))
    ∷ (codes "derivation", object_of (check_telling.members writings.Plain names (RefusedDerivation lemmas fault))) ∷ [])

-- a fault of the parts; want of memory has no object
abbrev pub parts_fault_members : List (List ℕ) → (lemmas : ℕ) → PartsFault → List (List ℕ × Json)
parts_fault_members names lemmas (Missing k due) = due_members names 4 missing_message k due.bits
parts_fault_members names lemmas (Further k) = further_members k
parts_fault_members names lemmas (District k due) = due_members names 6 district_message k due.bits
parts_fault_members names lemmas (Derivation k fault) = part_derivation_members names lemmas k fault
parts_fault_members names lemmas NoMemory = []

-- why the parts of an effect among the treated are refused
abbrev pub treated_fault_members : List (List ℕ) → (lemmas : ℕ) → TreatedPartsFault → List (List ℕ × Json)
treated_fault_members names lemmas (treated.Confounded pair) = pair_members names pair
treated_fault_members names lemmas (treated.Parts fault) = parts_fault_members names lemmas fault

-- why those of a nested effect are
abbrev pub natural_fault_members : List (List ℕ) → (lemmas : ℕ) → NaturalPartsFault → List (List ℕ × Json)
natural_fault_members names lemmas (nested.Witness w) = witness_members names w
natural_fault_members names lemmas (nested.Split s) = split_members names s
natural_fault_members names lemmas (nested.Parts fault) = parts_fault_members names lemmas fault

-- a refusal by a fault with these members
abbrev pub refused_members : List (List ℕ × Json) → List (List ℕ × Json)
refused_members fault = said_members (codes "refused") ++ ((codes "fault", object_of fault) ∷ [])
