-- The lines of a check of parts.
use Rattle.std.specs.Prelude.{ℕ, List, [], ◌++◌, codes, decimal}
use Rattle.std.specs.List.{flat_map}
use Rattle.answer_text.specs.declared.signs.Notation.TheVariants as notations
use Rattle.answer_text.specs.Vocabulary.{set_text}
use Rattle.prob_expr.specs.Vocabulary.{formula_view}
use Rattle.do_derivation.specs.declared.faults.CheckFault.{CheckFault}
use Rattle.identify_text.specs.Vocabulary.{answer_in, vertex_text}
use Rattle.told.specs.declared.form.Writing.TheVariants as writings
use Rattle.derived_parts.specs.declared.fault.PartsFault.{PartsFault}
use Rattle.derived_parts.specs.declared.fault.PartsFault.TheVariants.{Missing, Further, District, Derivation, NoMemory}
use Rattle.treated_id.specs.declared.pairs.Pair.{Pair}
use Rattle.natural_id.specs.declared.answers.NaturalFormula.{NaturalFormula}
use Rattle.natural_id.specs.declared.answers.Part.{Part}
use Rattle.natural_id.specs.declared.answers.Split.{Split}
use Rattle.natural_id.specs.declared.answers.Witness.{Witness}
use Rattle.part_checks.specs.declared.answers.NaturalPartsFault.{NaturalPartsFault}
use Rattle.part_checks.specs.declared.answers.NaturalPartsFault.TheVariants as nested
use Rattle.part_checks.specs.declared.answers.TreatedFormula.{TreatedFormula}
use Rattle.part_checks.specs.declared.answers.TreatedPartsFault.{TreatedPartsFault}
use Rattle.part_checks.specs.declared.answers.TreatedPartsFault.TheVariants as treated
use Rattle.treated_command.specs.declared.answer.Asked.{Asked as AskedAmong}
use Rattle.treated_command.specs.Vocabulary.{effect_text as effect_among_text}
use Rattle.natural_command.specs.declared.answer.Asked.{Asked as AskedNested}
use Rattle.natural_command.specs.Vocabulary.{district_effect, effect_text as nested_effect_text}
use Rattle.check_command.specs.declared.answer.Answer.TheVariants.{RefusedDerivation}
use Rattle.check_command.specs.Vocabulary.{check_telling}

-- ---- what is accepted

-- `P(A,B|do(C)) = ..`, and its definitions: the effect of all other vertices on a district, and the formula of its part
abbrev pub part_text : List (List ℕ) → Part → List ℕ
part_text names p = answer_in notations.Plain names (district_effect names p) (formula_view p.formula)

-- `accepted`, the line of the effect, and those of the parts
abbrev pub accepted_text : List (List ℕ) → (effect : List ℕ) → List Part → List ℕ
accepted_text names effect parts = codes "accepted\n" ++ (effect ++ (codes " in parts:\n" ++ flat_map (part_text names) parts))

-- `P(Y|do(X),X') in parts:`
abbrev pub treated_text : List (List ℕ) → AskedAmong → TreatedFormula → List ℕ
treated_text names a f = accepted_text names (effect_among_text names a) f.parts.items

-- `P(Y[X,M[X']]) in parts:`
abbrev pub natural_text : List (List ℕ) → AskedNested → NaturalFormula → List ℕ
natural_text names a f = accepted_text names (nested_effect_text names a) f.parts.items

-- ---- what is refused

-- `refused: parts fault 1: X Z`: a treatment is joined to a child of its own
abbrev pub pair_text : List (List ℕ) → Pair → List ℕ
pair_text names p = codes "refused: parts fault 1: " ++ (vertex_text names p.treatment ++ (codes " " ++ (vertex_text names p.child ++ codes "\n")))

-- `refused: parts fault 2: W`: a recanting witness
abbrev pub witness_text : List (List ℕ) → Witness → List ℕ
witness_text names w = codes "refused: parts fault 2: " ++ (vertex_text names w.child ++ codes "\n")

-- `refused: parts fault 3: {A,B}`: a district that reads both values of a treatment
abbrev pub split_text : List (List ℕ) → Split → List ℕ
split_text names s = codes "refused: parts fault 3: " ++ (set_text names s.district.bits ++ codes "\n")

-- ` at part 2`
abbrev pub at_part : ℕ → List ℕ
at_part k = codes " at part " ++ decimal k

-- `refused: parts fault 4 at part 2: {A,B}`: a fault of the part of that number, where this district is due
abbrev pub due_text : List (List ℕ) → (fault : List ℕ) → (k due : ℕ) → List ℕ
due_text names fault k due = fault ++ (at_part k ++ (codes ": " ++ (set_text names due ++ codes "\n")))

-- `refused: parts fault 5 at part 2`
abbrev pub further_text : ℕ → List ℕ
further_text k = codes "refused: parts fault 5" ++ (at_part k ++ codes "\n")

-- `refused: parts fault 7 at part 2`, and what `check` says of a derivation of so many lemmas with this fault
abbrev pub part_derivation_text : List (List ℕ) → (lemmas k : ℕ) → CheckFault → List ℕ
part_derivation_text names lemmas k fault = codes "refused: parts fault 7"
    ++ (at_part k ++ (codes "\n" ++ check_telling.text writings.Plain names (RefusedDerivation lemmas fault)))

-- a fault of the parts; want of memory has no text
abbrev pub parts_fault_text : List (List ℕ) → (lemmas : ℕ) → PartsFault → List ℕ
parts_fault_text names lemmas (Missing k due) = due_text names (codes "refused: parts fault 4") k due.bits
parts_fault_text names lemmas (Further k) = further_text k
parts_fault_text names lemmas (District k due) = due_text names (codes "refused: parts fault 6") k due.bits
parts_fault_text names lemmas (Derivation k fault) = part_derivation_text names lemmas k fault
parts_fault_text names lemmas NoMemory = []

-- why the parts of an effect among the treated are refused
abbrev pub refused_treated_text : List (List ℕ) → (lemmas : ℕ) → TreatedPartsFault → List ℕ
refused_treated_text names lemmas (treated.Confounded pair) = pair_text names pair
refused_treated_text names lemmas (treated.Parts fault) = parts_fault_text names lemmas fault

-- why those of a nested effect are
abbrev pub refused_natural_text : List (List ℕ) → (lemmas : ℕ) → NaturalPartsFault → List ℕ
refused_natural_text names lemmas (nested.Witness w) = witness_text names w
refused_natural_text names lemmas (nested.Split s) = split_text names s
refused_natural_text names lemmas (nested.Parts fault) = parts_fault_text names lemmas fault
