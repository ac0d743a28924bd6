-- The lines of a check.
use Rattle.std.specs.Prelude.{ℕ, nat_lt, ◌==◌, Bool, true, false, List, [], ◌++◌, length, Option, Some, None, if◌then◌else◌, codes}
use Rattle.std.specs.Fmt.{decimal}
use Rattle.mixed_graph.specs.Vocabulary.{name_of}
use Rattle.answer_text.specs.Vocabulary.{printed}
use Rattle.replies.specs.Vocabulary.{open_text}
use Rattle.do_derivation.specs.declared.faults.StepFault.{StepFault}
use Rattle.do_derivation.specs.declared.faults.StepFault.TheVariants.{NotATerm, Sets, Unblocked, BadOrder, Grouping, NoLemma, NoPlace, Shape}
use Rattle.do_derivation.specs.declared.faults.StepPlace.{StepPlace}
use Rattle.do_derivation.specs.declared.faults.CheckFault.{CheckFault}
use Rattle.do_derivation.specs.declared.faults.CheckFault.TheVariants.{EndDiffers, DoLeft}
use Rattle.do_derivation.specs.declared.faults.CheckFault.TheVariants.{Step, NoMemory}
use Rattle.hedge.specs.declared.hedge.Hedge.{Hedge}
use Rattle.hedge.specs.declared.hedge.HedgeFault.{HedgeFault}
use Rattle.hedge.specs.declared.hedge.HedgeFault.TheVariants as hedges
use Rattle.identify_text.specs.Vocabulary.{sets_line, heading_text}
use Rattle.experiment_lists.specs.Vocabulary.{unidentifiable_with_line}

-- what is accepted, and its text
abbrev pub accepted_text : List ℕ → List ℕ
accepted_text text = codes "accepted\n" ++ text

-- `main`, or `lemma 2`
abbrev pub place_text : Option ℕ → List ℕ
place_text None = codes "main"
place_text (Some j) = codes "lemma " ++ decimal j

-- the digit of a step's fault
abbrev pub fault_digit : StepFault → List ℕ
fault_digit NotATerm = codes "1"
fault_digit Sets = codes "2"
fault_digit (Unblocked p) = codes "3"
fault_digit BadOrder = codes "4"
fault_digit Grouping = codes "5"
fault_digit (NoLemma k) = codes "6"
fault_digit (NoPlace i) = codes "7"
fault_digit Shape = codes "8"

-- the line of the open path, where that is the fault
abbrev pub path_line : List (List ℕ) → StepFault → List ℕ
path_line names NotATerm = []
path_line names Sets = []
path_line names (Unblocked p) = open_text names p.vertices p.marks p.count
path_line names BadOrder = []
path_line names Grouping = []
path_line names (NoLemma k) = []
path_line names (NoPlace i) = []
path_line names Shape = []

-- `refused: lemma 2 step 7 fault 3`, with the line of an open path
abbrev pub step_text : List (List ℕ) → StepPlace → StepFault → List ℕ
step_text names place fault = codes "refused: "
    ++ (place_text place.lemma ++ (codes " step " ++ (decimal place.number
    ++ (codes " fault " ++ (fault_digit fault ++ (codes "\n" ++ path_line names fault))))))

-- the place of another end: lemma k, or main where k is the number of lemmas
abbrev pub end_place : (lemmas k : ℕ) → Option ℕ
end_place lemmas k = if k == lemmas then None else Some k

-- what is refused of a derivation of so many lemmas; want of memory has no text
abbrev pub derivation_text : List (List ℕ) → (lemmas : ℕ) → CheckFault → List ℕ
derivation_text names lemmas (Step place fault) = step_text names place fault
derivation_text names lemmas (EndDiffers k) = codes "refused: fault 9 at " ++ (place_text (end_place lemmas k) ++ codes "\n")
derivation_text names lemmas DoLeft = codes "refused: fault 10\n"
derivation_text names lemmas NoMemory = []

-- the name of vertex v; `-` where there is no such vertex
abbrev pub name_or_dash : List (List ℕ) → ℕ → List ℕ
name_or_dash names v = if nat_lt v (length names) then printed (name_of names v) else codes "-"

-- the digit of a hedge's fault
abbrev pub hedge_digit : HedgeFault → List ℕ
hedge_digit hedges.Sets = codes "1"
hedge_digit hedges.BigMissesX = codes "2"
hedge_digit hedges.SmallMeetsX = codes "3"
hedge_digit (hedges.Choice v) = codes "4"
hedge_digit (hedges.Link v) = codes "5"
hedge_digit (hedges.Root v) = codes "6"

-- ` at X`, where the fault has a vertex
abbrev pub at_vertex : List (List ℕ) → HedgeFault → List ℕ
at_vertex names hedges.Sets = []
at_vertex names hedges.BigMissesX = []
at_vertex names hedges.SmallMeetsX = []
at_vertex names (hedges.Choice v) = codes " at " ++ name_or_dash names v
at_vertex names (hedges.Link v) = codes " at " ++ name_or_dash names v
at_vertex names (hedges.Root v) = codes " at " ++ name_or_dash names v

-- `refused: hedge fault 4 at X`
abbrev pub hedge_text : List (List ℕ) → HedgeFault → List ℕ
hedge_text names fault = codes "refused: hedge fault " ++ (hedge_digit fault ++ (at_vertex names fault ++ codes "\n"))

-- the heading of a hedge: where there are experiments, its first line speaks of them
abbrev pub heading : (over_experiments : Bool) → List (List ℕ) → (x y : ℕ) → Hedge → List ℕ
heading false names x y h = heading_text names x y h
heading true names x y h = unidentifiable_with_line names x y ++ sets_line names h

-- a hedge that an experiment meets
abbrev pub met_text : List ℕ
met_text = codes "refused: hedge fault 7\n"
