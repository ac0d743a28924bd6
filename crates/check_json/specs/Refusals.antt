-- The members of the objects of a refused derivation and of a refused hedge.
use Rattle.std.specs.Prelude.{ℕ, nat_lt, ◌==◌, List, [], ◌∷◌, length, Option, Some, None, if◌then◌else◌, codes, decimal}
use Rattle.json.specs.Json.{Json, null, string, number}
use Rattle.do_derivation.specs.declared.faults.StepFault.{StepFault}
use Rattle.do_derivation.specs.declared.faults.StepFault.TheVariants.{NotATerm, Sets, Unblocked, BadOrder, Grouping, NoLemma, NoPlace, Shape}
use Rattle.do_derivation.specs.declared.faults.CheckFault.{CheckFault}
use Rattle.do_derivation.specs.declared.faults.CheckFault.TheVariants.{EndDiffers, DoLeft}
use Rattle.do_derivation.specs.declared.faults.CheckFault.TheVariants.{Step, NoMemory}
use Rattle.hedge.specs.declared.hedge.HedgeFault.{HedgeFault}
use Rattle.hedge.specs.declared.hedge.HedgeFault.TheVariants as hedges
use Rattle.answer_json.specs.Progress.{Progress}
use Rattle.answer_json.specs.Vocabulary.{with_key, with_members, object_of, vertex_json, path_json}

-- ---- derivations

-- the number of a step's fault
abbrev pub step_number : StepFault → ℕ
step_number NotATerm = 1
step_number Sets = 2
step_number (Unblocked p) = 3
step_number BadOrder = 4
step_number Grouping = 5
step_number (NoLemma k) = 6
step_number (NoPlace i) = 7
step_number Shape = 8

-- the same in words
unfoldable pub step_message : StepFault → List ℕ
step_message NotATerm = codes "the step wants a term"
step_message Sets = codes "the sets of the step are wrong"
step_message (Unblocked p) = codes "the separation of the rule fails"
step_message BadOrder = codes "the order of the chain is wrong"
step_message Grouping = codes "the groups are wrong"
step_message (NoLemma k) = codes "there is no such lemma"
step_message (NoPlace i) = codes "there is no such child"
step_message Shape = codes "the expression has another shape"

-- the open path, where that is the fault
abbrev pub open_members : List (List ℕ) → StepFault → List (List ℕ × Json)
open_members names NotATerm = []
open_members names Sets = []
open_members names (Unblocked p) = (codes "open", path_json names p.vertices p.marks p.count) ∷ []
open_members names BadOrder = []
open_members names Grouping = []
open_members names (NoLemma k) = []
open_members names (NoPlace i) = []
open_members names Shape = []

-- a number, where there is one
abbrev pub number_or_null : Option ℕ → Json
number_or_null None = null
number_or_null (Some k) = number (decimal k)

-- where a step stands: the number of its lemma, or none for main, and its own
abbrev pub at_json : (lemma step : Option ℕ) → Json
at_json lemma step = object_of ((codes "lemma", number_or_null lemma) ∷ (codes "step", number_or_null step) ∷ [])

-- what is refused of a formula: where, by which fault, and what follows
abbrev pub refused_members : (at : Json) (n : ℕ) (message : List ℕ) → List (List ℕ × Json) → List (List ℕ × Json)
refused_members at n message rest =
    (codes "answer", string (codes "refused")) ∷ (codes "of", string (codes "formula")) ∷ (codes "at", at)
    ∷ (codes "number", number (decimal n)) ∷ (codes "message", string message) ∷ rest

-- the same up to the key of the place
abbrev pub begun_refusal : Progress → Progress
begun_refusal p = with_key (codes "at") (with_members ((codes "answer", string (codes "refused")) ∷ (codes "of", string (codes "formula")) ∷ []) p)

-- the place of another end: lemma k, or main where k is the number of lemmas
abbrev pub end_place : (lemmas k : ℕ) → Option ℕ
end_place lemmas k = if k == lemmas then None else Some k

-- the message of another end
unfoldable pub end_message : List ℕ
end_message = codes "the steps end in another expression than the one that stands there"

-- the message of an intervention that is left
unfoldable pub do_message : List ℕ
do_message = codes "a term still has a do"

-- a derivation of so many lemmas that is refused; want of memory has no object
abbrev pub derivation_members : List (List ℕ) → (lemmas : ℕ) → CheckFault → List (List ℕ × Json)
derivation_members names lemmas (Step place fault) =
    refused_members (at_json place.lemma (Some place.number)) (step_number fault) (step_message fault) (open_members names fault)
derivation_members names lemmas (EndDiffers k) = refused_members (at_json (end_place lemmas k) None) 9 end_message []
derivation_members names lemmas DoLeft = refused_members null 10 do_message []
derivation_members names lemmas NoMemory = []

-- ---- hedges

-- the number of a hedge's fault
abbrev pub hedge_number : HedgeFault → ℕ
hedge_number hedges.Sets = 1
hedge_number hedges.BigMissesX = 2
hedge_number hedges.SmallMeetsX = 3
hedge_number (hedges.Choice v) = 4
hedge_number (hedges.Link v) = 5
hedge_number (hedges.Root v) = 6

-- the same in words
unfoldable pub hedge_message : HedgeFault → List ℕ
hedge_message hedges.Sets = codes "the smaller set is not inside the larger one, or the roots are none or not inside the smaller one"
hedge_message hedges.BigMissesX = codes "the larger set has no member of x"
hedge_message hedges.SmallMeetsX = codes "the smaller set has a member of x"
hedge_message (hedges.Choice v) = codes "the choice of this vertex is wrong"
hedge_message (hedges.Link v) = codes "the links do not join the sets as they have to"
hedge_message (hedges.Root v) = codes "this root has no directed path to y outside x"

-- the name of vertex v, where there is such a vertex
abbrev pub name_or_null : List (List ℕ) → ℕ → Json
name_or_null names v = if nat_lt v (length names) then vertex_json names v else null

-- the vertex of a fault that has one
abbrev pub vertex_members : List (List ℕ) → HedgeFault → List (List ℕ × Json)
vertex_members names hedges.Sets = []
vertex_members names hedges.BigMissesX = []
vertex_members names hedges.SmallMeetsX = []
vertex_members names (hedges.Choice v) = (codes "vertex", name_or_null names v) ∷ []
vertex_members names (hedges.Link v) = (codes "vertex", name_or_null names v) ∷ []
vertex_members names (hedges.Root v) = (codes "vertex", name_or_null names v) ∷ []

-- a hedge that is refused by the fault of that number, and what follows
abbrev pub refused_hedge_members : (n : ℕ) (message : List ℕ) → List (List ℕ × Json) → List (List ℕ × Json)
refused_hedge_members n message rest =
    (codes "answer", string (codes "refused")) ∷ (codes "of", string (codes "hedge"))
    ∷ (codes "number", number (decimal n)) ∷ (codes "message", string message) ∷ rest

-- a hedge that is refused
abbrev pub hedge_fault_members : List (List ℕ) → HedgeFault → List (List ℕ × Json)
hedge_fault_members names fault = refused_hedge_members (hedge_number fault) (hedge_message fault) (vertex_members names fault)

-- the message of an experiment that meets a hedge
unfoldable pub met_message : List ℕ
met_message = codes "an experiment sets a member of the larger set and none of the smaller one"

-- a hedge that an experiment meets
abbrev pub met_members : List (List ℕ × Json)
met_members = refused_hedge_members 7 met_message []
