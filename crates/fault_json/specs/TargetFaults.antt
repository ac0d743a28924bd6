-- The objects of the faults of listed names, by the stage at which they lie.
use Rattle.std.specs.Prelude.{ℕ, List, [], ◌∷◌, codes}
use Rattle.json.specs.Json.{Json, null}
use Rattle.answer_json.specs.Vocabulary.{bare_fault_json, text_fault_json, names_fault_json}
use Rattle.targets.specs.declared.fault.TargetFault.{TargetFault}
use Rattle.targets.specs.declared.fault.TargetFault.TheVariants.{EmptyY, EmptyX, NotOneX, Bidirected, OtherNames, NoMemory}
use Rattle.targets.specs.declared.fault.TargetFault.TheVariants.{Unknown, Latent, Twice}

-- a fault of listed names in words; want of memory has none
unfoldable pub target_message : TargetFault → List ℕ
target_message (Unknown name) = codes "the name is not in the graph"
target_message (Latent name) = codes "the name is that of a latent vertex"
target_message (Twice name) = codes "the name stands twice in the lists"
target_message EmptyY = codes "y is empty"
target_message EmptyX = codes "x is empty, or z of a rule"
target_message NotOneX = codes "the back-door criterion is for one exposure"
target_message (Bidirected a b) = codes "the diagram has a bidirected edge between observed vertices"
target_message (OtherNames name) = codes "the name is observed in one diagram alone"
target_message NoMemory = []

-- the object of a fault of listed names; want of memory has none
abbrev pub target_fault_json : (stage : List ℕ) → TargetFault → Json
target_fault_json stage (Unknown name) = text_fault_json stage 1 (target_message (Unknown name)) (codes "name") name
target_fault_json stage (Latent name) = text_fault_json stage 2 (target_message (Latent name)) (codes "name") name
target_fault_json stage (Twice name) = text_fault_json stage 3 (target_message (Twice name)) (codes "name") name
target_fault_json stage EmptyY = bare_fault_json stage 4 (target_message EmptyY)
target_fault_json stage EmptyX = bare_fault_json stage 5 (target_message EmptyX)
target_fault_json stage NotOneX = bare_fault_json stage 6 (target_message NotOneX)
target_fault_json stage (Bidirected a b) = names_fault_json stage 7 (target_message (Bidirected a b)) (a ∷ b ∷ [])
target_fault_json stage (OtherNames name) = text_fault_json stage 8 (target_message (OtherNames name)) (codes "name") name
target_fault_json stage NoMemory = null
