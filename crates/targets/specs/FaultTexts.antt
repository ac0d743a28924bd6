-- What is wrong with the names that a command lists, in words.
use Rattle.std.specs.Prelude.{ℕ, List, [], ◌∷◌, ◌++◌, codes}
use Rattle.answer_text.specs.Vocabulary.{printed}
use Rattle.targets.specs.declared.fault.TargetFault.{TargetFault}
use Rattle.targets.specs.declared.fault.TargetFault.TheVariants.{Unknown, Latent, Twice, EmptyY, EmptyX, NotOneX, Bidirected, OtherNames, NoMemory}

-- the text of a fault; want of memory has none
abbrev pub target_fault_text : TargetFault → List ℕ
target_fault_text (Unknown name) = codes "target fault 1: " ++ printed name
target_fault_text (Latent name) = codes "target fault 2: " ++ printed name
target_fault_text (Twice name) = codes "target fault 3: " ++ printed name
target_fault_text EmptyY = codes "target fault 4"
target_fault_text EmptyX = codes "target fault 5"
target_fault_text NotOneX = codes "target fault 6"
target_fault_text (Bidirected a b) = codes "target fault 7: " ++ (printed a ++ 32 ∷ printed b)
target_fault_text (OtherNames name) = codes "target fault 8: " ++ printed name
target_fault_text NoMemory = []
