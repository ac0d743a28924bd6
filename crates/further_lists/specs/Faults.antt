-- Lists of names behind those of a query, and their faults.
use Rattle.std.specs.Prelude.{ℕ, ◌⊎◌, List, ◌++◌, Option}
use Rattle.mixed_graph.specs.Vocabulary.{is_named}
use Rattle.targets.specs.declared.fault.TargetFault.{TargetFault}
use Rattle.targets.specs.Vocabulary.{Lists, NameFault, first_fault, IsFaultOfTarget, AreSets, IsTargetFault}

-- the first name at fault of a further list, where x, y and given were walked before
abbrev pub further_fault : Lists → (further : List (List ℕ)) → Option NameFault
further_fault l further = first_fault l.all l.observed (is_named (l.x ++ (l.y ++ l.given))) further

-- the lists x, y and given name sets, and the fault is that of the first name at fault of the further list
pub record IsFurtherFault (l : Lists) (further : List (List ℕ)) (fault : TargetFault) : Type 0 where
  pub x : ℕ
  pub y : ℕ
  pub given : ℕ
  pub query : AreSets l x y given
  pub named : IsFaultOfTarget (further_fault l further) l.y l.x fault

-- the fault of a name that is listed: that of x, y and given, or else of the further list
abbrev pub IsFaultOfAll : Lists → (further : List (List ℕ)) → TargetFault → Type 0
IsFaultOfAll l further fault = IsTargetFault l fault ⊎ IsFurtherFault l further fault
