-- What is told of lists that aren't answered.
use Rattle.std.specs.Prelude.{ℕ, ◌≡◌, Bool, true, false, List, [], codes}
use Rattle.replies.specs.declared.outcome.Outcome.TheVariants.{Graph}
use Rattle.replies.specs.Vocabulary.{target_told, refusal_of}
use Rattle.replies.specs.Told.{Told}
use Rattle.told.specs.Vocabulary.{Refusal, is_memory}
use Rattle.primed_questions.specs.Vocabulary.{acted_on_told, many_told}
use Rattle.treated_command.specs.declared.fault.TreatedFault.{TreatedFault}
use Rattle.treated_command.specs.declared.fault.TreatedFault.TheVariants.{Listed, After, TooMany, NoMemory}

-- what is told of a fault; want of memory isn't told here
abbrev pub treated_told : TreatedFault → Told
treated_told (Listed fault) = target_told fault
treated_told (After name) = acted_on_told (codes "x acts on this member of x, or of what is given") name
treated_told TooMany = many_told (codes "there are more than 64 names with those of x as observed")
treated_told NoMemory = refusal_of [] []

-- want of memory is one of the faults
abbrev pub is_wanting_memory : TreatedFault → Bool
is_wanting_memory (Listed fault) = is_memory fault
is_wanting_memory (After name) = false
is_wanting_memory TooMany = false
is_wanting_memory NoMemory = true

-- the refusal of a fault
abbrev pub treated_refusal : Refusal TreatedFault
treated_refusal = record { outcome = λ fault. Graph; told = treated_told; is_memory = is_wanting_memory }

-- the fault is that of this name; want of memory may stand in its place
abbrev pub IsAfterOrMemory : List ℕ → TreatedFault → Type 0
IsAfterOrMemory name (Listed fault) = ⊥
IsAfterOrMemory name (After t) = t ≡ name
IsAfterOrMemory name TooMany = ⊥
IsAfterOrMemory name NoMemory = Unit {0}
