-- What is told of lists that aren't answered.
use Rattle.std.specs.Prelude.{ℕ, ◌≡◌, Bool, true, false, List, [], codes}
use Rattle.json.specs.Json.{Json}
use Rattle.answer_text.specs.Vocabulary.{line_of}
use Rattle.answer_json.specs.Vocabulary.{bare_fault_json, json_line}
use Rattle.replies.specs.declared.outcome.Outcome.TheVariants.{Graph}
use Rattle.replies.specs.Vocabulary.{target_told, refusal_of}
use Rattle.replies.specs.Told.{Told}
use Rattle.told.specs.Vocabulary.{Refusal, is_memory}
use Rattle.primed_questions.specs.Vocabulary.{acted_on_told, many_told}
use Rattle.natural_command.specs.declared.fault.NaturalFault.{NaturalFault}
use Rattle.natural_command.specs.declared.fault.NaturalFault.TheVariants.{Listed, NoMediator, After, TooMany, NoMemory}

-- there is no mediator
abbrev pub empty_text : List ℕ
empty_text = codes "target fault 11"

-- the same as an object
abbrev pub empty_json : Json
empty_json = bare_fault_json (codes "target") 11 (codes "there is no mediator")

-- what is told of a fault; want of memory isn't told here
abbrev pub natural_told : NaturalFault → Told
natural_told (Listed fault) = target_told fault
natural_told NoMediator = refusal_of (line_of empty_text) (json_line empty_json)
natural_told (After name) = acted_on_told (codes "x acts on this member of what is given") name
natural_told TooMany = many_told (codes "there are more than 64 names with the second names of x")
natural_told NoMemory = refusal_of [] []

-- want of memory is one of the faults
abbrev pub is_wanting_memory : NaturalFault → Bool
is_wanting_memory (Listed fault) = is_memory fault
is_wanting_memory NoMediator = false
is_wanting_memory (After name) = false
is_wanting_memory TooMany = false
is_wanting_memory NoMemory = true

-- the refusal of a fault
abbrev pub natural_refusal : Refusal NaturalFault
natural_refusal = record { outcome = λ fault. Graph; told = natural_told; is_memory = is_wanting_memory }

-- the fault is that of this name; want of memory may stand in its place
abbrev pub IsAfterOrMemory : List ℕ → NaturalFault → Type 0
IsAfterOrMemory name (Listed fault) = ⊥
IsAfterOrMemory name NoMediator = ⊥
IsAfterOrMemory name (After t) = t ≡ name
IsAfterOrMemory name TooMany = ⊥
IsAfterOrMemory name NoMemory = Unit {0}
