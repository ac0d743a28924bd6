-- What is wrong with a text of counts, in words.
use Rattle.std.specs.Prelude.{ℕ, List, [], ◌++◌, codes}
use Rattle.std.specs.Fmt.{decimal}
use Rattle.answer_text.specs.Vocabulary.{printed}
use Rattle.count_rows.specs.declared.fault.CountFault.{CountFault}
use Rattle.count_rows.specs.declared.fault.CountFault.TheVariants.{NotCsv, NoColumn, TwoColumns, Count, TooLarge, SumTooLarge, NoRows, NoMemory}

-- the text of a fault; want of memory has none
abbrev pub count_fault_text : CountFault → List ℕ
count_fault_text (NotCsv row) = codes "counts fault 1: row " ++ decimal row
count_fault_text (NoColumn name) = codes "counts fault 2: " ++ printed name
count_fault_text (TwoColumns name) = codes "counts fault 3: " ++ printed name
count_fault_text (Count row) = codes "counts fault 4: row " ++ decimal row
count_fault_text TooLarge = codes "counts fault 5"
count_fault_text SumTooLarge = codes "counts fault 6"
count_fault_text NoRows = codes "counts fault 7"
count_fault_text NoMemory = []

-- the text of what is wrong with more than 67,108,864 bytes
abbrev pub count_size_text : List ℕ
count_size_text = codes "counts fault 8: over 67108864 bytes"
