-- The lines of refusals that are no command's own.
use Rattle.std.specs.Prelude.{ℕ, List, ◌∷◌, ◌++◌, codes}
use Rattle.std.specs.List.{flat_map}
use Rattle.answer_text.specs.Vocabulary.{line_of}
use Rattle.command_run.specs.Commands.{CommandSet}

-- words that set no task, with the names of the commands
abbrev pub words_line : CommandSet → List ℕ
words_line s = line_of (codes "words not understood; commands are" ++ flat_map (λ name. 32 ∷ name) s.names)

-- a read that failed
abbrev pub read_line : List ℕ
read_line = line_of (codes "read failed")

-- a write that failed
abbrev pub write_line : List ℕ
write_line = line_of (codes "write failed")

-- want of memory
abbrev pub memory_line : List ℕ
memory_line = line_of (codes "no memory")
