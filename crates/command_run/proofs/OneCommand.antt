-- The row of a command is no other command's, so a call of a command asks for no request of another one.
use Rattle.std.proofs.Common.{◌≡◌, List, sym, subst}
use Rattle.command_words.specs.Vocabulary.{Use}
use Rattle.command_run.specs.Commands.{CommandSet, Request, of, command_of, IsRequest, AsksNothing}
use Rattle.command_run.specs.Laws.{AreLawful}

-- where the uses ask a command for nothing, they ask for no request of its row
pub nothing_asked : (s : CommandSet) → AreLawful s → (c : s.Command) (uses : List Use) → AsksNothing s c uses → (q : Request s) → s.row_for (command_of s q)
    ≡ s.row_for c → IsRequest s uses q → ⊥
nothing_asked s laws c uses none (of d q) e = (subst (λ k. AsksNothing s k uses) (sym (laws.apart d c e)) none).nothing q
