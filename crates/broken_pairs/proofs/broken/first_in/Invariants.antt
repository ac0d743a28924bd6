use Rattle.std.proofs.Common.{take}
use Rattle.std.specs.Prelude.{All}
use Rattle.broken_pairs.specs.Broken.{IsBroken}
use Rattle.broken_pairs.proofs.broken.first_in.Given as goal

abbrev pub invariant-loop-i : goal.invariant-loop-i
invariant-loop-i l = All (λ j. IsBroken l.c j → ⊥) (take l.i-index l.list)
