use Rattle.std.proofs.Common.{◌≡◌, ◌++◌, drop}
use Rattle.instruments_command.specs.Lines.{strata_lines}
use Rattle.instruments_command.proofs.texts.push_each.Given as goal

abbrev pub invariant-loop-strata : goal.invariant-loop-strata
invariant-loop-strata l = record {
  told : l.out.items ++ strata_lines l.names l.vertex (drop l.strata-index l.sets) ≡ l.fn.out.items ++ strata_lines l.names l.vertex l.sets;
}
