use Rattle.std.proofs.Common.{◌≡◌, ◌++◌, length}
use Rattle.caller_memory.specs.Kept.{lines_of}
use Rattle.caller_memory.proofs.Feeds.{Only}
use Rattle.caller_memory.proofs.kept.naming.names_on.Given as goal

abbrev pub invariant-loop-line : goal.invariant-loop-line
invariant-loop-line l = record {
  named : l.lines ≡ lines_of l.names ++ l.rest;
  only : Only l.lines l.names l.rest;
}

abbrev pub decreases-loop-line : goal.decreases-loop-line
decreases-loop-line l = length l.rest
