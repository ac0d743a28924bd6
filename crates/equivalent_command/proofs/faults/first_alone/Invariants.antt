use Rattle.std.proofs.Common.{◌≡◌, ◌<◌, ℕ, true}
use Rattle.mixed_graph.specs.Vocabulary.{is_named, name_of}
use Rattle.equivalent_command.proofs.faults.first_alone.Given as goal

abbrev pub invariant-loop-v : goal.invariant-loop-v
invariant-loop-v l = (u : ℕ) → u < l.v → is_named l.others (name_of l.names u) ≡ true
