use Rattle.std.proofs.Common.{◌≡◌, ◌<◌, ◌≤◌, ℕ, false, get_or}
use Rattle.mixed_graph.specs.Vocabulary.{has}
use Rattle.do_rules.proofs.cuts.rows.column.Given as goal

abbrev pub invariant-loop-u : goal.invariant-loop-u
invariant-loop-u l = ((a : ℕ) → a < l.u → has l.found.bits a ≡ has (get_or l.rows a 0) l.v) × ((a : ℕ) → l.u ≤ a → has l.found.bits a ≡ false)
