use Rattle.std.proofs.Common.{◌≡◌, ℕ, drop}
use Rattle.std.specs.Prelude.{◌==◌, ◌||◌}
use Rattle.std.specs.List.{list_any}
use Rattle.mixed_graph.specs.Vocabulary.{has}
use Rattle.dag_reader.specs.Passes.{members}
use Rattle.dag_reader.proofs.edges.group.Given as goal

abbrev pub invariant-loop-mark : goal.invariant-loop-mark
invariant-loop-mark l =
    (v : ℕ) → (has l.set.bits v || list_any (λ r. v == r) (members (drop l.mark-index l.marks))) ≡ list_any (λ r. v == r) (members l.marks)
