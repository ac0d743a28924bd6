use Rattle.std.proofs.Common.{◌≡◌, length}
use denote.Text.{Utf8}
use denote.Shadow.{shadow}
use Rattle.experiment_lists.specs.Views.{lists_in}
use Rattle.experiment_lists.proofs.Joining.{IsReading}
use Rattle.experiment_lists.proofs.words.read_experiments.Given as goal

abbrev pub invariant-loop : goal.invariant-loop
invariant-loop l = shadow (Utf8 l.left) × (length l.experiments.items ≡ l.counter) × IsReading l.fn.text (lists_in l.experiments) l.left
