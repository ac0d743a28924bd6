use Rattle.latent_projection.proofs.Rows.{AreRows}
use Rattle.equivalent_command.proofs.Placing.{row_at}
use Rattle.equivalent_command.proofs.numbers.rows_at.Given as goal

abbrev pub invariant-loop-a : goal.invariant-loop-a
invariant-loop-a l = AreRows (row_at l.places l.n l.rows) l.a l.out
