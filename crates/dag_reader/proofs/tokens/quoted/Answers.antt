use Rattle.std.proofs.Common.{arith}
use Rattle.dag_reader.proofs.TextForm.{behind_first}
use Rattle.dag_reader.proofs.tokens.quoted.Goals as goal

pub returns-clause-after : goal.returns-clause-after
returns-clause-after c = behind_first c.split_run.result.1.now c.split_run.ensures.after c.in-len1-up.len_at_least (omega (arith, c.if-byte-ne34.false))
