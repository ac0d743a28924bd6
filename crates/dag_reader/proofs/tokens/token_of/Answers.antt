use Rattle.dag_reader.proofs.TextForm.{behind_first}
use Rattle.dag_reader.proofs.tokens.token_of.Goals as goal

pub value_at-requires-clause-rest : goal.value_at-requires-clause-rest
value_at-requires-clause-rest c = λ low. behind_first c.args.bytes.now c.requires c.in-len1-up.len_at_least low

pub token_at-requires-clause-rest : goal.token_at-requires-clause-rest
token_at-requires-clause-rest c = λ low. behind_first c.args.bytes.now c.requires c.in-len1-up.len_at_least low
