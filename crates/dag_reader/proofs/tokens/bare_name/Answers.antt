use Rattle.std.proofs.Common.{sym, ◌∙◌}
use Rattle.dag_reader.proofs.Fronts.{sure_name}
use Rattle.dag_reader.proofs.tokens.bare_name.Goals as goal

pub returns-then-begins_name : goal.returns-then-begins_name
returns-then-begins_name c = sym (sure_name c.args.word.bytes.now c.in-len1-up.len_at_least (sym c.begins_name.ensures ∙ c.if-begins_name.true))
