use Rattle.std.proofs.Common.{sym, ◌∙◌}
use Rattle.dag_reader.proofs.Fronts.{bare_name_here, name_of_run}
use Rattle.dag_reader.proofs.tokens.name_first.Goals as goal

pub invariant_of-result : goal.invariant_of-result
invariant_of-result c = record {
  formed = name_of_run c.split_name-key.result.0.now c.in-len1-up.len_at_least c.split_name-key.ensures.passes c.split_name-key.ensures.text;
  keyed = c.split_name-key.ensures.keyed;
}

pub returns-clause-token : goal.returns-clause-token
returns-clause-token c =
    bare_name_here c.args.bytes.now c.past_white.result.now c.split_name-key.result.0.now c.split_name-key.result.1.now
    c.past_white.ensures.rest c.split_name-key.ensures.run c.split_name-key.ensures.rest c.in-len1-up.len_at_least
    (sym c.begins_name.ensures ∙ c.if-not-begins_name.false)
