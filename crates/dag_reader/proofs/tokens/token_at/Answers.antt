use Rattle.dag_reader.proofs.TextForm.{run_is_name}
use Rattle.dag_reader.proofs.tokens.token_at.Goals as goal

pub invariant_of-bare_name : goal.invariant_of-bare_name
invariant_of-bare_name c =
    let cut = c.split_name-key.ensures in record {
      formed = run_is_name c.args.bytes.now c.args.rest.now c.split_name-key.result.0.now c.args.byte c.is_in-2.result c.requires.front c.is_in-2.ensures
          c.if-is_in-2.true cut.run cut.passes cut.text;
      keyed = cut.keyed;
    }
