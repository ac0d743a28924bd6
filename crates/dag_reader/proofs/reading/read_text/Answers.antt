use Rattle.std.proofs.lemmas.Str.{IsUtf8-from_is_utf8}
use Rattle.dag_reader.specs.SaidView.{said_by}
use Rattle.dag_reader.proofs.WholeAnswers.{given_reads, fault_reads}
use Rattle.dag_reader.proofs.reading.read_text.Goals as goal

pub returns-in-Ok : goal.returns-in-Ok
returns-in-Ok c = given_reads c.args.text.now (said_by c.in-Ok.said) c.graph_from.result (IsUtf8-from_is_utf8 c.args.text.now c.requires)
    c.in-Ok.ensures c.graph_from.ensures

pub returns-in-Err : goal.returns-in-Err
returns-in-Err c = fault_reads c.args.text.now c.in-Err.error c.owned.result (IsUtf8-from_is_utf8 c.args.text.now c.requires) c.in-Err.ensures c.owned.ensures
