use Rattle.std.proofs.lemmas.Str.{is_utf8-from_IsUtf8}
use Rattle.dag_reader.proofs.reading.read_graph.Goals as goal

pub read_text-requires : goal.read_text-requires
read_text-requires c = is_utf8-from_IsUtf8 c.args.text.now c.in-Ok.ensures.cases.1
