use Rattle.answer_text.specs.Vocabulary.{is_name_byte}
use Rattle.dag_reader.proofs.NameRuns.{IsRun}
use Rattle.dag_reader.proofs.tokens.name_len.Given as goal

abbrev pub invariant-loop-i : goal.invariant-loop-i
invariant-loop-i l = IsRun is_name_byte l.bytes l.digits l.i
