use Rattle.dag_reader.proofs.ReadBack.{reads_itself, reads_back}
use Rattle.dag_reader.proofs.round.the_written_text.Goals as goal

pub returns-clause-read : goal.returns-clause-read
returns-clause-read c = reads_itself

pub returns-clause-back : goal.returns-clause-back
returns-clause-back c = reads_back
