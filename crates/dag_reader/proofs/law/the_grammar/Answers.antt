use Rattle.dag_reader.proofs.LawBytes.{read, sound}
use Rattle.dag_reader.proofs.law.the_grammar.Goals as goal

pub returns-clause-read : goal.returns-clause-read
returns-clause-read c = read

pub returns-clause-sound : goal.returns-clause-sound
returns-clause-sound c = sound
