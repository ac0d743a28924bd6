use Rattle.dag_reader.proofs.OneAnswer.{one_answer, some_answer}
use Rattle.dag_reader.proofs.law.the_answers.Goals as goal

pub returns-clause-some : goal.returns-clause-some
returns-clause-some c = some_answer

pub returns-clause-one : goal.returns-clause-one
returns-clause-one c = one_answer
