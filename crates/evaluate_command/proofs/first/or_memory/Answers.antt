use Rattle.evaluate_command.proofs.first.or_memory.Goals as goal

pub returns-in-Err : goal.returns-in-Err
returns-in-Err c = λ way d x y h. tt
