use Rattle.count_answers.proofs.Levels.{levels_keep_to_line, levels_are_told_apart}
use Rattle.count_answers.proofs.laws.Goals as goal

pub returns : goal.returns
returns c = record { line = levels_keep_to_line; apart = levels_are_told_apart }
