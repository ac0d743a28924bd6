use Rattle.std.proofs.Common.{◌≡◌, [], drop}
use Rattle.csv.specs.Machine.{next_record}
use Rattle.csv.specs.Reading.{default_config}
use Rattle.csv.specs.declared.parser.State.TheVariants as st
use Rattle.count_rows.proofs.lines.skip_line_ends.Given as goal

abbrev pub invariant-loop-at : goal.invariant-loop-at
invariant-loop-at l = next_record default_config st.StartRecord [] [] (drop l.from l.text) ≡ next_record default_config st.StartRecord [] [] (drop l.at l.text)
