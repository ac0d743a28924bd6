use Rattle.std.proofs.Common.{◌≡◌, ◌∙◌, List, ℕ, [], sym, ap, arith, get_or, true}
use Rattle.csv.specs.Machine.{next_record}
use Rattle.csv.specs.Reading.{default_config}
use Rattle.csv.specs.declared.parser.State.TheVariants as st
use Rattle.count_rows.proofs.RecordSteps.{line_end, past_end}
use Rattle.count_rows.specs.Reader.{is_line_end}
use Rattle.count_rows.proofs.lines.skip_line_ends.Goals as goal

pub loop-at-preserved : goal.loop-at-preserved
loop-at-preserved c =
    let here : is_line_end (get_or c.args.text.now c.loop-at.at 0) ≡ true = sym c.is_line_end.ensures ∙ c.if-not-is_line_end.false in
    c.loop-at.invariant ∙ line_end c.args.text.now c.loop-at.at c.loop-at-test.true here

pub returns-clause-same : goal.returns-clause-same
returns-clause-same c =
    c.loop-at.invariant
    ∙ ap (λ (l : List ℕ). next_record default_config st.StartRecord [] [] l) (past_end c.args.text.now c.loop-at.at (omega (arith, c.loop-at-test.false)))
