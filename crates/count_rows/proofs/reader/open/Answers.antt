use Rattle.std.proofs.Common.{◌∙◌, sym, arith}
use Rattle.csv.proofs.ReadFacts.{strip-short}
use Rattle.count_rows.proofs.ReadingSteps.{opened, unmarked, marked}
use Rattle.count_rows.proofs.reader.open.Goals as goal

pub returns-then-text-lt3 : goal.returns-then-text-lt3
returns-then-text-lt3 c = opened c.args.text.now 0 (strip-short c.args.text.now (omega arith))

pub returns-then-is_mark : goal.returns-then-is_mark
returns-then-is_mark c = opened c.args.text.now 3 (marked c.args.text.now (omega arith) (sym c.is_mark.ensures ∙ c.if-is_mark.true))

pub returns : goal.returns
returns c = opened c.args.text.now 0 (unmarked c.args.text.now (omega arith) (sym c.is_mark.ensures ∙ c.if-is_mark.false))
