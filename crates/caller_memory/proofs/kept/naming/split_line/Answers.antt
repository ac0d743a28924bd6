use Rattle.std.proofs.Common.{◌∙◌, sym}
use Rattle.caller_memory.proofs.Feeds.{no_place}
use Rattle.caller_memory.proofs.kept.naming.split_line.Goals as goal

pub returns-in-None-clause-none : goal.returns-in-None-clause-none
returns-in-None-clause-none c = λ none found. no_place c.args.bytes.now (sym c.feed.ensures ∙ c.in-None.is) found
