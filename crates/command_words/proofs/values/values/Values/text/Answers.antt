use Rattle.std.proofs.Common.{◌∙◌}
use Rattle.clap.specs.Matches.{found_of}
use Rattle.clap.specs.Walk.{first_of}
use Rattle.clap.proofs.WalkLemmas.{first_value-rows}
use Rattle.command_words.proofs.Reading.{inner_text}
use Rattle.command_words.proofs.values.values.Values.text.Goals as goal

pub returns-in-Some : goal.returns-in-Some
returns-in-Some c = c.get_str.ensures ∙ (first_value-rows (found_of c.in-Some.inner.now) c.args.name.now
    ∙ inner_text (first_of c.args.name.now) _ _ c.in-Some.ensures.rows)
