use Rattle.std.proofs.Common.{◌∙◌}
use Rattle.clap.specs.Matches.{found_of}
use Rattle.clap.specs.Walk.{one_of}
use Rattle.clap.proofs.WalkLemmas.{one_text-rows}
use Rattle.command_words.proofs.Reading.{inner_text, flag_is}
use Rattle.command_words.proofs.values.values.Values.flag.Goals as goal

pub returns-in-Some : goal.returns-in-Some
returns-in-Some c = λ row uses g known.
    let x = c.args.name.now in
    let found = one_text-rows (found_of c.in-Some.inner.now) x in
    let below = inner_text (one_of x) _ _ c.in-Some.ensures.rows in
    flag_is row uses c.args.self.now.matches g c.get_flag.result x known (λ e. c.get_flag.ensures.value (found ∙ (below ∙ e)))
    (λ e. c.get_flag.ensures.other (found ∙ (below ∙ e)))
