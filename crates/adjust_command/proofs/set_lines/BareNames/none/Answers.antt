use Rattle.std.proofs.Common.{sym, ◌∙◌}
use Rattle.std.proofs.lemmas.Bool.{false≢true}
use Rattle.adjust_command.proofs.set_lines.BareNames.none.Goals as goal

pub invariant_of-result : goal.invariant_of-result
invariant_of-result c = record { are_bare = λ v member. absurd (false≢true (sym (c.empty.ensures.members v) ∙ member)) }
