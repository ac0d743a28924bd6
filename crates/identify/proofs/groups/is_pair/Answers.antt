use Rattle.std.proofs.Common.{leb, sym, ap, ◌∙◌}
use Rattle.do_derivation.specs.Vocabulary.{listed}
use Rattle.identification_theory.specs.Vocabulary.{two_or_more}
use Rattle.identify.proofs.StepLists.{two_from}
use Rattle.identify.proofs.groups.is_pair.Goals as goal

pub returns : goal.returns
returns c = ap (leb 2) (sym c.in_order.ensures.count) ∙ two_from (listed c.in_order.result) ∙ ap two_or_more c.in_order.ensures.members
