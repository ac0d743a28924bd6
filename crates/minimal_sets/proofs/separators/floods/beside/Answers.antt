use Rattle.std.proofs.Common.{◌∙◌, sym}
use Rattle.std.proofs.lemmas.Bool.{and_parts, and_from}
use Rattle.minimal_sets.proofs.separators.floods.beside.Goals as goal

pub returns-clause-member : goal.returns-clause-member
returns-clause-member c = λ v i. (and_parts _ _ (sym (c.intersection.ensures.members v) ∙ i)).1

pub returns-clause-next : goal.returns-clause-next
returns-clause-next c = λ v i. (c.joined.ensures v).0 (and_parts _ _ (sym (c.intersection.ensures.members v) ∙ i)).0

pub returns-clause-all : goal.returns-clause-all
returns-clause-all c = λ u v a p j. c.intersection.ensures.members v ∙ and_from _ _ ((c.joined.ensures v).1 (u, p, j)) a
