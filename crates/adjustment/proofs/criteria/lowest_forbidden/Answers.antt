use Rattle.mixed_graph.specs.Vocabulary.{has}
use Rattle.finite_models.proofs.Bools.{not_both}
use Rattle.mixed_graph.proofs.Masks.{apart_from_meet}
use Rattle.adjustment.proofs.criteria.lowest_forbidden.Goals as goal

pub returns-then-is_empty-clause-none : goal.returns-then-is_empty-clause-none
returns-then-is_empty-clause-none c = λ v zv ev.
    not_both (has c.args.forbidden.bits v) ev
    (apart_from_meet c.intersection-bad.result.bits c.args.z.bits c.args.forbidden.bits c.intersection-bad.ensures.members
    (c.is_empty.ensures.none.0 c.if-is_empty.true) v zv)
