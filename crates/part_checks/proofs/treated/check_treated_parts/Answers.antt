use Rattle.mixed_graph.specs.Vocabulary.{graph_of}
use Rattle.derived_parts.specs.Vocabulary.{derived_views}
use Rattle.natural_id.specs.Vocabulary.{parts_view}
use Rattle.part_checks.proofs.Right.{treated_accepted, treated_effect}
use Rattle.part_checks.proofs.treated.check_treated_parts.Goals as goal

pub returns-in-Ok-clause-effect : goal.returns-in-Ok-clause-effect
returns-in-Ok-clause-effect c = treated_effect (graph_of c.args.g.now) c.args.g.now.valid c.args.x.bits c.args.y.bits c.args.z.bits
    c.in_ok-summed.summed.bits c.requires.target (derived_views c.args.parts.items) (parts_view c.in-Ok.parts.items) c.in_ok-summed.ensures.accepted
    c.in-Ok.ensures

pub returns-in-Ok-clause-accepted : goal.returns-in-Ok-clause-accepted
returns-in-Ok-clause-accepted c = treated_accepted (graph_of c.args.g.now) c.args.g.now.valid c.args.x.bits c.args.y.bits c.args.z.bits
    c.in_ok-summed.summed.bits c.requires.target (derived_views c.args.parts.items) (parts_view c.in-Ok.parts.items) c.in_ok-summed.ensures.accepted
    c.in-Ok.ensures
