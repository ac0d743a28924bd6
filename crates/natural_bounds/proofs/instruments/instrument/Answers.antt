use Rattle.std.proofs.Common.{◌||◌, ◌∙◌}
use Rattle.mixed_graph.specs.Vocabulary.{has, graph_of}
use Rattle.mixed_graph.proofs.Masks.{apart_from_meet}
use Rattle.do_rules.specs.Vocabulary.{cut_into}
use Rattle.do_rules.proofs.Moving.{separated_moved, open_moved}
use Rattle.finite_models.proofs.Bools.{not_both}
use Rattle.natural_bounds.specs.Instruments.{AreUnmoved}
use Rattle.natural_bounds.proofs.instruments.instrument.Goals as goal
use Rattle.natural_bounds.proofs.instruments.instrument.Goals.{After-open_path}

-- no member of z or w is a descendant of x
unmoved : (c : After-open_path) → AreUnmoved (graph_of c.args.g.now) (has c.args.x.bits) (has c.args.z.bits) (has c.args.w.bits)
unmoved c v i d = not_both (has c.descendants.result.bits v) ((c.descendants.ensures v).1 d)
    (apart_from_meet c.intersection-moved.result.bits c.union.result.bits c.descendants.result.bits c.intersection-moved.ensures.members
    (c.is_empty.ensures.none.0 c.if-not-is_empty.false) v (c.union.ensures.members v ∙ i))

pub returns-in-None-clause-is : goal.returns-in-None-clause-is
returns-in-None-clause-is c = record {
  sets = c.requires;
  unmoved = unmoved (goal.at.returns-in-None-clause-is c).After-open_path;
  separated = separated_moved (graph_of c.cut_into.result) (cut_into (graph_of c.args.g.now) (has c.args.x.bits)) (has c.args.y.bits) (has c.args.z.bits)
      (has c.union-2.result.bits) (λ v. has c.args.x.bits v || has c.args.w.bits v) c.cut_into.ensures c.union-2.ensures.members c.in-None.ensures.none;
}

pub returns-in-Some-clause-fault : goal.returns-in-Some-clause-fault
returns-in-Some-clause-fault c = (
  unmoved (goal.at.returns-in-Some-clause-fault c).After-open_path,
  open_moved (graph_of c.cut_into.result) (cut_into (graph_of c.args.g.now) (has c.args.x.bits)) (has c.args.y.bits) (has c.args.z.bits)
      (has c.union-2.result.bits) (λ v. has c.args.x.bits v || has c.args.w.bits v) c.in-Some.path.vertices c.in-Some.path.marks c.in-Some.path.count
      c.cut_into.ensures c.union-2.ensures.members c.in-Some.ensures.found,
)
