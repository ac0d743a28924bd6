use Rattle.std.proofs.Common.{refl}
use Rattle.mixed_graph.specs.Vocabulary.{graph_of}
use Rattle.natural_id.proofs.Making.{none_twice, some_first, some_second, both_kinds}
use Rattle.natural_id.proofs.parts.split_in.Goals as goal

pub returns-then-is_empty : goal.returns-then-is_empty
returns-then-is_empty c = none_twice (graph_of c.args.g.now) c.args.c.bits c.args.x.bits c.args.through.bits c.difference-direct.result.bits
    c.intersection-indirect.result.bits c.parents_of.result.bits c.parents_of-2.result.bits c.intersection-read_first.result.bits
    c.intersection-read_both.result.bits c.difference-direct.ensures.members c.intersection-indirect.ensures.members c.parents_of.ensures
    c.parents_of-2.ensures c.intersection-read_first.ensures.members c.intersection-read_both.ensures.members (c.if-is_empty.ensures.none.0 refl)

pub lowest-requires : goal.lowest-requires
lowest-requires c = some_first (graph_of c.args.g.now) c.args.c.bits c.args.x.bits c.args.through.bits c.difference-direct.result.bits
    c.intersection-indirect.result.bits c.parents_of.result.bits c.parents_of-2.result.bits c.intersection-read_first.result.bits
    c.intersection-read_both.result.bits c.difference-direct.ensures.members c.intersection-indirect.ensures.members c.parents_of.ensures
    c.parents_of-2.ensures c.intersection-read_first.ensures.members c.intersection-read_both.ensures.members c.lowest-treatment.result
    c.children-children.result.bits c.lowest-treatment.ensures.member c.children-children.ensures.members c.intersection.result.bits
    c.intersection.ensures.members

pub lowest-requires-2 : goal.lowest-requires-2
lowest-requires-2 c = some_second (graph_of c.args.g.now) c.args.c.bits c.args.x.bits c.args.through.bits c.difference-direct.result.bits
    c.intersection-indirect.result.bits c.parents_of.result.bits c.parents_of-2.result.bits c.intersection-read_first.result.bits
    c.intersection-read_both.result.bits c.difference-direct.ensures.members c.intersection-indirect.ensures.members c.parents_of.ensures
    c.parents_of-2.ensures c.intersection-read_first.ensures.members c.intersection-read_both.ensures.members c.lowest-treatment.result
    c.children-children.result.bits c.lowest-treatment.ensures.member c.children-children.ensures.members c.intersection-2.result.bits
    c.intersection-2.ensures.members

pub returns : goal.returns
returns c = (
  refl,
  both_kinds (graph_of c.args.g.now) c.args.c.bits c.args.x.bits c.args.through.bits c.difference-direct.result.bits
      c.intersection-indirect.result.bits c.parents_of.result.bits c.parents_of-2.result.bits c.intersection-read_first.result.bits
      c.intersection-read_both.result.bits c.difference-direct.ensures.members c.intersection-indirect.ensures.members c.parents_of.ensures
      c.parents_of-2.ensures c.intersection-read_first.ensures.members c.intersection-read_both.ensures.members c.lowest-treatment.result
      c.children-children.result.bits c.lowest-treatment.ensures.member c.children-children.ensures.members c.intersection.result.bits
      c.intersection-2.result.bits c.intersection.ensures.members c.intersection-2.ensures.members
      (record { district = c.args.c; treatment = c.lowest-treatment.result; first = c.lowest.result; second = c.lowest-2.result })
      refl refl c.lowest.ensures.member c.lowest-2.ensures.member,
)
