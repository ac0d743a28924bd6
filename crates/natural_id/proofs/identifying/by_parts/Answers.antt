use Rattle.std.proofs.Common.{refl, subst}
use Rattle.mixed_graph.specs.Vocabulary.{graph_of, union}
use Rattle.hedge.specs.Vocabulary.{first_masks}
use Rattle.natural_id.specs.Answers.{parts_view, ArePartsOrSplit}
use Rattle.natural_id.specs.declared.parts.Parted.TheVariants as parted
use Rattle.natural_id.proofs.Answered.{formula_right, formula_clear, split_right, witness_right}
use Rattle.natural_id.proofs.One.{by_procedure}
use Rattle.natural_id.proofs.Found.{districts_found}
use Rattle.natural_id.proofs.identifying.by_parts.Goals as goal
use Rattle.natural_id.proofs.identifying.by_parts.Goals.{In-Parts}

pub parts_of-requires-clause-found : goal.parts_of-requires-clause-found
parts_of-requires-clause-found c = districts_found (graph_of c.args.g.now) c.args.g.now.valid c.args.x.bits (union c.args.y.bits c.args.z.bits)
    c.union-joint.result.bits c.union-joint.ensures.mask c.requires.x_some c.ancestors_outside-d.result.bits c.ancestors_outside-d.ensures
    (first_masks c.districts-parts.result.sets c.districts-parts.result.count) c.districts-parts.ensures.districts c.districts-parts.ensures.maximal
    c.requires.found.0 c.requires.found.1

-- what was found of the parts
found : (c : In-Parts) → ArePartsOrSplit (graph_of c.args.g.now) c.args.x.bits c.leading_through-through.result.bits
    c.ancestors_outside-d.result.bits (first_masks c.districts-parts.result.sets c.districts-parts.result.count) (parted.Parts c.in-Parts.parts)
found c = subst (ArePartsOrSplit (graph_of c.args.g.now) c.args.x.bits c.leading_through-through.result.bits
    c.ancestors_outside-d.result.bits (first_masks c.districts-parts.result.sets c.districts-parts.result.count)) c.in-Parts.is c.in_ok-parts.ensures

pub returns-in-Parts : goal.returns-in-Parts
returns-in-Parts c = (
  (
    formula_right (graph_of c.args.g.now) c.args.g.now.valid c.args.x.bits c.args.m.bits c.args.y.bits c.args.z.bits c.requires.target
        c.ancestors_outside-d.result.bits c.union-joint.result.bits c.union-joint.ensures.mask c.ancestors_outside-d.ensures
        c.leading_past-past.result.bits c.leading_through-through.result.bits c.leading_past-past.ensures
        c.leading_through-through.ensures c.difference.result.bits c.difference.ensures.mask c.in_default.ensures
        (first_masks c.districts-parts.result.sets c.districts-parts.result.count) c.districts-parts.ensures.districts
        (parts_view c.in-Parts.parts.items) (found (goal.at.returns-in-Parts c).In-Parts).0 (found (goal.at.returns-in-Parts c).In-Parts).1,
    formula_clear (graph_of c.args.g.now) c.args.g.now.valid c.args.x.bits c.args.m.bits c.args.y.bits c.args.z.bits c.requires.target
        c.ancestors_outside-d.result.bits c.union-joint.result.bits c.union-joint.ensures.mask c.ancestors_outside-d.ensures
        c.leading_past-past.result.bits c.leading_through-through.result.bits c.leading_past-past.ensures
        c.leading_through-through.ensures c.in_default.ensures
        (first_masks c.districts-parts.result.sets c.districts-parts.result.count) c.districts-parts.ensures.districts c.districts-parts.ensures.maximal
        (parts_view c.in-Parts.parts.items) (found (goal.at.returns-in-Parts c).In-Parts).0 (found (goal.at.returns-in-Parts c).In-Parts).1,
  ),
  refl,
  by_procedure (graph_of c.args.g.now) c.args.x.bits c.args.m.bits c.args.y.bits c.args.z.bits c.ancestors_outside-d.result.bits c.union-joint.result.bits
      c.union-joint.ensures.mask c.ancestors_outside-d.ensures c.leading_through-through.result.bits c.leading_through-through.ensures
      c.difference.result.bits c.difference.ensures.mask
      (first_masks c.districts-parts.result.sets c.districts-parts.result.count) c.districts-parts.ensures.districts
      (parts_view c.in-Parts.parts.items) (found (goal.at.returns-in-Parts c).In-Parts).0 (found (goal.at.returns-in-Parts c).In-Parts).2,
)

pub returns-in-Some : goal.returns-in-Some
returns-in-Some c = (
  witness_right (graph_of c.args.g.now) c.args.g.now.valid c.args.x.bits c.args.m.bits c.args.y.bits c.args.z.bits c.requires.target c.in-Some.witness
      (record {
        from_x = c.in-Some.ensures.0;
        arrow = c.in-Some.ensures.1;
        through = c.leading_through-through.ensures.sound c.in-Some.witness.child c.in-Some.ensures.2;
        past = c.leading_past-past.ensures.sound c.in-Some.witness.child c.in-Some.ensures.3;
      }),
  refl,
  tt,
)

pub returns-in-Split : goal.returns-in-Split
returns-in-Split c = (
  split_right (graph_of c.args.g.now) c.args.g.now.valid c.args.x.bits c.args.m.bits c.args.y.bits c.args.z.bits c.requires.target
      c.ancestors_outside-d.result.bits c.union-joint.result.bits c.union-joint.ensures.mask c.ancestors_outside-d.ensures
      c.leading_past-past.result.bits c.leading_through-through.result.bits c.leading_past-past.ensures
      c.leading_through-through.ensures c.in-Split.split
      (subst (ArePartsOrSplit (graph_of c.args.g.now) c.args.x.bits c.leading_through-through.result.bits c.ancestors_outside-d.result.bits
      (first_masks c.districts-parts.result.sets c.districts-parts.result.count)) c.in-Split.is c.in_ok-parts.ensures).0
      (subst (ArePartsOrSplit (graph_of c.args.g.now) c.args.x.bits c.leading_through-through.result.bits c.ancestors_outside-d.result.bits
      (first_masks c.districts-parts.result.sets c.districts-parts.result.count)) c.in-Split.is c.in_ok-parts.ensures).1,
  refl,
  tt,
)
