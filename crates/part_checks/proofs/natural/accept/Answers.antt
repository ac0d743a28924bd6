use Rattle.std.proofs.Common.{◌≡◌, ◌∙◌, true, ap, sym, subst}
use Rattle.std.specs.Prelude.{All}
use Rattle.mixed_graph.specs.Vocabulary.{graph_of, minus, all}
use Rattle.hedge.specs.Vocabulary.{IsMaximalJoined, first_masks}
use Rattle.prob_expr.specs.Vocabulary.{masks_of}
use Rattle.do_derivation.specs.Vocabulary.{are_sets}
use Rattle.identification_theory.specs.Vocabulary.{AreAncestorsIn}
use Rattle.derived_parts.specs.Vocabulary.{AreAccepted, IsPartsFault, derived_views}
use Rattle.derived_parts.proofs.Turns.{unless_weaker}
use Rattle.natural_id.specs.Vocabulary.{ReadsBoth}
use Rattle.natural_id.proofs.Answered.{split_right}
use Rattle.part_checks.specs.Natural.{AreEachAlike, AreNaturalDistricts, HasNaturalPartsFault}
use Rattle.part_checks.proofs.Lists.{first_are, taken}
use Rattle.part_checks.proofs.Right.{clear_by_alike, natural_sets}
use Rattle.part_checks.proofs.natural.accept.Goals as goal
use Rattle.part_checks.proofs.natural.accept.Goals.{After-districts-found, After-as_slice}

-- the districts
are : (c : After-districts-found) → AreNaturalDistricts (graph_of c.args.g.now) c.args.x.bits c.args.y.bits c.args.z.bits c.ancestors_outside-d.result.bits
    (first_masks c.districts-found.result.sets c.districts-found.result.count)
are c = record {
  ancestors = subst (λ j. AreAncestorsIn (graph_of c.args.g.now) (minus (all c.args.g.now.n) c.args.x.bits) j c.ancestors_outside-d.result.bits)
      c.union-joint.ensures.mask c.ancestors_outside-d.ensures;
  districts = c.districts-found.ensures.districts;
}

-- in each district the children of a treatment are alike
alike : (c : After-as_slice) → AreEachAlike (graph_of c.args.g.now) c.args.x.bits c.leading_through-through.result.bits
    (first_masks c.districts-found.result.sets c.districts-found.result.count)
alike c = subst (AreEachAlike (graph_of c.args.g.now) c.args.x.bits c.leading_through-through.result.bits)
    (first_are c.districts-found.result.sets c.districts-found.result.count) c.in_default-first_split.ensures

-- nothing reads both values
clear : (c : After-as_slice) → AreNaturalDistricts (graph_of c.args.g.now) c.args.x.bits c.args.y.bits c.args.z.bits c.ancestors_outside-d.result.bits
    (first_masks c.districts-found.result.sets c.districts-found.result.count)
    → ReadsBoth (graph_of c.args.g.now) c.args.x.bits c.args.m.bits c.args.y.bits c.args.z.bits → ⊥
clear c districts = clear_by_alike (graph_of c.args.g.now) c.args.g.now.valid c.args.x.bits c.args.m.bits c.args.y.bits c.args.z.bits
    c.ancestors_outside-d.result.bits c.requires.target (first_masks c.districts-found.result.sets c.districts-found.result.count) districts
    c.leading_past-past.result.bits c.leading_through-through.result.bits c.leading_past-past.ensures c.leading_through-through.ensures
    c.in_default.ensures (alike c)

pub first_split-requires : goal.first_split-requires
first_split-requires c = record {
  maximal = subst (All (IsMaximalJoined (graph_of c.args.g.now) c.ancestors_outside-d.result.bits))
      (sym (first_are c.districts-found.result.sets c.districts-found.result.count)) c.districts-found.ensures.maximal;
}

pub returns-in-Some-first_split-clause-fault : goal.returns-in-Some-first_split-clause-fault
returns-in-Some-first_split-clause-fault c = (
  (split_right (graph_of c.args.g.now) c.args.g.now.valid c.args.x.bits c.args.m.bits c.args.y.bits c.args.z.bits c.requires.target
      c.ancestors_outside-d.result.bits c.union-joint.result.bits c.union-joint.ensures.mask c.ancestors_outside-d.ensures
      c.leading_past-past.result.bits c.leading_through-through.result.bits c.leading_past-past.ensures c.leading_through-through.ensures
      c.in-Some-first_split.split c.in-Some-first_split.ensures.0 c.in-Some-first_split.ensures.1).0,
  λ w is. c.in_default.ensures w.treatment w.child is.from_x is.arrow (c.leading_through-through.ensures.complete w.child is.through)
      (c.leading_past-past.ensures.complete w.child is.past),
)

pub check_parts-requires-clause-districts : goal.check_parts-requires-clause-districts
check_parts-requires-clause-districts c =
    let at = (goal.at.check_parts-requires-clause-districts c).After-districts-found in
    subst (λ l. are_sets c.args.g.now.n l ≡ true) (sym (first_are c.districts-found.result.sets c.districts-found.result.count))
    (natural_sets (graph_of c.args.g.now) c.args.g.now.valid c.args.x.bits c.args.m.bits c.args.y.bits c.args.z.bits c.ancestors_outside-d.result.bits
    c.requires.target (first_masks c.districts-found.result.sets c.districts-found.result.count) (are at))

pub returns-in-Ok-clause-accepted : goal.returns-in-Ok-clause-accepted
returns-in-Ok-clause-accepted c =
    let at = goal.at.returns-in-Ok-clause-accepted c in
    record {
      is_through = c.leading_through-through.ensures;
      clear = clear at.After-as_slice (are at.After-districts-found);
      d = c.ancestors_outside-d.result.bits;
      sets = first_masks c.districts-found.result.sets c.districts-found.result.count;
      are = are at.After-districts-found;
      accepted = subst (λ ps. AreAccepted (graph_of c.args.g.now) (first_masks c.districts-found.result.sets c.districts-found.result.count) (derived_views ps))
          c.as_slice.ensures.value (subst (λ l. AreAccepted (graph_of c.args.g.now) l (derived_views c.as_slice.result.now))
          (first_are c.districts-found.result.sets c.districts-found.result.count) c.in-Ok.ensures.accepted);
      alike = alike at.After-as_slice;
      summed = c.difference.ensures.mask ∙ ap (minus c.ancestors_outside-d.result.bits) c.union-joint.ensures.mask;
    }

pub returns-in-Err-clause-fault : goal.returns-in-Err-clause-fault
returns-in-Err-clause-fault c =
    let at = goal.at.returns-in-Err-clause-fault c in
    let g = graph_of c.args.g.now in
    let parts = derived_views c.args.parts.now.items in
    let sets = first_masks c.districts-found.result.sets c.districts-found.result.count in
    unless_weaker c.in-Err.fault (IsPartsFault g 0 (masks_of (taken c.districts-found.result.sets c.districts-found.result.count)) (derived_views c.as_slice.result.now) c.in-Err.fault)
    (HasNaturalPartsFault g c.args.x.bits c.args.m.bits c.args.y.bits c.args.z.bits parts c.in-Err.fault)
    (λ h. record {
      clear = clear at.After-as_slice (are at.After-districts-found);
      d = c.ancestors_outside-d.result.bits;
      sets = sets;
      are = are at.After-districts-found;
      fault = subst (λ ps. IsPartsFault g 0 (first_masks c.districts-found.result.sets c.districts-found.result.count) (derived_views ps) c.in-Err.fault)
          c.as_slice.ensures.value (subst (λ l. IsPartsFault g 0 l (derived_views c.as_slice.result.now) c.in-Err.fault)
          (first_are c.districts-found.result.sets c.districts-found.result.count) h);
    }) c.in-Err.ensures.fault
