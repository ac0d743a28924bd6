use Rattle.std.proofs.Common.{◌≡◌, ◌∙◌, true, ap, sym, subst}
use Rattle.mixed_graph.specs.Vocabulary.{has, graph_of, minus, union}
use Rattle.hedge.specs.Vocabulary.{first_masks}
use Rattle.prob_expr.specs.Vocabulary.{masks_of}
use Rattle.do_derivation.specs.Vocabulary.{are_sets}
use Rattle.derived_parts.specs.Vocabulary.{AreAccepted, IsPartsFault, derived_views}
use Rattle.derived_parts.proofs.Turns.{unless_weaker}
use Rattle.treated_id.proofs.Ancestors.{ancestors_low}
use Rattle.treated_id.proofs.Answered.{x_in, not_confounded}
use Rattle.part_checks.specs.Treated.{HasTreatedPartsFault}
use Rattle.part_checks.proofs.Lists.{first_are, sets_of_maximal, taken}
use Rattle.part_checks.proofs.treated.accept.Goals as goal

pub confounded_pair-requires-clause-inside : goal.confounded_pair-requires-clause-inside
confounded_pair-requires-clause-inside c = x_in (graph_of c.args.g.now) c.args.g.now.valid c.args.x.bits c.args.y.bits c.args.z.bits
    c.ancestors_of-ancestors.result.bits c.ancestors_of-ancestors.ensures c.requires.target.x_low

pub check_parts-requires-clause-districts : goal.check_parts-requires-clause-districts
check_parts-requires-clause-districts c =
    let g = graph_of c.args.g.now in
    let a = c.ancestors_of-ancestors.result.bits in
    subst (λ l. are_sets c.args.g.now.n l ≡ true) (sym (first_are c.districts-found.result.sets c.districts-found.result.count))
    (sets_of_maximal g a (ancestors_low g c.args.g.now.valid a (has (union (union c.args.x.bits c.args.z.bits) c.args.y.bits)) c.ancestors_of-ancestors.ensures)
    (first_masks c.districts-found.result.sets c.districts-found.result.count) c.districts-found.ensures.maximal)

pub returns-in-Ok-clause-accepted : goal.returns-in-Ok-clause-accepted
returns-in-Ok-clause-accepted c = record {
  clear = not_confounded (graph_of c.args.g.now) c.args.g.now.valid c.args.x.bits c.args.y.bits c.args.z.bits c.ancestors_of-ancestors.result.bits
      c.ancestors_of-ancestors.ensures c.requires.target.x_low c.in_default.ensures;
  a = c.ancestors_of-ancestors.result.bits;
  sets = first_masks c.districts-found.result.sets c.districts-found.result.count;
  are = record { ancestors = c.ancestors_of-ancestors.ensures; districts = c.districts-found.ensures.districts };
  accepted = subst (λ ps. AreAccepted (graph_of c.args.g.now) (first_masks c.districts-found.result.sets c.districts-found.result.count) (derived_views ps))
      c.as_slice.ensures.value (subst (λ l. AreAccepted (graph_of c.args.g.now) l (derived_views c.as_slice.result.now))
      (first_are c.districts-found.result.sets c.districts-found.result.count) c.in-Ok.ensures.accepted);
  summed = c.difference.ensures.mask ∙ ap (minus c.ancestors_of-ancestors.result.bits)
      (c.union-in-Ok.ensures.mask ∙ ap (λ k. union k c.args.y.bits) c.union.ensures.mask);
}

pub returns-in-Err-clause-fault : goal.returns-in-Err-clause-fault
returns-in-Err-clause-fault c =
    let g = graph_of c.args.g.now in
    let parts = derived_views c.args.parts.now.items in
    unless_weaker c.in-Err.fault (IsPartsFault g 0 (masks_of (taken c.districts-found.result.sets c.districts-found.result.count)) (derived_views c.as_slice.result.now) c.in-Err.fault)
    (HasTreatedPartsFault g c.args.x.bits c.args.y.bits c.args.z.bits parts c.in-Err.fault)
    (λ h. record {
      clear = not_confounded g c.args.g.now.valid c.args.x.bits c.args.y.bits c.args.z.bits c.ancestors_of-ancestors.result.bits
          c.ancestors_of-ancestors.ensures c.requires.target.x_low c.in_default.ensures;
      a = c.ancestors_of-ancestors.result.bits;
      sets = first_masks c.districts-found.result.sets c.districts-found.result.count;
      are = record { ancestors = c.ancestors_of-ancestors.ensures; districts = c.districts-found.ensures.districts };
      fault = subst (λ ps. IsPartsFault g 0 (first_masks c.districts-found.result.sets c.districts-found.result.count) (derived_views ps) c.in-Err.fault)
          c.as_slice.ensures.value (subst (λ l. IsPartsFault g 0 l (derived_views c.as_slice.result.now) c.in-Err.fault)
          (first_are c.districts-found.result.sets c.districts-found.result.count) h);
    }) c.in-Err.ensures.fault
