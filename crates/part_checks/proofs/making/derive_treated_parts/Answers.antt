use Rattle.std.proofs.Common.{sym, subst, ℕ}
use Rattle.std.specs.Prelude.{All}
use Rattle.mixed_graph.specs.Vocabulary.{has, graph_of, minus, all, union}
use Rattle.hedge.specs.Vocabulary.{IsMaximalJoined, first_masks}
use Rattle.prob_expr.specs.Vocabulary.{masks_of}
use Rattle.identification_theory.specs.Vocabulary.{IsUnidentified}
use Rattle.identify.proofs.RightAnswers.{if_ok}
use Rattle.derived_parts.specs.Vocabulary.{AreAccepted, derived_views}
use Rattle.natural_id.proofs.Found.{districts_never}
use Rattle.treated_id.proofs.Ancestors.{ancestors_low, ancestors_parents}
use Rattle.part_checks.specs.Treated.{AreAcceptedAmong}
use Rattle.part_checks.proofs.Lists.{first_are, taken}
use Rattle.part_checks.proofs.making.derive_treated_parts.Goals as goal

pub derive_parts-requires-clause-districts : goal.derive_parts-requires-clause-districts
derive_parts-requires-clause-districts c = subst (All (IsMaximalJoined (graph_of c.args.g.now) c.ancestors_of-ancestors.result.bits))
    (sym (first_are c.districts-found.result.sets c.districts-found.result.count)) c.districts-found.ensures.maximal

pub derive_parts-requires-clause-found : goal.derive_parts-requires-clause-found
derive_parts-requires-clause-found c =
    let g = graph_of c.args.g.now in
    let a = c.ancestors_of-ancestors.result.bits in
    let asked = has (union (union c.args.x.bits c.args.z.bits) c.args.y.bits) in
    subst (All (λ k. (small big : ℕ) → IsUnidentified g (minus (all c.args.g.now.n) k) k small big → ⊥))
    (sym (first_are c.districts-found.result.sets c.districts-found.result.count))
    (districts_never g c.args.g.now.valid a (ancestors_low g c.args.g.now.valid a asked c.ancestors_of-ancestors.ensures)
    (ancestors_parents g c.args.g.now.valid a asked c.ancestors_of-ancestors.ensures)
    (first_masks c.districts-found.result.sets c.districts-found.result.count) c.districts-found.ensures.districts c.districts-found.ensures.maximal)

pub returns-clause-accepted : goal.returns-clause-accepted
returns-clause-accepted c =
    let g = graph_of c.args.g.now in
    if_ok c.derive_parts.result (λ v. AreAccepted g (masks_of (taken c.districts-found.result.sets c.districts-found.result.count)) (derived_views v.items))
    (λ v. AreAcceptedAmong g c.args.x.bits c.args.y.bits c.args.z.bits (derived_views v.items))
    (λ v h. record {
      a = c.ancestors_of-ancestors.result.bits;
      sets = first_masks c.districts-found.result.sets c.districts-found.result.count;
      are = record { ancestors = c.ancestors_of-ancestors.ensures; districts = c.districts-found.ensures.districts };
      accepted = subst (λ l. AreAccepted g l (derived_views v.items)) (first_are c.districts-found.result.sets c.districts-found.result.count) h;
    }) c.derive_parts.ensures.accepted
