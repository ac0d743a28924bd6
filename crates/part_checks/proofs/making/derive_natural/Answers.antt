use Rattle.std.proofs.Common.{sym, subst, ℕ}
use Rattle.std.specs.Prelude.{All}
use Rattle.mixed_graph.specs.Vocabulary.{graph_of, minus, all, union}
use Rattle.hedge.specs.Vocabulary.{IsMaximalJoined, first_masks}
use Rattle.prob_expr.specs.Vocabulary.{masks_of}
use Rattle.identification_theory.specs.Vocabulary.{AreAncestorsIn, IsUnidentified}
use Rattle.identify.proofs.RightAnswers.{if_ok}
use Rattle.derived_parts.specs.Vocabulary.{AreAccepted, derived_views}
use Rattle.natural_id.proofs.Found.{districts_found}
use Rattle.part_checks.specs.Natural.{AreNaturallyAccepted}
use Rattle.part_checks.proofs.Lists.{first_are, taken}
use Rattle.part_checks.proofs.making.derive_natural.Goals as goal

pub derive_parts-requires-clause-districts : goal.derive_parts-requires-clause-districts
derive_parts-requires-clause-districts c = subst (All (IsMaximalJoined (graph_of c.args.g.now) c.ancestors_outside-d.result.bits))
    (sym (first_are c.districts-found.result.sets c.districts-found.result.count)) c.districts-found.ensures.maximal

pub derive_parts-requires-clause-found : goal.derive_parts-requires-clause-found
derive_parts-requires-clause-found c =
    let g = graph_of c.args.g.now in
    subst (All (λ k. (small big : ℕ) → IsUnidentified g (minus (all c.args.g.now.n) k) k small big → ⊥))
    (sym (first_are c.districts-found.result.sets c.districts-found.result.count))
    (districts_found g c.args.g.now.valid c.args.x.bits (union c.args.y.bits c.args.z.bits) c.union.result.bits c.union.ensures.mask c.requires.x_some
    c.ancestors_outside-d.result.bits c.ancestors_outside-d.ensures (first_masks c.districts-found.result.sets c.districts-found.result.count)
    c.districts-found.ensures.districts c.districts-found.ensures.maximal c.requires.found.0 c.requires.found.1)

pub returns-clause-accepted : goal.returns-clause-accepted
returns-clause-accepted c =
    let g = graph_of c.args.g.now in
    let sets = first_masks c.districts-found.result.sets c.districts-found.result.count in
    if_ok c.derive_parts.result (λ v. AreAccepted g (masks_of (taken c.districts-found.result.sets c.districts-found.result.count)) (derived_views v.items))
    (λ v. AreNaturallyAccepted g c.args.x.bits c.args.y.bits c.args.z.bits (derived_views v.items))
    (λ v h. record {
      d = c.ancestors_outside-d.result.bits;
      sets = sets;
      are = record {
        ancestors = subst (λ j. AreAncestorsIn g (minus (all c.args.g.now.n) c.args.x.bits) j c.ancestors_outside-d.result.bits) c.union.ensures.mask
            c.ancestors_outside-d.ensures;
        districts = c.districts-found.ensures.districts;
      };
      accepted = subst (λ l. AreAccepted g l (derived_views v.items)) (first_are c.districts-found.result.sets c.districts-found.result.count) h;
    }) c.derive_parts.ensures.accepted
