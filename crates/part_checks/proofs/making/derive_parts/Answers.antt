use Rattle.std.proofs.Common.{◌+◌, ◌∙◌, [], ◌∷◌, ap, sym, subst, take, ℕ}
use Rattle.std.proofs.lemmas.List.{map-append}
use Rattle.mixed_graph.specs.Vocabulary.{graph_of, minus, all}
use Rattle.mixed_graph.proofs.Masks.{positive_from_has}
use Rattle.hedge.specs.Vocabulary.{IsMaximalJoined}
use Rattle.prob_expr.specs.Vocabulary.{masks_of}
use Rattle.identification_theory.specs.Vocabulary.{IsUnidentified}
use Rattle.derived_parts.specs.Vocabulary.{AreAccepted, derived_view, derived_views}
use Rattle.part_checks.specs.Making.{AreWellMade}
use Rattle.part_checks.proofs.Lists.{all_here, accepted_more, here, made_push}
use Rattle.part_checks.proofs.making.derive_parts.Goals as goal
use Rattle.part_checks.proofs.making.derive_parts.Goals.{In-loop-c}

district : (c : In-loop-c) → IsMaximalJoined (graph_of c.args.g.now) c.args.d.bits (here c.args.districts.now c.loop-c.c-index c.loop-c-test.true).bits
district c = all_here c.args.districts.now c.loop-c.c-index c.loop-c-test.true (IsMaximalJoined (graph_of c.args.g.now) c.args.d.bits) c.requires.districts

pub derive_part-requires-clause-within : goal.derive_part-requires-clause-within
derive_part-requires-clause-within c = λ v i. c.requires.within v ((district (goal.at.derive_part-requires-clause-within c).In-loop-c).inside v i)

pub derive_part-requires-clause-some : goal.derive_part-requires-clause-some
derive_part-requires-clause-some c =
    let some = (district (goal.at.derive_part-requires-clause-some c).In-loop-c).some in
    positive_from_has (here c.args.districts.now c.loop-c.c-index c.loop-c-test.true).bits some.0 some.1

pub derive_part-requires-clause-found : goal.derive_part-requires-clause-found
derive_part-requires-clause-found c = all_here c.args.districts.now c.loop-c.c-index c.loop-c-test.true
    (λ k. (small big : ℕ) → IsUnidentified (graph_of c.args.g.now) (minus (all c.args.g.now.n) k) k small big → ⊥) c.requires.found

pub loop-c-preserved : goal.loop-c-preserved
loop-c-preserved c =
    let views = sym (ap derived_views c.in_ok-push.ensures.items ∙ map-append derived_view c.loop-c.parts.items (c.in_ok-part.part ∷ [])) in (
      subst (AreAccepted (graph_of c.args.g.now) (masks_of (take (c.loop-c.c-index + 1) c.args.districts.now))) views
          (accepted_more c.args.districts.now c.loop-c.c-index c.loop-c-test.true (graph_of c.args.g.now) (derived_views c.loop-c.parts.items)
          (derived_view c.in_ok-part.part) c.loop-c.invariant.0 c.in_ok-part.ensures.accepted),
      subst (AreWellMade c.args.g.now.n) views
          (made_push c.args.g.now.n (derived_views c.loop-c.parts.items) (derived_view c.in_ok-part.part) c.loop-c.invariant.1 c.in_ok-part.ensures.written),
    )
