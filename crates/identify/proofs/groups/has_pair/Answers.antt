use Rattle.std.proofs.Common.{List, take, map, refl, sym, ap, ◌∙◌, arith}
use Rattle.std.proofs.lemmas.List.{at_drop_more, at_drop_all}
use Rattle.mixed_graph.specs.declared.sets.VSet.{VSet}
use Rattle.do_derivation.specs.Vocabulary.{listed}
use Rattle.identification_theory.specs.Vocabulary.{has_pair}
use Rattle.identify.proofs.StepLists.{masks_taken}
use Rattle.identify.proofs.groups.has_pair.Goals as goal

pub returns-then-is_pair : goal.returns-then-is_pair
returns-then-is_pair c =
    let sets : List VSet = take c.args.parts.now.count c.args.parts.now.sets in
    let pair = sym c.is_pair.ensures ∙ c.if-is_pair.true in
    sym (ap (has_pair (listed c.args.order.now)) (masks_taken c.args.parts.now.sets c.args.parts.now.count) ∙ sym c.loop-t.invariant
    ∙ at_drop_more (λ l. has_pair (listed c.args.order.now) (map (λ (s : VSet). s.bits) l)) sets c.loop-t.t-index (record { bits = 0 }) (omega arith)
    ∙ rw pair refl)

pub returns : goal.returns
returns c =
    let sets : List VSet = take c.args.parts.now.count c.args.parts.now.sets in
    sym (ap (has_pair (listed c.args.order.now)) (masks_taken c.args.parts.now.sets c.args.parts.now.count) ∙ sym c.loop-t.invariant
    ∙ at_drop_all (λ l. has_pair (listed c.args.order.now) (map (λ (s : VSet). s.bits) l)) sets c.loop-t.t-index (omega arith))
