use Rattle.std.proofs.Common.{List, take, map, refl, sym, ap, ◌∙◌, arith}
use Rattle.std.proofs.lemmas.List.{at_drop_more, at_drop_all}
use Rattle.mixed_graph.specs.declared.sets.VSet.{VSet}
use Rattle.identification_theory.specs.Vocabulary.{home}
use Rattle.identify.proofs.StepLists.{masks_taken}
use Rattle.identify.proofs.homes.home.Goals as goal

pub returns-then-has : goal.returns-then-has
returns-then-has c =
    let sets : List VSet = take c.args.parts.now.count c.args.parts.now.sets in
    let here = sym c.has.ensures ∙ c.if-has.true in
    sym (ap (λ ts. home ts c.args.v) (masks_taken c.args.parts.now.sets c.args.parts.now.count) ∙ sym c.loop-t.invariant
    ∙ at_drop_more (λ l. home (map (λ (s : VSet). s.bits) l) c.args.v) sets c.loop-t.t-index (record { bits = 0 }) (omega arith) ∙ rw here refl)

pub returns : goal.returns
returns c =
    let sets : List VSet = take c.args.parts.now.count c.args.parts.now.sets in
    sym (ap (λ ts. home ts c.args.v) (masks_taken c.args.parts.now.sets c.args.parts.now.count) ∙ sym c.loop-t.invariant
    ∙ at_drop_all (λ l. home (map (λ (s : VSet). s.bits) l) c.args.v) sets c.loop-t.t-index (omega arith))
