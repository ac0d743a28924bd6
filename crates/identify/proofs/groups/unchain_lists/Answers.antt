use Rattle.std.proofs.Common.{◌≡◌, ◌+◌, List, [], ◌∷◌, take, drop, map, length, length-append, sym, ap, ◌∙◌, arith}
use Rattle.std.proofs.lemmas.List.{at_drop_more, at_drop_all}
use Rattle.mixed_graph.specs.declared.sets.VSet.{VSet}
use Rattle.do_derivation.specs.Vocabulary.{listed}
use Rattle.identification_theory.specs.Vocabulary.{more, unchain_lists}
use Rattle.identify.specs.Lists.{lists_onto}
use Rattle.identify.proofs.Steps.{lists_more}
use Rattle.identify.proofs.StepLists.{masks_taken}
use Rattle.identify.proofs.groups.unchain_lists.Goals as goal

pub loop-t-preserved : goal.loop-t-preserved
loop-t-preserved c =
    let sets : List VSet = take c.args.parts.now.count c.args.parts.now.sets in
    let rest = unchain_lists (map (λ (s : VSet). s.bits) (drop (c.loop-t.t-index + 1) sets)) (listed c.args.chain.now) in
    let old = c.loop-t.lists.items in
    let new = c.in_ok-unchain_list.field-0 in
    let n : length c.push.new.self.items ≡ length old + 1 = ap length c.in_ok-push.ensures.items ∙ length-append old (new ∷ []) in
    record {
      made = ap (λ ls. lists_onto ls rest) c.in_ok-push.ensures.items ∙ lists_more old new rest
          ∙ ap (λ r. lists_onto old r) (ap (λ s. more s rest) c.in_ok-unchain_list.ensures
          ∙ sym (at_drop_more (λ l. unchain_lists (map (λ (s : VSet). s.bits) l) (listed c.args.chain.now)) sets c.loop-t.t-index (record { bits = 0 })
          (omega arith)))
          ∙ c.loop-t.invariant.made;
      counted = n ∙ ap (λ k. k + 1) c.loop-t.invariant.counted;
    }

pub returns-clause-lists : goal.returns-clause-lists
returns-clause-lists c =
    let sets : List VSet = take c.args.parts.now.count c.args.parts.now.sets in
    sym (ap (λ r. lists_onto c.loop-t.lists.items r) (at_drop_all (λ l. unchain_lists (map (λ (s : VSet). s.bits) l) (listed c.args.chain.now))
    sets c.loop-t.t-index (omega arith)))
    ∙ c.loop-t.invariant.made ∙ ap (λ ts. unchain_lists ts (listed c.args.chain.now)) (sym (masks_taken c.args.parts.now.sets c.args.parts.now.count))
