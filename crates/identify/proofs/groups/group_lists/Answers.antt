use Rattle.std.proofs.Common.{List, take, map, ◌++◌, sym, ap, ◌∙◌, arith}
use Rattle.std.proofs.lemmas.List.{at_drop_all, append-nil}
use Rattle.mixed_graph.specs.declared.sets.VSet.{VSet}
use Rattle.do_derivation.specs.Vocabulary.{listed, numbers_of}
use Rattle.identification_theory.specs.Vocabulary.{group_lists}
use Rattle.identify.proofs.StepLists.{masks_taken}
use Rattle.identify.proofs.groups.group_lists.Goals as goal

pub returns : goal.returns
returns c =
    let sets : List VSet = take c.args.parts.now.count c.args.parts.now.sets in
    sym (ap (λ r. numbers_of c.loop-t.groups.items ++ r) (at_drop_all (λ l. group_lists (map (λ (s : VSet). s.bits) l) (listed c.args.chain.now))
    sets c.loop-t.t-index (omega arith))
    ∙ append-nil (numbers_of c.loop-t.groups.items))
    ∙ c.loop-t.invariant ∙ ap (λ ts. group_lists ts (listed c.args.chain.now)) (sym (masks_taken c.args.parts.now.sets c.args.parts.now.count))
