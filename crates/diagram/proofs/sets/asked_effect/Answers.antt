use Rattle.std.proofs.Common.{◌≡◌, ◌++◌, None, sym, subst, ◌∙◌}
use Rattle.targets.specs.Vocabulary.{EffectLists, effect_fault, first_fault, walked_in, IsNameFault}
use Rattle.targets.proofs.Faults.{effect_fault_named}
use Rattle.diagram.specs.Sets.{lent, effect_lists}
use Rattle.diagram.proofs.Asking.{first_of_all, behind_first, empty_list, no_list}
use Rattle.diagram.proofs.sets.asked_effect.Goals as goal
use Rattle.diagram.proofs.sets.asked_effect.Goals.{After-set_of, After-set_of-2}

-- the lists
abbrev lists : After-set_of → EffectLists
lists c = effect_lists c.args.diagram.now.read c.args.diagram.now.observed.names (lent c.args.x) (lent c.args.y)

abbrev both_lists : After-set_of-2 → EffectLists
both_lists c = effect_lists c.args.diagram.now.read c.args.diagram.now.observed.names (lent c.args.x) (lent c.args.y)

-- what is left behind x
abbrev later : (c : After-set_of-2) → effect_fault (both_lists c) ≡ first_fault c.args.diagram.now.read.names c.args.diagram.now.observed.names
    (walked_in c.args.diagram.now.observed.names c.in-Ok.set.bits) (both_lists c).y
later c = behind_first (both_lists c).all (both_lists c).observed c.empty.result.bits c.in-Ok.set.bits (both_lists c).x (both_lists c).y
    c.empty.ensures.members c.in-Ok.ensures.none c.in-Ok.ensures.set

pub returns-in-Err-clause-fault : goal.returns-in-Err-clause-fault
returns-in-Err-clause-fault c =
    let l = lists (goal.at.returns-in-Err-clause-fault c).After-set_of in
    effect_fault_named l c.in-Err.fault (first_of_all l.all l.observed c.empty.result.bits l.x l.y c.empty.ensures.members c.in-Err.fault
    c.in-Err.ensures.fault)

pub returns-in-Err-set_of-clause-fault : goal.returns-in-Err-set_of-clause-fault
returns-in-Err-set_of-clause-fault c =
    let at = (goal.at.returns-in-Err-set_of-clause-fault c).After-set_of-2 in
    effect_fault_named (both_lists at) c.in-Err-set_of.fault (subst (λ o. IsNameFault o c.in-Err-set_of.fault) (sym (later at)) c.in-Err-set_of.ensures.fault)

pub returns-then-is_empty-clause-fault : goal.returns-then-is_empty-clause-fault
returns-then-is_empty-clause-fault c =
    let at = (goal.at.returns-then-is_empty-clause-fault c).After-set_of-2 in
    let l = both_lists at in (
      later at ∙ c.in-Ok-set_of.ensures.none,
      empty_list l.all l.observed (walked_in l.observed c.in-Ok.set.bits) l.y c.in-Ok-set_of.set.bits c.in-Ok-set_of.ensures.none
          c.in-Ok-set_of.ensures.set (c.is_empty.ensures.none.0 c.if-is_empty.true),
    )

pub returns-clause-sets : goal.returns-clause-sets
returns-clause-sets c =
    let at = (goal.at.returns-clause-sets c).After-set_of-2 in
    let l = both_lists at in record {
      no_fault = later at ∙ c.in-Ok-set_of.ensures.none;
      some_y = λ e. (let t = c.is_empty.ensures.none.1 (no_list l.all l.observed l.y c.in-Ok-set_of.set.bits c.in-Ok-set_of.ensures.set e) in
          let f = c.if-is_empty.false in cc);
      set_x = c.in-Ok.ensures.set;
      set_y = c.in-Ok-set_of.ensures.set;
    }
