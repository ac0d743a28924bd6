use Rattle.std.proofs.Common.{◌≡◌, ◌++◌, None, sym, subst, ◌∙◌}
use Rattle.targets.specs.Vocabulary.{Lists, fault_in, first_fault, walked_in, IsNameFault}
use Rattle.targets.proofs.Faults.{list_fault_named}
use Rattle.targets.proofs.Queries.{after_list}
use Rattle.diagram.specs.Sets.{lent, query_lists}
use Rattle.diagram.proofs.Asking.{first_of_all, first_of_rest, behind_first, empty_list, no_list}
use Rattle.diagram.proofs.sets.asked_condition.Goals as goal
use Rattle.diagram.proofs.sets.asked_condition.Goals.{After-set_of, After-set_of-2, After-set_of-3}

-- the lists
abbrev lists : After-set_of → Lists
lists c = query_lists c.args.diagram.now.read c.args.diagram.now.observed.names (lent c.args.x) (lent c.args.y)
    (lent c.args.given)

abbrev two_lists : After-set_of-2 → Lists
two_lists c = query_lists c.args.diagram.now.read c.args.diagram.now.observed.names (lent c.args.x) (lent c.args.y)
    (lent c.args.given)

abbrev all_lists : After-set_of-3 → Lists
all_lists c = query_lists c.args.diagram.now.read c.args.diagram.now.observed.names (lent c.args.x) (lent c.args.y)
    (lent c.args.given)

-- what is left behind x
abbrev later : (c : After-set_of-2) → fault_in (two_lists c) ≡ first_fault c.args.diagram.now.read.names c.args.diagram.now.observed.names
    (walked_in c.args.diagram.now.observed.names c.in-Ok.set.bits) ((two_lists c).y ++ (two_lists c).given)
later c = behind_first (two_lists c).all (two_lists c).observed c.empty.result.bits c.in-Ok.set.bits (two_lists c).x ((two_lists c).y ++ (two_lists c).given)
    c.empty.ensures.members c.in-Ok.ensures.none c.in-Ok.ensures.set

-- and behind y
abbrev last : (c : After-set_of-3) → fault_in (all_lists c) ≡ first_fault c.args.diagram.now.read.names c.args.diagram.now.observed.names
    (walked_in c.args.diagram.now.observed.names c.union.result.bits) (all_lists c).given
last c =
    behind_first (all_lists c).all (all_lists c).observed c.empty.result.bits c.in-Ok.set.bits (all_lists c).x ((all_lists c).y ++ (all_lists c).given)
    c.empty.ensures.members c.in-Ok.ensures.none c.in-Ok.ensures.set
    ∙ after_list (all_lists c).all (all_lists c).observed c.in-Ok.set.bits c.in-Ok-set_of.set.bits c.union.result.bits (all_lists c).y (all_lists c).given
    c.in-Ok-set_of.ensures.none c.in-Ok-set_of.ensures.set c.union.ensures.members

pub returns-in-Err-clause-fault : goal.returns-in-Err-clause-fault
returns-in-Err-clause-fault c =
    let l = lists (goal.at.returns-in-Err-clause-fault c).After-set_of in
    list_fault_named l c.in-Err.fault (first_of_all l.all l.observed c.empty.result.bits l.x (l.y ++ l.given) c.empty.ensures.members c.in-Err.fault
    c.in-Err.ensures.fault)

pub returns-in-Err-set_of-clause-fault : goal.returns-in-Err-set_of-clause-fault
returns-in-Err-set_of-clause-fault c =
    let at = (goal.at.returns-in-Err-set_of-clause-fault c).After-set_of-2 in
    let l = two_lists at in
    list_fault_named l c.in-Err-set_of.fault (subst (λ o. IsNameFault o c.in-Err-set_of.fault) (sym (later at))
    (first_of_rest l.all l.observed c.in-Ok.set.bits l.y l.given c.in-Err-set_of.fault c.in-Err-set_of.ensures.fault))

pub returns-in-Err-set_of-2-clause-fault : goal.returns-in-Err-set_of-2-clause-fault
returns-in-Err-set_of-2-clause-fault c =
    let at = (goal.at.returns-in-Err-set_of-2-clause-fault c).After-set_of-3 in
    list_fault_named (all_lists at) c.in-Err-set_of-2.fault
    (subst (λ o. IsNameFault o c.in-Err-set_of-2.fault) (sym (last at)) c.in-Err-set_of-2.ensures.fault)

pub returns-then-is_empty-clause-fault : goal.returns-then-is_empty-clause-fault
returns-then-is_empty-clause-fault c =
    let at = (goal.at.returns-then-is_empty-clause-fault c).After-set_of-3 in
    let l = all_lists at in (
      last at ∙ c.in-Ok-set_of-2.ensures.none,
      empty_list l.all l.observed (walked_in l.observed c.in-Ok.set.bits) l.y c.in-Ok-set_of.set.bits c.in-Ok-set_of.ensures.none
          c.in-Ok-set_of.ensures.set (c.is_empty.ensures.none.0 c.if-is_empty.true),
    )

pub returns-clause-sets : goal.returns-clause-sets
returns-clause-sets c =
    let at = (goal.at.returns-clause-sets c).After-set_of-3 in
    let l = all_lists at in record {
      no_fault = last at ∙ c.in-Ok-set_of-2.ensures.none;
      some_y = λ e. (let t = c.is_empty.ensures.none.1 (no_list l.all l.observed l.y c.in-Ok-set_of.set.bits c.in-Ok-set_of.ensures.set e) in
          let f = c.if-is_empty.false in cc);
      set_x = c.in-Ok.ensures.set;
      set_y = c.in-Ok-set_of.ensures.set;
      set_given = c.in-Ok-set_of-2.ensures.set;
    }
