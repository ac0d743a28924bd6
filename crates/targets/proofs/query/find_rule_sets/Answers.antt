use Rattle.std.proofs.Common.{◌≡◌, ◌++◌, length, sym, ap, subst, ◌∙◌, rules}
use Rattle.std.proofs.lemmas.List.{nil_from_length}
use Rattle.mixed_graph.specs.Vocabulary.{texts}
use Rattle.targets.specs.Targets.{RuleLists, rule_fault, first_fault, walked_in, IsNameFault}
use Rattle.targets.proofs.Parts.{rule_lists_of}
use Rattle.targets.proofs.Faults.{rule_fault_named}
use Rattle.targets.proofs.Walking.{texts-none}
use Rattle.targets.proofs.Queries.{after_first_two, fault_in_first_two}
use Rattle.targets.proofs.query.find_rule_sets.Goals as goal
use Rattle.targets.proofs.query.find_rule_sets.Goals.{After-walk_two-2}

abbrev lists : After-walk_two-2 → RuleLists
lists c = rule_lists_of c.args.all.now c.args.observed.now (texts c.args.y.now) (texts c.args.x.now) (texts c.args.z.now) (texts c.args.given.now)

-- what is left behind y and what is done
abbrev later_on : (c : After-walk_two-2) → rule_fault (lists c) ≡ first_fault c.args.all.now c.args.observed.now
    (walked_in c.args.observed.now c.union.result.bits) (texts c.args.z.now ++ texts c.args.given.now)
later_on c = after_first_two c.args.all.now c.args.observed.now c.empty.result.bits c.in-Ok.sets.0.bits c.in-Ok.sets.1.bits c.union.result.bits
    (texts c.args.y.now) (texts c.args.x.now) (texts c.args.z.now ++ texts c.args.given.now)
    c.empty.ensures.members c.in-Ok.ensures.none c.in-Ok.ensures.first c.in-Ok.ensures.second c.union.ensures.members

pub returns-in-Err-clause-fault : goal.returns-in-Err-clause-fault
returns-in-Err-clause-fault c =
    let l = rule_lists_of c.args.all.now c.args.observed.now (texts c.args.y.now) (texts c.args.x.now) (texts c.args.z.now) (texts c.args.given.now) in
    rule_fault_named l c.in-Err.fault (fault_in_first_two l.all l.observed c.empty.result.bits l.y l.x (l.z ++ l.given)
    c.empty.ensures.members c.in-Err.fault c.in-Err.ensures.fault)

pub returns-in-Err-walk_two-clause-fault : goal.returns-in-Err-walk_two-clause-fault
returns-in-Err-walk_two-clause-fault c =
    let at = (goal.at.returns-in-Err-walk_two-clause-fault c).After-walk_two-2 in
    rule_fault_named (lists at) c.in-Err-walk_two.fault (subst (λ o. IsNameFault o c.in-Err-walk_two.fault) (sym (later_on at)) c.in-Err-walk_two.ensures.fault)

pub returns-then-is_empty-clause-fault : goal.returns-then-is_empty-clause-fault
returns-then-is_empty-clause-fault c =
    let at = (goal.at.returns-then-is_empty-clause-fault c).After-walk_two-2 in
    let none : length c.args.y.now ≡ 0 = search rules in
    (later_on at ∙ c.in-Ok-walk_two.ensures.none, ap texts (nil_from_length c.args.y.now none))

pub returns-then-is_empty-2-clause-fault : goal.returns-then-is_empty-2-clause-fault
returns-then-is_empty-2-clause-fault c =
    let at = (goal.at.returns-then-is_empty-2-clause-fault c).After-walk_two-2 in
    let none : length c.args.z.now ≡ 0 = search rules in
    let some : length c.args.y.now ≡ 0 → ⊥ = search rules in
    (later_on at ∙ c.in-Ok-walk_two.ensures.none, λ e. some (texts-none c.args.y.now e), ap texts (nil_from_length c.args.z.now none))

pub returns-clause-sets : goal.returns-clause-sets
returns-clause-sets c =
    let at = (goal.at.returns-clause-sets c).After-walk_two-2 in
    let some_y : length c.args.y.now ≡ 0 → ⊥ = search rules in
    let some_z : length c.args.z.now ≡ 0 → ⊥ = search rules in record {
      no_fault = later_on at ∙ c.in-Ok-walk_two.ensures.none;
      some_y = λ e. some_y (texts-none c.args.y.now e);
      some_z = λ e. some_z (texts-none c.args.z.now e);
      set_y = c.in-Ok.ensures.first;
      set_x = c.in-Ok.ensures.second;
      set_z = c.in-Ok-walk_two.ensures.first;
      set_given = c.in-Ok-walk_two.ensures.second;
    }
