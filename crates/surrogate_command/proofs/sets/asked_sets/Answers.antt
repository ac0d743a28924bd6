use Rattle.std.proofs.Common.{◌≡◌, map, None, sym, subst, ◌∙◌}
use Rattle.command_words.specs.Vocabulary.{names_in}
use Rattle.targets.specs.Vocabulary.{effect_fault, first_fault, walked_in, IsNameFault}
use Rattle.targets.proofs.Walking.{fault_first}
use Rattle.diagram.specs.Vocabulary.{lent}
use Rattle.diagram.proofs.Asking.{first_of_all, behind_first, empty_list, no_list}
use Rattle.experiment_lists.specs.Vocabulary.{experiments_fault}
use Rattle.surrogate_command.specs.Sets.{SurrogateLists, surrogate_lists}
use Rattle.surrogate_command.proofs.Walked.{surrogate_fault_named, after_effect}
use Rattle.surrogate_command.proofs.sets.asked_sets.Goals as goal
use Rattle.surrogate_command.proofs.sets.asked_sets.Goals.{After-set_of, After-set_of-2, After-experiment_sets}

-- the lists
abbrev lists : After-set_of → SurrogateLists
lists c = surrogate_lists c.args.diagram.now.read c.args.diagram.now.observed.names (lent c.args.x) (lent c.args.y) (map names_in c.args.experiments.now)

abbrev both_lists : After-set_of-2 → SurrogateLists
both_lists c = surrogate_lists c.args.diagram.now.read c.args.diagram.now.observed.names (lent c.args.x) (lent c.args.y) (map names_in c.args.experiments.now)

abbrev all_lists : After-experiment_sets → SurrogateLists
all_lists c = surrogate_lists c.args.diagram.now.read c.args.diagram.now.observed.names (lent c.args.x) (lent c.args.y) (map names_in c.args.experiments.now)

-- what is left behind x
abbrev later : (c : After-set_of-2) → effect_fault (both_lists c).effect ≡ first_fault c.args.diagram.now.read.names c.args.diagram.now.observed.names
    (walked_in c.args.diagram.now.observed.names c.in-Ok.set.bits) (both_lists c).effect.y
later c =
    let e = (both_lists c).effect in
    behind_first e.all e.observed c.empty.result.bits c.in-Ok.set.bits e.x e.y c.empty.ensures.members c.in-Ok.ensures.none c.in-Ok.ensures.set

-- x and y have no fault
abbrev no_effect_fault : (c : After-experiment_sets) → effect_fault (all_lists c).effect ≡ None
no_effect_fault c =
    let e = (all_lists c).effect in
    behind_first e.all e.observed c.empty.result.bits c.in-Ok.set.bits e.x e.y c.empty.ensures.members c.in-Ok.ensures.none c.in-Ok.ensures.set
    ∙ c.in-Ok-set_of.ensures.none

pub returns-in-Err-clause-fault : goal.returns-in-Err-clause-fault
returns-in-Err-clause-fault c =
    let l = lists (goal.at.returns-in-Err-clause-fault c).After-set_of in
    let e = l.effect in
    surrogate_fault_named l c.in-Err.fault (fault_first (effect_fault e) (experiments_fault e.all e.observed l.experiments) c.in-Err.fault
    (first_of_all e.all e.observed c.empty.result.bits e.x e.y c.empty.ensures.members c.in-Err.fault c.in-Err.ensures.fault))

pub returns-in-Err-set_of-clause-fault : goal.returns-in-Err-set_of-clause-fault
returns-in-Err-set_of-clause-fault c =
    let at = (goal.at.returns-in-Err-set_of-clause-fault c).After-set_of-2 in
    let l = both_lists at in
    let e = l.effect in
    surrogate_fault_named l c.in-Err-set_of.fault (fault_first (effect_fault e) (experiments_fault e.all e.observed l.experiments) c.in-Err-set_of.fault
    (subst (λ o. IsNameFault o c.in-Err-set_of.fault) (sym (later at)) c.in-Err-set_of.ensures.fault))

pub returns-in-Err-experiment_sets-clause-fault : goal.returns-in-Err-experiment_sets-clause-fault
returns-in-Err-experiment_sets-clause-fault c =
    let at = (goal.at.returns-in-Err-experiment_sets-clause-fault c).After-experiment_sets in
    surrogate_fault_named (all_lists at) c.in-Err-experiment_sets.fault
    (subst (λ o. IsNameFault o c.in-Err-experiment_sets.fault) (sym (after_effect (all_lists at) (no_effect_fault at))) c.in-Err-experiment_sets.ensures.fault)

pub returns-then-is_empty-clause-fault : goal.returns-then-is_empty-clause-fault
returns-then-is_empty-clause-fault c =
    let at = (goal.at.returns-then-is_empty-clause-fault c).After-experiment_sets in
    let e = (all_lists at).effect in (
      after_effect (all_lists at) (no_effect_fault at) ∙ c.in-Ok-experiment_sets.ensures.none,
      empty_list e.all e.observed (walked_in e.observed c.in-Ok.set.bits) e.y c.in-Ok-set_of.set.bits c.in-Ok-set_of.ensures.none
          c.in-Ok-set_of.ensures.set (c.is_empty.ensures.none.0 c.if-is_empty.true),
    )

pub returns-clause-sets : goal.returns-clause-sets
returns-clause-sets c =
    let at = (goal.at.returns-clause-sets c).After-experiment_sets in
    let e = (all_lists at).effect in record {
      no_fault = after_effect (all_lists at) (no_effect_fault at) ∙ c.in-Ok-experiment_sets.ensures.none;
      effect = record {
        no_fault = no_effect_fault at;
        some_y = λ none. (let t = c.is_empty.ensures.none.1 (no_list e.all e.observed e.y c.in-Ok-set_of.set.bits c.in-Ok-set_of.ensures.set none) in
            let f = c.if-is_empty.false in cc);
        set_x = c.in-Ok.ensures.set;
        set_y = c.in-Ok-set_of.ensures.set;
      };
      experiments = c.in-Ok-experiment_sets.ensures.sets;
    }
