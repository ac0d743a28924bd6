use Rattle.std.proofs.Common.{◌≡◌, length, ◌++◌, sym, ap, subst, ◌∙◌, rules}
use Rattle.std.proofs.lemmas.List.{nil_from_length}
use Rattle.mixed_graph.specs.Vocabulary.{texts}
use Rattle.targets.specs.Targets.{IsNameFault}
use Rattle.targets.proofs.Parts.{effect_lists_of}
use Rattle.targets.proofs.Faults.{effect_fault_named}
use Rattle.targets.proofs.Walking.{texts-none}
use Rattle.targets.proofs.Queries.{from_empty}
use Rattle.targets.proofs.query.find_effect_sets.Goals as goal

pub returns-in-Err-clause-fault : goal.returns-in-Err-clause-fault
returns-in-Err-clause-fault c =
    let l = effect_lists_of c.args.all.now c.args.observed.now (texts c.args.x.now) (texts c.args.y.now) in
    effect_fault_named l c.in-Err.fault (subst (λ o. IsNameFault o c.in-Err.fault)
    (sym (from_empty l.all l.observed c.empty.result.bits c.empty.ensures.members (l.x ++ l.y))) c.in-Err.ensures.fault)

pub returns-then-is_empty-clause-fault : goal.returns-then-is_empty-clause-fault
returns-then-is_empty-clause-fault c =
    let none : length c.args.y.now ≡ 0 = search rules in (
      from_empty c.args.all.now c.args.observed.now c.empty.result.bits c.empty.ensures.members (texts c.args.x.now ++ texts c.args.y.now)
          ∙ c.in-Ok.ensures.none,
      ap texts (nil_from_length c.args.y.now none),
    )

pub returns-clause-sets : goal.returns-clause-sets
returns-clause-sets c =
    let some_y : length c.args.y.now ≡ 0 → ⊥ = search rules in record {
      no_fault = from_empty c.args.all.now c.args.observed.now c.empty.result.bits c.empty.ensures.members (texts c.args.x.now ++ texts c.args.y.now)
          ∙ c.in-Ok.ensures.none;
      some_y = λ e. some_y (texts-none c.args.y.now e);
      set_x = c.in-Ok.ensures.first;
      set_y = c.in-Ok.ensures.second;
    }
