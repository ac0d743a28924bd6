use Rattle.std.proofs.Common.{◌^◌, ℕ, Bool, List, length, map, refl, ap, arith}
use Rattle.std.specs.Global.{Vec}
use Rattle.json.specs.Json.{Json}
use Rattle.do_derivation.specs.Vocabulary.{numbers_of}
use Rattle.certificate_json.specs.StepSizes.{are_below, groups_below}
use Rattle.certificate_json.specs.Steps.{numbers_json}
use Rattle.certificate_json.proofs.Keeping.{next_written, all_written, all_short}
use Rattle.certificate_json.proofs.steps.push_groups.Goals as goal

abbrev told : List (Vec ℕ) → List Json
told groups = map numbers_json (numbers_of groups)

abbrev short : List (Vec ℕ) → Bool
short groups = groups_below (2 ^ 32) (numbers_of groups)

pub loop-group-preserved : goal.loop-group-preserved
loop-group-preserved c =
    next_written told (λ g. numbers_json g.items) (λ x xs. refl) short (λ g. are_below (2 ^ 32) g.items) (λ x xs. refl)
    c.args.list.now.items c.loop-group.group-index c.args.object.now _ c.group-item.result c.group-item.result c.loop-group.object c.push_numbers.new.object
    c.deref-group-items.ensures.value c.loop-group-test.true c.group-item.is
    c.in_ok-push_numbers.ensures.written c.in_ok-push_numbers.ensures.short c.loop-group.invariant

pub returns-clause-written : goal.returns-clause-written
returns-clause-written c = all_written told short c.args.list.now.items c.loop-group.group-index c.args.object.now c.loop-group.object refl
    (let e = ap length c.deref-group-items.ensures.value in omega arith) c.loop-group.invariant

pub returns-clause-short : goal.returns-clause-short
returns-clause-short c = all_short told short c.args.list.now.items c.loop-group.group-index c.args.object.now c.loop-group.object refl
    (let e = ap length c.deref-group-items.ensures.value in omega arith) c.loop-group.invariant
