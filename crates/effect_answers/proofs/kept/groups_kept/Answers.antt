use Rattle.std.proofs.Common.{◌^◌, ℕ, Bool, List, length, refl, ap, arith}
use Rattle.std.specs.Global.{Vec}
use Rattle.do_derivation.specs.Vocabulary.{numbers_of}
use Rattle.certificate_json.specs.Vocabulary.{are_below, groups_below}
use Rattle.effect_answers.proofs.Keeping.{next_kept, all_kept}
use Rattle.effect_answers.proofs.kept.groups_kept.Goals as goal

abbrev short : List (Vec ℕ) → Bool
short groups = groups_below (2 ^ 32) (numbers_of groups)

pub loop-group-preserved : goal.loop-group-preserved
loop-group-preserved c =
    next_kept short (λ g. are_below (2 ^ 32) g.items) (λ x xs. refl) c.args.list.now.items _ c.loop-group.group-index c.group-item.result
    c.deref-group-items.ensures.value c.loop-group-test.true c.group-item.is
    c.numbers_kept.ensures c.loop-group.invariant

pub returns : goal.returns
returns c = all_kept short refl c.args.list.now.items c.loop-group.group-index (let e = ap length c.deref-group-items.ensures.value in omega arith)
    c.loop-group.invariant
