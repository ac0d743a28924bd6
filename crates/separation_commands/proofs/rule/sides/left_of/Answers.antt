use Rattle.std.proofs.Common.{◌≡◌, refl, sym, subst}
use Rattle.mixed_graph.specs.Vocabulary.{has}
use Rattle.do_rules.specs.declared.rules.Rule.{Rule}
use Rattle.do_rules.specs.declared.rules.Rule.TheVariants.{One, Two, Three}
use Rattle.do_rules.specs.Vocabulary.{Side, left_of}
use Rattle.separation_commands.proofs.Equations.{same_side}
use Rattle.separation_commands.proofs.rule.sides.left_of.Goals as goal

pub returns-in-One : goal.returns-in-One
returns-in-One c =
    let side : Side = record { of = has c.args.sets.y.bits; doing = has c.args.sets.x.bits; given = has c.union.result.bits } in
    subst (λ (r : Rule). side ≡ left_of r (has c.args.sets.x.bits) (has c.args.sets.y.bits) (has c.args.sets.z.bits) (has c.args.sets.given.bits))
    (sym c.in-One.is)
    (same_side side (left_of One (has c.args.sets.x.bits) (has c.args.sets.y.bits) (has c.args.sets.z.bits) (has c.args.sets.given.bits))
    (λ v. refl) (λ v. refl) (c.union.ensures.members))

pub returns-in-Two : goal.returns-in-Two
returns-in-Two c =
    let side : Side = record { of = has c.args.sets.y.bits; doing = has c.union-in-Two.result.bits; given = has c.args.sets.given.bits } in
    subst (λ (r : Rule). side ≡ left_of r (has c.args.sets.x.bits) (has c.args.sets.y.bits) (has c.args.sets.z.bits) (has c.args.sets.given.bits))
    (sym c.in-Two.is)
    (same_side side (left_of Two (has c.args.sets.x.bits) (has c.args.sets.y.bits) (has c.args.sets.z.bits) (has c.args.sets.given.bits))
    (λ v. refl) (c.union-in-Two.ensures.members) (λ v. refl))

pub returns-in-Three : goal.returns-in-Three
returns-in-Three c =
    let side : Side = record { of = has c.args.sets.y.bits; doing = has c.union-in-Three.result.bits; given = has c.args.sets.given.bits } in
    subst (λ (r : Rule). side ≡ left_of r (has c.args.sets.x.bits) (has c.args.sets.y.bits) (has c.args.sets.z.bits) (has c.args.sets.given.bits))
    (sym c.in-Three.is)
    (same_side side (left_of Three (has c.args.sets.x.bits) (has c.args.sets.y.bits) (has c.args.sets.z.bits) (has c.args.sets.given.bits))
    (λ v. refl) (c.union-in-Three.ensures.members) (λ v. refl))
