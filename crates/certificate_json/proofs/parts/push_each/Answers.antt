use Rattle.std.proofs.Common.{ℕ, Bool, List, length, map, refl, ap, arith}
use Rattle.json.specs.Json.{Json}
use Rattle.derived_parts.specs.declared.part.DerivedPart.{DerivedPart}
use Rattle.derived_parts.specs.Vocabulary.{derived_view, derived_views}
use Rattle.certificate_json.specs.PartCertificates.{are_parts_short, is_part_short, part_json}
use Rattle.certificate_json.proofs.Keeping.{next_written, all_written, all_short}
use Rattle.certificate_json.proofs.parts.push_each.Goals as goal

abbrev told : List (List ℕ) → List DerivedPart → List Json
told names parts = map (part_json names) (derived_views parts)

abbrev short : List DerivedPart → Bool
short parts = are_parts_short (derived_views parts)

pub loop-part-preserved : goal.loop-part-preserved
loop-part-preserved c =
    next_written (told c.args.names.now) (λ p. part_json c.args.names.now (derived_view p)) (λ x xs. refl) short (λ p. is_part_short (derived_view p))
    (λ x xs. refl) c.args.list.now.items c.loop-part.part-index c.args.object.now _ c.part-item.result c.part-item.result c.loop-part.object
    c.push_part.new.object c.deref-part-items.ensures.value c.loop-part-test.true c.part-item.is c.in_ok-push_part.ensures.written
    c.in_ok-push_part.ensures.short c.loop-part.invariant

pub returns-clause-written : goal.returns-clause-written
returns-clause-written c = all_written (told c.args.names.now) short c.args.list.now.items c.loop-part.part-index c.args.object.now c.loop-part.object refl
    (let e = ap length c.deref-part-items.ensures.value in omega arith) c.loop-part.invariant

pub returns-clause-short : goal.returns-clause-short
returns-clause-short c = all_short (told c.args.names.now) short c.args.list.now.items c.loop-part.part-index c.args.object.now c.loop-part.object refl
    (let e = ap length c.deref-part-items.ensures.value in omega arith) c.loop-part.invariant
