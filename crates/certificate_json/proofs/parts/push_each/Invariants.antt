use Rattle.std.proofs.Common.{List, map}
use Rattle.derived_parts.specs.declared.part.DerivedPart.{DerivedPart}
use Rattle.derived_parts.specs.Vocabulary.{derived_views}
use Rattle.certificate_json.specs.PartCertificates.{are_parts_short, part_json}
use Rattle.certificate_json.proofs.Keeping.{IsOnTheWay}
use Rattle.certificate_json.proofs.parts.push_each.Given as goal

abbrev pub invariant-loop-part : goal.invariant-loop-part
invariant-loop-part l = IsOnTheWay (λ (parts : List DerivedPart). map (part_json l.names) (derived_views parts))
    (λ parts. are_parts_short (derived_views parts)) l.list.items l.part-index l.fn.object l.object
