use Rattle.std.proofs.Common.{◌≡◌, ◌++◌, drop, length}
use Rattle.certificate_json.specs.Certificates.{choices_from}
use Rattle.certificate_json.proofs.hedges.choices_of.Given as goal

abbrev pub invariant-loop-v : goal.invariant-loop-v
invariant-loop-v l = (l.all.items ++ choices_from l.v (drop l.v l.next) ≡ choices_from 0 l.next) × (length l.next ≡ 64)
