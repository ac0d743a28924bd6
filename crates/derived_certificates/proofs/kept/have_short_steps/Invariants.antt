use Rattle.std.proofs.Common.{◌≡◌, drop}
use Rattle.derived_certificates.proofs.Keeping.{short}
use Rattle.derived_certificates.proofs.kept.have_short_steps.Given as goal

abbrev pub invariant-loop-part : goal.invariant-loop-part
invariant-loop-part l = short (drop l.part-index l.parts.items) ≡ short l.parts.items
