use Rattle.std.proofs.lemmas.Bool.{and_from}
use Rattle.do_derivation.specs.Vocabulary.{derivation_view}
use Rattle.certificate_json.specs.Vocabulary.{are_steps_short, is_short}
use Rattle.derived_certificates.proofs.kept.has_short.Goals as goal

pub returns : goal.returns
returns c =
    let d = derivation_view c.args.part.now.derivation in
    and_from (are_steps_short d.lemmas) (is_short d.main) c.has_short_steps.ensures.0 c.has_short_steps.ensures.1
