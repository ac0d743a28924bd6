use Rattle.std.proofs.Common.{List, map}
use Rattle.do_derivation.specs.declared.steps.Lemma.{Lemma}
use Rattle.do_derivation.specs.Vocabulary.{lemma_view}
use Rattle.certificate_json.specs.Kept.{are_steps_short}
use Rattle.certificate_json.specs.Certificates.{lemma_json}
use Rattle.certificate_json.proofs.Keeping.{IsOnTheWay}
use Rattle.certificate_json.proofs.formulas.push_lemmas.Given as goal

abbrev pub invariant-loop-lemma : goal.invariant-loop-lemma
invariant-loop-lemma l = IsOnTheWay (λ (lemmas : List Lemma). map (lemma_json l.names) (map lemma_view lemmas))
    (λ lemmas. are_steps_short (map lemma_view lemmas)) l.list.items l.lemma-index l.fn.object l.object
