use Rattle.std.proofs.Common.{◌≡◌, drop, map}
use Rattle.do_derivation.specs.Vocabulary.{lemma_view}
use Rattle.certificate_json.specs.Vocabulary.{are_steps_short}
use Rattle.effect_answers.proofs.kept.lemmas_kept.Given as goal

abbrev pub invariant-loop-lemma : goal.invariant-loop-lemma
invariant-loop-lemma l = are_steps_short (map lemma_view (drop l.lemma-index l.lemmas.items)) ≡ are_steps_short (map lemma_view l.lemmas.items)
