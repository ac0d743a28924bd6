use Rattle.std.proofs.Common.{◌≡◌, drop, map}
use Rattle.do_derivation.specs.Vocabulary.{lemma_view}
use Rattle.identification_theory.specs.Vocabulary.{are_lemmas_within}
use Rattle.short_formulas.proofs.depths.are_lemmas_within.Given as goal

abbrev pub invariant-loop-lemma : goal.invariant-loop-lemma
invariant-loop-lemma l = are_lemmas_within l.d (map lemma_view (drop l.lemma-index l.lemma-items)) ≡ are_lemmas_within l.d (map lemma_view l.lemma-items)
