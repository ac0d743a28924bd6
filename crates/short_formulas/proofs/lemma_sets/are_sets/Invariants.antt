use Rattle.std.proofs.Common.{◌≡◌, drop, map}
use Rattle.do_derivation.specs.Vocabulary.{are_sets, sets_of, lemma_view}
use Rattle.short_formulas.proofs.lemma_sets.are_sets.Given as goal

abbrev pub invariant-loop-lemma : goal.invariant-loop-lemma
invariant-loop-lemma l = are_sets l.n (sets_of (map lemma_view (drop l.lemma-index l.lemma-items))) ≡ are_sets l.n (sets_of (map lemma_view l.lemma-items))
