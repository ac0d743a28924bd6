use Rattle.std.proofs.Common.{◌≡◌, drop, map, []}
use Rattle.serde_json.specs.View.{items_view}
use Rattle.do_derivation.specs.Vocabulary.{lemma_view}
use Rattle.step_json.specs.Vocabulary.{each}
use Rattle.certificate.specs.Reading.{lemma_in}
use Rattle.certificate.proofs.formulas.each_lemma.Given as goal

abbrev pub invariant-loop-d : goal.invariant-loop-d
invariant-loop-d l = each (lemma_in l.names) (map lemma_view l.all.items) (items_view (drop l.d-index l.ds)) ≡ each (lemma_in l.names) [] (items_view l.ds)
