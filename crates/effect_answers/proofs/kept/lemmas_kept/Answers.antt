use Rattle.std.proofs.Common.{Bool, List, length, map, refl, ap, arith}
use Rattle.do_derivation.specs.declared.steps.Lemma.{Lemma}
use Rattle.do_derivation.specs.Vocabulary.{lemma_view, step_view}
use Rattle.certificate_json.specs.Vocabulary.{is_short, are_steps_short}
use Rattle.effect_answers.proofs.Keeping.{next_kept, all_kept}
use Rattle.effect_answers.proofs.kept.lemmas_kept.Goals as goal

abbrev short : List Lemma → Bool
short lemmas = are_steps_short (map lemma_view lemmas)

pub loop-lemma-preserved : goal.loop-lemma-preserved
loop-lemma-preserved c =
    next_kept short (λ l. is_short (step_view l.step)) (λ x xs. refl) c.args.lemmas.now.items _ c.loop-lemma.lemma-index c.lemma-item.result
    c.deref-lemma-items.ensures.value c.loop-lemma-test.true c.lemma-item.is
    c.step_kept.ensures c.loop-lemma.invariant

pub returns : goal.returns
returns c = all_kept short refl c.args.lemmas.now.items c.loop-lemma.lemma-index (let e = ap length c.deref-lemma-items.ensures.value in omega arith)
    c.loop-lemma.invariant
