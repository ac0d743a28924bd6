use Rattle.std.proofs.Common.{ℕ, Bool, List, length, map, refl, ap, arith}
use Rattle.json.specs.Json.{Json}
use Rattle.do_derivation.specs.declared.steps.Lemma.{Lemma}
use Rattle.do_derivation.specs.Vocabulary.{lemma_view, step_view}
use Rattle.certificate_json.specs.StepSizes.{is_short}
use Rattle.certificate_json.specs.Kept.{are_steps_short}
use Rattle.certificate_json.specs.Certificates.{lemma_json}
use Rattle.certificate_json.proofs.Keeping.{next_written, all_written, all_short}
use Rattle.certificate_json.proofs.formulas.push_lemmas.Goals as goal

abbrev told : List (List ℕ) → List Lemma → List Json
told names lemmas = map (lemma_json names) (map lemma_view lemmas)

abbrev short : List Lemma → Bool
short lemmas = are_steps_short (map lemma_view lemmas)

pub loop-lemma-preserved : goal.loop-lemma-preserved
loop-lemma-preserved c =
    next_written (told c.args.names.now) (λ l. lemma_json c.args.names.now (lemma_view l)) (λ x xs. refl) short (λ l. is_short (step_view l.step))
    (λ x xs. refl) c.args.list.now.items c.loop-lemma.lemma-index c.args.object.now _ c.lemma-item.result c.lemma-item.result c.loop-lemma.object c.push_lemma.new.object
    c.deref-lemma-items.ensures.value c.loop-lemma-test.true c.lemma-item.is
    c.in_ok-push_lemma.ensures.written c.in_ok-push_lemma.ensures.short c.loop-lemma.invariant

pub returns-clause-written : goal.returns-clause-written
returns-clause-written c = all_written (told c.args.names.now) short c.args.list.now.items c.loop-lemma.lemma-index c.args.object.now c.loop-lemma.object refl
    (let e = ap length c.deref-lemma-items.ensures.value in omega arith) c.loop-lemma.invariant

pub returns-clause-short : goal.returns-clause-short
returns-clause-short c = all_short (told c.args.names.now) short c.args.list.now.items c.loop-lemma.lemma-index c.args.object.now c.loop-lemma.object refl
    (let e = ap length c.deref-lemma-items.ensures.value in omega arith) c.loop-lemma.invariant
