use Rattle.std.proofs.Common.{List, subst}
use Rattle.mixed_graph.specs.declared.sets.VSet.{VSet}
use Rattle.mixed_graph.specs.Vocabulary.{graph_of}
use Rattle.prob_expr.specs.Vocabulary.{masks_of, formula_view, target_view}
use Rattle.do_derivation.specs.Vocabulary.{derivation_view}
use Rattle.certificate.specs.Vocabulary.{hedge, hedge_view, formula}
use Rattle.check_command.specs.Right.{IsForText, of_formula, of_hedge}
use Rattle.check_command.proofs.Deciding.{is_faulty}
use Rattle.check_command.proofs.ReadFormulas.{read_sound}
use Rattle.check_command.proofs.reply.check_answer.Goals as goal

pub decide_formula-requires : goal.decide_formula-requires
decide_formula-requires c =
    let reads = rw c.in-Ok-Formula.field-0-is at c.in-Ok-Formula.ensures in
    let sound = read_sound c.args.seen.now.names c.args.certificate.now
    (formula (target_view c.in-Ok-Formula.target) (formula_view c.in-Ok-Formula.formula) (derivation_view c.in-Ok-Formula.derivation)) reads in
    record { target = sound.target; formula = sound.formula; derivation = sound.derivation }

pub returns-in_ok-answer-in-Ok-Formula-clause-answer : goal.returns-in_ok-answer-in-Ok-Formula-clause-answer
returns-in_ok-answer-in-Ok-Formula-clause-answer c =
    let reads = rw c.in-Ok-Formula.field-0-is at c.in-Ok-Formula.ensures in
    let seen = c.args.seen.now in
    subst (λ (l : List VSet). IsForText (graph_of seen.graph) seen.names (masks_of l) c.args.certificate.now c.in_ok-answer-in-Ok-Formula.answer)
    c.as_slice-sets.ensures.value
    (of_formula (target_view c.in-Ok-Formula.target) (formula_view c.in-Ok-Formula.formula) (derivation_view c.in-Ok-Formula.derivation)
    (record { small = c.requires; reads = reads }) c.in_ok-answer-in-Ok-Formula.ensures)

pub decide_hedge-requires : goal.decide_hedge-requires
decide_hedge-requires c =
    let reads = rw c.in-Ok-Hedge.field-0-is at c.in-Ok-Hedge.ensures in
    record {
      target = read_sound c.args.seen.now.names c.args.certificate.now (hedge (target_view c.in-Ok-Hedge.target) (hedge_view c.in-Ok-Hedge.hedge)) reads;
    }

pub returns-in-Ok-Hedge-clause-answer : goal.returns-in-Ok-Hedge-clause-answer
returns-in-Ok-Hedge-clause-answer c =
    let reads = rw c.in-Ok-Hedge.field-0-is at c.in-Ok-Hedge.ensures in
    let seen = c.args.seen.now in
    subst (λ (l : List VSet). IsForText (graph_of seen.graph) seen.names (masks_of l) c.args.certificate.now c.decide_hedge.result)
    c.as_slice-sets.ensures.value
    (of_hedge (target_view c.in-Ok-Hedge.target) c.in-Ok-Hedge.hedge c.decide_hedge.ensures.entries
    (record { small = c.requires; reads = reads }) c.decide_hedge.ensures.answer)

pub returns-in-Err-clause-fault : goal.returns-in-Err-clause-fault
returns-in-Err-clause-fault c = λ other. is_faulty c.args.seen.now.names c.args.certificate.now c.in-Err.fault c.requires c.in-Err.ensures other
