use Rattle.std.proofs.Common.{sym, ◌∙◌}
use Rattle.std.proofs.lemmas.List.{length-map}
use Rattle.mixed_graph.specs.Vocabulary.{graph_of}
use Rattle.prob_expr.specs.Vocabulary.{masks_of, formula_view, target_view}
use Rattle.do_derivation.specs.Vocabulary.{lemma_view, derivation_view}
use Rattle.check_command.proofs.Deciding.{refused_decided}
use Rattle.check_command.proofs.formula.decide_formula.Goals as goal

pub returns-in-Err : goal.returns-in-Err
returns-in-Err c = refused_decided (graph_of c.args.seen.now.graph) (masks_of c.args.experiments.now) (target_view c.args.target)
    (formula_view c.args.formula) (derivation_view c.args.derivation) c.len.result c.in-Err.fault
    (c.len.ensures ∙ c.args.derivation.lemmas.ok.0 ∙ sym (length-map c.args.derivation.lemmas.items lemma_view))
    c.in-Err.ensures.fault c.refused.result c.refused.ensures.answer c.refused.ensures.memory
