use Rattle.mixed_graph.specs.Vocabulary.{graph_of}
use Rattle.prob_expr.specs.Vocabulary.{formula_view}
use Rattle.steps_command.proofs.Deriving.{is_asked_term, is_derived, is_explained}
use Rattle.steps_command.proofs.reply.parts_of.Goals as goal

pub explain-requires : goal.explain-requires
explain-requires c =
    let q = graph_of c.args.seen.now.graph in
    let e = c.args.formula.now in
    record {
      target = is_asked_term q e c.in-Some.derivation c.in-Some.is c.requires;
      derived = (formula_view e.formula, is_derived q e c.in-Some.derivation c.in-Some.is c.requires);
    }

pub returns : goal.returns
returns c = is_explained (graph_of c.args.seen.now.graph) c.args.formula.now c.in-Some.derivation c.in-Some.is c.requires
    c.explain.result c.explain.ensures
