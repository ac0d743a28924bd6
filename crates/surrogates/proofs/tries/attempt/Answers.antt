use Rattle.std.proofs.Common.{inl, sym, ◌∙◌, arith}
use Rattle.mixed_graph.specs.Vocabulary.{graph_of}
use Rattle.surrogates.proofs.Passing.{passed_ok}
use Rattle.surrogates.proofs.tries.attempt.Goals as goal

pub returns-then-not-is_apart : goal.returns-then-not-is_apart
returns-then-not-is_apart c = inl (sym c.is_apart.ensures ∙ grind (arith, c.if-not-is_apart.true))

pub factor_without-requires-clause-apart : goal.factor_without-requires-clause-apart
factor_without-requires-clause-apart c = sym c.is_apart.ensures ∙ grind (arith, c.if-not-is_apart.false)

pub returns-in-Ok : goal.returns-in-Ok
returns-in-Ok c = (sym c.is_apart.ensures ∙ grind (arith, c.if-not-is_apart.false), c.in-Ok.ensures.tried)

pub returns-in-Err : goal.returns-in-Err
returns-in-Err c = passed_ok (graph_of c.args.g.now) c.args.z.bits c.args.c.bits c.args.first
    (sym c.is_apart.ensures ∙ grind (arith, c.if-not-is_apart.false)) c.in-Err.fault c.in-Err.ensures.fault c.passed.result c.passed.ensures
