use Rattle.std.proofs.Common.{refl, sym, subst}
use Rattle.mixed_graph.specs.Vocabulary.{has, graph_of}
use Rattle.m_separation.specs.Vocabulary.{IsSeparated}
use Rattle.implications.specs.Separable.{only}
use Rattle.implications.proofs.Cuts.{open_without, apart_without, next_cut}
use Rattle.implications.proofs.Thinning.{rest_of, rest_is, step_dropped, step_kept}
use Rattle.implications.proofs.sets.without.Goals as goal

pub returns-then-is_needed-clause-step : goal.returns-then-is_needed-clause-step
returns-then-is_needed-clause-step c =
    step_kept (graph_of c.args.g.now) c.args.pair.a c.args.pair.b c.args.v (has c.args.cut.kept.bits) (rest_of (has c.args.cut.kept.bits) c.args.v)
    (sym c.if-not-has.ensures) refl (open_without (graph_of c.args.g.now) c.args.g.now.valid c.args.pair c.requires.a c.requires.b c.requires.above c.args.cut
    c.requires.cut c.args.v (sym c.if-not-has.ensures) c.if-is_needed.ensures.both.0 c.if-is_needed.ensures.both.1)

pub returns-clause-step : goal.returns-clause-step
returns-clause-step c =
    let e = rest_is (has c.args.cut.kept.bits) (has c.difference.result.bits) (has c.one.result.bits) c.args.v c.difference.ensures.members
    c.one.ensures.members in
    step_dropped (graph_of c.args.g.now) c.args.pair.a c.args.pair.b c.args.v (has c.args.cut.kept.bits) (has c.difference.result.bits) e
    (subst (λ f. IsSeparated (graph_of c.args.g.now) (only c.args.pair.a) (only c.args.pair.b) f) (sym e)
    (apart_without (graph_of c.args.g.now) c.args.g.now.valid c.args.pair c.requires.a c.requires.b c.requires.above c.args.cut
    c.requires.cut c.args.v (sym c.if-not-has.ensures) c.if-is_needed.ensures.one))

pub returns-clause-cut : goal.returns-clause-cut
returns-clause-cut c =
    let e = rest_is (has c.args.cut.kept.bits) (has c.difference.result.bits) (has c.one.result.bits) c.args.v c.difference.ensures.members
    c.one.ensures.members in
    next_cut (graph_of c.args.g.now) c.args.g.now.valid c.args.pair c.requires.a c.requires.b c.requires.above c.args.cut
    c.requires.cut c.args.v (sym c.if-not-has.ensures)
    (record { kept = c.difference.result; first = c.grown.result; second = c.grown-2.result }) e c.grown.ensures c.grown-2.ensures
    (apart_without (graph_of c.args.g.now) c.args.g.now.valid c.args.pair c.requires.a c.requires.b c.requires.above c.args.cut
    c.requires.cut c.args.v (sym c.if-not-has.ensures) c.if-is_needed.ensures.one)
