use Rattle.std.proofs.Common.{◌+◌, drop, refl, sym, ap, ◌∙◌, arith}
use Rattle.mixed_graph.specs.Vocabulary.{union}
use Rattle.prob_expr.specs.Tree.{prob}
use Rattle.prob_expr.specs.Vocabulary.{views}
use Rattle.do_derivation.specs.Shapes.{chained, appended}
use Rattle.do_derivation.proofs.Views.{view-Prob}
use Rattle.do_derivation.proofs.Walks
use Rattle.do_derivation.proofs.term_moves.chained.Goals as goal

pub loop-v-preserved : goal.loop-v-preserved
loop-v-preserved c =
    ap (λ es. appended (views es) (chained c.args.doing.bits c.union-known.result.bits (drop (c.loop-v.v-index + 1) c.args.list.now)))
    c.in_ok-push.ensures.items
    ∙ Walks.chained_step c.loop-v.factors.items c.args.doing.bits c.loop-v.known.bits c.union-known.result.bits c.args.list.now c.loop-v.v-index _ (omega arith)
    (view-Prob c.one-of.result c.args.doing c.loop-v.known ∙ ap (λ o. prob o c.args.doing.bits c.loop-v.known.bits) c.one-of.ensures.mask)
    (c.union-known.ensures.mask ∙ ap (λ o. union c.loop-v.known.bits o) c.one-of.ensures.mask)
    ∙ c.loop-v.invariant

pub returns : goal.returns
returns c =
    sym (Walks.walk_end (λ l. chained c.args.doing.bits c.loop-v.known.bits l) c.loop-v.factors.items c.args.list.now c.loop-v.v-index (omega arith) refl)
    ∙ c.loop-v.invariant
