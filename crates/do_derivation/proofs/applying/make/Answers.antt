use Rattle.std.proofs.Common.{sym, ap, subst}
use Rattle.mixed_graph.specs.Vocabulary.{graph_of}
use Rattle.prob_expr.specs.Vocabulary.{masks_of}
use Rattle.prob_expr.specs.View.{view}
use Rattle.do_derivation.specs.Applied.{IsRow}
use Rattle.do_derivation.specs.Table.{row}
use Rattle.do_derivation.specs.View.{move_view}
use Rattle.do_derivation.proofs.applying.make.Goals as goal

pub returns-in-WithSet : goal.returns-in-WithSet
returns-in-WithSet c =
    record {
      row = subst (λ m. IsRow (graph_of c.args.g.now) (row c.args.g.now.n (masks_of c.args.lemmas.now) m (view c.args.e)) c.make_with_set.result)
          (sym (ap move_view c.in-WithSet.is)) (c.make_with_set.ensures.row (masks_of c.args.lemmas.now));
    }

pub returns-in-Bare : goal.returns-in-Bare
returns-in-Bare c =
    record {
      row = subst (λ m. IsRow (graph_of c.args.g.now) (row c.args.g.now.n (masks_of c.args.lemmas.now) m (view c.args.e)) c.make_bare.result)
          (sym (ap move_view c.in-Bare.is)) (c.make_bare.ensures.row (masks_of c.args.lemmas.now));
    }
