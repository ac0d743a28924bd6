use Rattle.std.proofs.Common.{◌≡◌, ◌<◌, ◌+◌, sym, Err, drop, subst, arith, length}
use Rattle.prob_expr.specs.View.{view, views}
use Rattle.prob_expr.specs.Tree.{tree}
use Rattle.prob_expr.specs.Fold.{Meaning, FoldsFirst, FoldsNext}
use Rattle.prob_expr.proofs.Views.{views_more}
use Rattle.prob_expr.proofs.Walks.{sum_good, sum_bad, view-Sum, top_bad, bottom_bad, quotient_good, view-Quotient, first_bad, start_bad, started}
use Rattle.prob_expr.proofs.Walks.{next_bad, factor_bad, next_good, some_factor, first_has, next_has}
use Rattle.prob_expr.proofs.folding.+fold.Goals as goal

pub fold-returns-in-Ok : goal.fold-returns-in-Ok
fold-returns-in-Ok g t c =
    let M : Meaning g.row.F.Denot g.row.F-Out.Denot g.row.F-Fault.Denot =
    record {
      prob_does = g.F.Fold.prob_does;
      sum_does = g.F.Fold.sum_does;
      start_does = g.F.Fold.start_does;
      factor_does = g.F.Fold.factor_does;
      quotient_does = g.F.Fold.quotient_does;
      named_does = g.F.Fold.named_does;
    } in
    rw (c.in-Sum.is, view-Sum, ← c.deref.ensures) (sum_good M c.in-Sum.over.bits (view c.deref.result.now)
    c.args.f.now c.fold.new.f c.sum.new.self c.in-Ok.body c.sum.result c.in-Ok.ensures c.sum.ensures)

pub fold-returns-in-Err : goal.fold-returns-in-Err
fold-returns-in-Err g t c =
    let M : Meaning g.row.F.Denot g.row.F-Out.Denot g.row.F-Fault.Denot =
    record {
      prob_does = g.F.Fold.prob_does;
      sum_does = g.F.Fold.sum_does;
      start_does = g.F.Fold.start_does;
      factor_does = g.F.Fold.factor_does;
      quotient_does = g.F.Fold.quotient_does;
      named_does = g.F.Fold.named_does;
    } in
    rw (c.in-Sum.is, view-Sum, ← c.deref.ensures) (sum_bad M c.in-Sum.over.bits (view c.deref.result.now)
    c.args.f.now c.fold.new.f c.in-Err.fault c.in-Err.ensures)

pub fold-returns-in-Err-fold : goal.fold-returns-in-Err-fold
fold-returns-in-Err-fold g t c =
    let M : Meaning g.row.F.Denot g.row.F-Out.Denot g.row.F-Fault.Denot =
    record {
      prob_does = g.F.Fold.prob_does;
      sum_does = g.F.Fold.sum_does;
      start_does = g.F.Fold.start_does;
      factor_does = g.F.Fold.factor_does;
      quotient_does = g.F.Fold.quotient_does;
      named_does = g.F.Fold.named_does;
    } in
    rw (c.in-Quotient.is, view-Quotient, ← c.deref-in-Quotient.ensures)
    (top_bad M (view c.deref-in-Quotient.result.now) (view c.in-Quotient.bottom.value)
    c.args.f.now c.fold-in-Quotient.new.f c.in-Err-fold.fault c.in-Err-fold.ensures)

pub fold-returns-in-Err-fold-2 : goal.fold-returns-in-Err-fold-2
fold-returns-in-Err-fold-2 g t c =
    let M : Meaning g.row.F.Denot g.row.F-Out.Denot g.row.F-Fault.Denot =
    record {
      prob_does = g.F.Fold.prob_does;
      sum_does = g.F.Fold.sum_does;
      start_does = g.F.Fold.start_does;
      factor_does = g.F.Fold.factor_does;
      quotient_does = g.F.Fold.quotient_does;
      named_does = g.F.Fold.named_does;
    } in
    rw (c.in-Quotient.is, view-Quotient, ← c.deref-in-Quotient.ensures, ← c.deref-in-Quotient-2.ensures)
    (bottom_bad M (view c.deref-in-Quotient.result.now) (view c.deref-in-Quotient-2.result.now)
    c.args.f.now c.fold-in-Quotient.new.f c.fold-in-Quotient-2.new.f c.in-Ok-fold.top c.in-Err-fold-2.fault c.in-Ok-fold.ensures c.in-Err-fold-2.ensures)

pub fold-returns-in-Ok-fold-2 : goal.fold-returns-in-Ok-fold-2
fold-returns-in-Ok-fold-2 g t c =
    let M : Meaning g.row.F.Denot g.row.F-Out.Denot g.row.F-Fault.Denot =
    record {
      prob_does = g.F.Fold.prob_does;
      sum_does = g.F.Fold.sum_does;
      start_does = g.F.Fold.start_does;
      factor_does = g.F.Fold.factor_does;
      quotient_does = g.F.Fold.quotient_does;
      named_does = g.F.Fold.named_does;
    } in
    rw (c.in-Quotient.is, view-Quotient, ← c.deref-in-Quotient.ensures, ← c.deref-in-Quotient-2.ensures)
    (quotient_good M (view c.deref-in-Quotient.result.now) (view c.deref-in-Quotient-2.result.now)
    c.args.f.now c.fold-in-Quotient.new.f c.fold-in-Quotient-2.new.f c.quotient.new.self c.in-Ok-fold.top c.in-Ok-fold-2.bottom c.quotient.result
    c.in-Ok-fold.ensures c.in-Ok-fold-2.ensures c.quotient.ensures)

pub fold_factors-returns-in-Err : goal.fold_factors-returns-in-Err
fold_factors-returns-in-Err g t c =
    let M : Meaning g.row.F.Denot g.row.F-Out.Denot g.row.F-Fault.Denot =
    record {
      prob_does = g.F.Fold.prob_does;
      sum_does = g.F.Fold.sum_does;
      start_does = g.F.Fold.start_does;
      factor_does = g.F.Fold.factor_does;
      quotient_does = g.F.Fold.quotient_does;
      named_does = g.F.Fold.named_does;
    } in
    let some : 0 < length c.args.factors.now.items = some_factor c.args.factors.now.items c.requires in
    let more : views c.args.factors.now.items ≡ tree (view c.index.result.now) (views (drop 1 c.args.factors.now.items)) =
    views_more c.args.factors.now.items 0 c.index.result.now some c.index.ensures in
    subst (λ ts. FoldsFirst M ts c.args.f.now (Err c.in-Err.fault) c.fold.new.f) (sym more)
    (first_bad M (view c.index.result.now) (views (drop 1 c.args.factors.now.items)) c.args.f.now c.fold.new.f c.in-Err.fault c.in-Err.ensures)

pub fold_factors-returns-in-Err-start : goal.fold_factors-returns-in-Err-start
fold_factors-returns-in-Err-start g t c =
    let M : Meaning g.row.F.Denot g.row.F-Out.Denot g.row.F-Fault.Denot =
    record {
      prob_does = g.F.Fold.prob_does;
      sum_does = g.F.Fold.sum_does;
      start_does = g.F.Fold.start_does;
      factor_does = g.F.Fold.factor_does;
      quotient_does = g.F.Fold.quotient_does;
      named_does = g.F.Fold.named_does;
    } in
    let some : 0 < length c.args.factors.now.items = some_factor c.args.factors.now.items c.requires in
    let more : views c.args.factors.now.items ≡ tree (view c.index.result.now) (views (drop 1 c.args.factors.now.items)) =
    views_more c.args.factors.now.items 0 c.index.result.now some c.index.ensures in
    subst (λ ts. FoldsFirst M ts c.args.f.now (Err c.in-Err-start.fault) c.start.new.self) (sym more)
    (start_bad M (view c.index.result.now) (views (drop 1 c.args.factors.now.items))
    c.args.f.now c.fold.new.f c.start.new.self c.in-Ok.first c.in-Err-start.fault c.in-Ok.ensures c.in-Err-start.ensures)

pub fold_factors-loop-i-init : goal.fold_factors-loop-i-init
fold_factors-loop-i-init g t c =
    let M : Meaning g.row.F.Denot g.row.F-Out.Denot g.row.F-Fault.Denot =
    record {
      prob_does = g.F.Fold.prob_does;
      sum_does = g.F.Fold.sum_does;
      start_does = g.F.Fold.start_does;
      factor_does = g.F.Fold.factor_does;
      quotient_does = g.F.Fold.quotient_does;
      named_does = g.F.Fold.named_does;
    } in
    let some : 0 < length c.args.factors.now.items = some_factor c.args.factors.now.items c.requires in
    let more : views c.args.factors.now.items ≡ tree (view c.index.result.now) (views (drop 1 c.args.factors.now.items)) =
    views_more c.args.factors.now.items 0 c.index.result.now some c.index.ensures in
    record {
      has = first_has c.args.factors.now.items c.index.result.now more c.requires;
      rest = λ r new n. subst (λ ts. FoldsFirst M ts c.args.f.now r new) (sym more)
          (started M (view c.index.result.now) (views (drop 1 c.args.factors.now.items))
          c.args.f.now c.fold.new.f c.start.new.self new c.in-Ok.first c.in-Ok-start.so_far r c.in-Ok.ensures c.in-Ok-start.ensures n);
    }

pub fold_factors-returns-in-Err-fold : goal.fold_factors-returns-in-Err-fold
fold_factors-returns-in-Err-fold g t c =
    let M : Meaning g.row.F.Denot g.row.F-Out.Denot g.row.F-Fault.Denot =
    record {
      prob_does = g.F.Fold.prob_does;
      sum_does = g.F.Fold.sum_does;
      start_does = g.F.Fold.start_does;
      factor_does = g.F.Fold.factor_does;
      quotient_does = g.F.Fold.quotient_does;
      named_does = g.F.Fold.named_does;
    } in
    let more : views (drop c.loop-i.i c.args.factors.now.items) ≡ tree (view c.index-in-loop-i.result.now)
    (views (drop (c.loop-i.i + 1) c.args.factors.now.items)) = views_more c.args.factors.now.items c.loop-i.i c.index-in-loop-i.result.now (omega arith)
    c.index-in-loop-i.ensures in
    let later = views (drop (c.loop-i.i + 1) c.args.factors.now.items) in
    c.loop-i.invariant.rest (Err c.in-Err-fold.fault) c.fold-in-loop-i.new.f
    (subst (λ ts. FoldsNext M c.loop-i.so_far ts c.loop-i.f (Err c.in-Err-fold.fault) c.fold-in-loop-i.new.f) (sym more)
    (next_bad M c.loop-i.so_far (view c.index-in-loop-i.result.now) later c.loop-i.f c.fold-in-loop-i.new.f c.in-Err-fold.fault c.in-Err-fold.ensures))

pub fold_factors-returns-in-Err-factor : goal.fold_factors-returns-in-Err-factor
fold_factors-returns-in-Err-factor g t c =
    let M : Meaning g.row.F.Denot g.row.F-Out.Denot g.row.F-Fault.Denot =
    record {
      prob_does = g.F.Fold.prob_does;
      sum_does = g.F.Fold.sum_does;
      start_does = g.F.Fold.start_does;
      factor_does = g.F.Fold.factor_does;
      quotient_does = g.F.Fold.quotient_does;
      named_does = g.F.Fold.named_does;
    } in
    let more : views (drop c.loop-i.i c.args.factors.now.items) ≡ tree (view c.index-in-loop-i.result.now)
    (views (drop (c.loop-i.i + 1) c.args.factors.now.items)) = views_more c.args.factors.now.items c.loop-i.i c.index-in-loop-i.result.now (omega arith)
    c.index-in-loop-i.ensures in
    let later = views (drop (c.loop-i.i + 1) c.args.factors.now.items) in
    c.loop-i.invariant.rest (Err c.in-Err-factor.fault) c.factor.new.self
    (subst (λ ts. FoldsNext M c.loop-i.so_far ts c.loop-i.f (Err c.in-Err-factor.fault) c.factor.new.self) (sym more)
    (factor_bad M c.loop-i.so_far (view c.index-in-loop-i.result.now)
    later c.loop-i.f c.fold-in-loop-i.new.f c.factor.new.self c.in-Ok-fold.next c.in-Err-factor.fault c.in-Ok-fold.ensures c.in-Err-factor.ensures))

pub fold_factors-loop-i-preserved : goal.fold_factors-loop-i-preserved
fold_factors-loop-i-preserved g t c =
    let M : Meaning g.row.F.Denot g.row.F-Out.Denot g.row.F-Fault.Denot =
    record {
      prob_does = g.F.Fold.prob_does;
      sum_does = g.F.Fold.sum_does;
      start_does = g.F.Fold.start_does;
      factor_does = g.F.Fold.factor_does;
      quotient_does = g.F.Fold.quotient_does;
      named_does = g.F.Fold.named_does;
    } in
    let more : views (drop c.loop-i.i c.args.factors.now.items) ≡ tree (view c.index-in-loop-i.result.now)
    (views (drop (c.loop-i.i + 1) c.args.factors.now.items)) = views_more c.args.factors.now.items c.loop-i.i c.index-in-loop-i.result.now (omega arith)
    c.index-in-loop-i.ensures in
    let later = views (drop (c.loop-i.i + 1) c.args.factors.now.items) in
    record {
      has = next_has c.args.factors.now.items c.loop-i.i c.index-in-loop-i.result.now more c.loop-i.invariant.has;
      rest = λ r new n. c.loop-i.invariant.rest r new (subst (λ ts. FoldsNext M c.loop-i.so_far ts c.loop-i.f r new) (sym more)
          (next_good M c.loop-i.so_far (view c.index-in-loop-i.result.now)
          later c.loop-i.f c.fold-in-loop-i.new.f c.factor.new.self new c.in-Ok-fold.next c.in-Ok-factor.more r c.in-Ok-fold.ensures c.in-Ok-factor.ensures n));
    }
