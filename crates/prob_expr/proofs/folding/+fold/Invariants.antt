use Rattle.std.proofs.Common.{◌≡◌, true, drop, Result}
use Rattle.prob_expr.specs.View.{views}
use Rattle.prob_expr.specs.Fold.{Meaning, FoldsFirst, FoldsNext, each_has}
use Rattle.prob_expr.proofs.folding.+fold.Given as goal

-- what the factors left make of the answer so far, all make of the state at first
abbrev pub invariant-fold_factors-loop-i : goal.invariant-fold_factors-loop-i
invariant-fold_factors-loop-i g l =
    let M : Meaning g.row.F.Denot g.row.F-Out.Denot g.row.F-Fault.Denot =
    record {
      prob_does = g.F.Fold.prob_does;
      sum_does = g.F.Fold.sum_does;
      start_does = g.F.Fold.start_does;
      factor_does = g.F.Fold.factor_does;
      quotient_does = g.F.Fold.quotient_does;
      named_does = g.F.Fold.named_does;
    } in
    record {
      has : each_has (views (drop l.i l.factors.items)) ≡ true;
      rest : (r : Result g.row.F-Out.Denot g.row.F-Fault.Denot) (new : g.row.F.Denot) → FoldsNext M l.so_far (views (drop l.i l.factors.items)) l.f r new
          → FoldsFirst M (views l.factors.items) l.fn.f r new;
    }
