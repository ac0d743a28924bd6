use Rattle.std.proofs.Common.{◌≡◌, ◌++◌, drop, map}
use Rattle.prob_expr.specs.View.{view}
use Rattle.expr_text.specs.Write.{defs_in}
use Rattle.expr_text.proofs.writing.put_defs.Given as goal

abbrev pub invariant-loop-def : goal.invariant-loop-def
invariant-loop-def l = record {
  index : l.k ≡ l.def-index;
  told : l.out.items ++ defs_in l.writer.notation l.writer.names.now l.k (map view (drop l.def-index l.def-items)) ≡ l.fn.out.items
      ++ defs_in l.writer.notation l.writer.names.now 0 (map view l.def-items);
}
