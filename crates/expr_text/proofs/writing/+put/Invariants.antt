use Rattle.std.proofs.Common.{◌≡◌, ◌++◌, drop}
use Rattle.prob_expr.specs.Vocabulary.{views}
use Rattle.expr_text.specs.declared.writing.Place.TheVariants.{First}
use Rattle.expr_text.specs.Write.{factors_in}
use Rattle.expr_text.proofs.writing.+put.Given as goal

abbrev pub invariant-put_factors-loop-factor : goal.invariant-put_factors-loop-factor
invariant-put_factors-loop-factor l =
    l.out.items ++ factors_in l.writer.notation l.place l.writer.names.now (views (drop l.factor-index l.factor-items)) ≡ l.fn.out.items
    ++ factors_in l.writer.notation First l.writer.names.now (views l.factor-items)
