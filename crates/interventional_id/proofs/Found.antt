-- From what was found for the two effects to the answer.
use Rattle.std.proofs.Common.{ℕ}
use Rattle.mixed_graph.specs.Vocabulary.{MixedGraph}
use Rattle.prob_expr.specs.Vocabulary.{PlainFormula}
use Rattle.interventional_id.specs.Interventional.{on_mediators, on_outcome}
use Rattle.interventional_id.specs.Answers.{IsFormulaOf, AreFormulas}
use Rattle.interventional_id.proofs.Products.{formulas_give_interventional}

-- formulas of both effects give the interventional effect
pub both : (g : MixedGraph) (x m y z : ℕ) (f h : PlainFormula) → IsFormulaOf g (on_mediators x m z) f → IsFormulaOf g (on_outcome x m y z) h
    → AreFormulas g x m y z f h
both g x m y z f h first second = record {
  mediators = first;
  outcome = second;
  equals = formulas_give_interventional g x m y z f h first.effect second.effect;
}
