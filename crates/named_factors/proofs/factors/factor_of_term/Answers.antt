use Rattle.std.proofs.Common.{◌∙◌, ◌&&◌, ap, ap₂, map, List}
use Rattle.mixed_graph.specs.Vocabulary.{has}
use Rattle.prob_expr.specs.Tree.{Tree}
use Rattle.prob_expr.specs.View.{view}
use Rattle.prob_expr.specs.declared.expr.Expr.{Expr}
use Rattle.prob_expr.specs.Vocabulary.{PlainFormula}
use Rattle.count_eval.proofs.Variants.{view-Prob}
use Rattle.treated_models.specs.Vocabulary.{prime_of}
use Rattle.named_factors.proofs.factors.factor_of_term.Goals as goal

abbrev made : List Tree → Tree → PlainFormula
made ds e = record { defs = ds; main = e }

pub returns : goal.returns
returns c = record {
  of = c.vertices_of.result.bits;
  are_of = c.vertices_of.ensures;
  given = c.vertices_of-2.result.bits;
  are_given = c.vertices_of-2.ensures;
  formula = ap₂ (λ ds (e : Tree). made ds e) (ap (λ (es : List Expr). map view es) c.new.ensures.items)
      (view-Prob c.vertices_of.result (record { bits = 0 }) c.vertices_of-2.result);
  second = λ v. c.seen_of.ensures v ∙ ap (λ b. has c.args.x.bits v && b) (c.union.ensures.members (prime_of c.args.n c.args.x.bits v));
}
