-- What is assembled of the factors over experiments is the formula with its derivation.
use Rattle.std.proofs.Common.{ℕ, List, map, refl, sym, subst}
use Rattle.hedge.specs.Vocabulary.{AreDistricts}
use Rattle.mixed_graph.specs.Vocabulary.{MixedGraph, all, minus}
use Rattle.prob_expr.specs.Vocabulary.{PlainFormula, views}
use Rattle.prob_expr.specs.View.{view}
use Rattle.do_derivation.specs.Vocabulary.{PlainDerivation}
use Rattle.identification_theory.specs.Vocabulary.{AreAncestorsIn}
use Rattle.identify.specs.declared.wanted.Wanted.TheVariants.{Derivation}
use Rattle.identify.specs.Vocabulary.{AreAssembled, lists_view}
use Rattle.identify.specs.declared.answer.Factors.{Factors}
use Rattle.surrogates.specs.Surrogates.{AreDerivedWith, IsComposedBySteps}
use Rattle.surrogates.specs.Gathered.{AreFactorsWith}

pub by_steps : (g : MixedGraph) (zs order ts : List ℕ) (x y d : ℕ) (made : Factors) → AreAncestorsIn g (minus (all g.vertices) x) y d
    → AreDistricts g d 0 order ts → AreFactorsWith g zs ts made
    → (f : PlainFormula) (t : PlainDerivation) → AreAssembled Derivation g.vertices order ts x y d made f t → IsComposedBySteps g order zs x y f t
by_steps g zs order ts x y d made is_d districts of f t a = record {
  split = record { d = d; is_d = is_d; districts = ts; are_districts = districts };
  factors = views made.values.items;
  lists = lists_view made.lists.items;
  are_derived = subst (λ z. AreDerivedWith g zs 0 ts z (views made.values.items) t.lemmas (lists_view made.lists.items)) (sym a.defs)
      (subst (λ z. AreDerivedWith g zs 0 ts (map view made.defs.items) (views made.values.items) z (lists_view made.lists.items)) (sym a.lemmas) of.derived);
  main = a.main;
  steps = a.steps refl;
}
