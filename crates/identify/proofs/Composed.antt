-- What is assembled of the factors of the procedure is its formula with its derivation.
use Rattle.std.proofs.Common.{ℕ, ◌≡◌, ◌≤◌, ◌*◌, List, length, sym, ap, subst, arith}
use Rattle.std.proofs.lemmas.List.{length-map}
use Rattle.mixed_graph.specs.Vocabulary.{MixedGraph, minus, all}
use Rattle.hedge.specs.Vocabulary.{AreDistricts}
use Rattle.prob_expr.specs.Vocabulary.{PlainFormula, views}
use Rattle.prob_expr.specs.View.{view}
use Rattle.do_derivation.specs.Vocabulary.{PlainDerivation}
use Rattle.identification_theory.specs.Vocabulary.{AreAncestorsIn, AreFactored, IsComposed, AreAllSteps, IsComposedAndDerived}
use Rattle.identify.specs.declared.wanted.Wanted.{Wanted}
use Rattle.identify.specs.declared.wanted.Wanted.TheVariants.{Derivation}
use Rattle.identify.specs.Factored.{AreFactorsOf, AreAssembled}
use Rattle.identify.specs.Lists.{lists_view}
use Rattle.identify.specs.declared.answer.Factors.{Factors}

pub without_steps : (wanted : Wanted) (g : MixedGraph) (order ts : List ℕ) (x y d : ℕ) (made : Factors) → AreAncestorsIn g (minus (all g.vertices) x) y d
    → AreDistricts g d 0 order ts → AreFactorsOf wanted g order ts made
    → (f : PlainFormula) (t : PlainDerivation) → AreAssembled wanted g.vertices order ts x y d made f t → IsComposed g order x y f
without_steps wanted g order ts x y d made is_d districts of f t a = record {
  split = record { d = d; is_d = is_d; districts = ts; are_districts = districts };
  factors = views made.values.items;
  are_factored = subst (λ z. AreFactored g order 0 ts z (views made.values.items)) (sym a.defs) of.formulas;
  main = a.main;
}

pub with_steps : (wanted : Wanted) (g : MixedGraph) (order ts : List ℕ) (x y d : ℕ) (made : Factors) → AreAncestorsIn g (minus (all g.vertices) x) y d
    → AreDistricts g d 0 order ts → AreFactorsOf wanted g order ts made
    → (f : PlainFormula) (t : PlainDerivation) → AreAssembled wanted g.vertices order ts x y d made f t → wanted ≡ Derivation
    → IsComposedAndDerived g order x y f t
unfolding without_steps
with_steps wanted g order ts x y d made is_d districts of f t a w = record {
  composed = without_steps wanted g order ts x y d made is_d districts of f t a;
  lists = lists_view made.lists.items;
  are = subst (λ z. AreAllSteps g order 0 ts z (lists_view made.lists.items)) (sym a.lemmas) (of.steps w);
  main = a.steps w;
}

-- it has the definitions of the factors
pub few_defs : (wanted : Wanted) (n : ℕ) (order ts : List ℕ) (x y d : ℕ) (made : Factors) → length made.defs.items ≤ 64 * length ts
    → (f : PlainFormula) (t : PlainDerivation) → AreAssembled wanted n order ts x y d made f t → length f.defs ≤ 64 * length ts
few_defs wanted n order ts x y d made few f t a = (let e = ap length a.defs in let l = length-map made.defs.items view in omega (arith, few, e, l))
