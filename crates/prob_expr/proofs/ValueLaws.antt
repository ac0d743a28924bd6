-- Values in a positive model are positive, and equal parts have equal values.
use Rattle.std.proofs.Common.{ℕ, suc, Bool, true, false, cond, eqb, refl, ◌||◌, List, [], ◌∷◌, arith}
use Rattle.mixed_graph.specs.Vocabulary.{has, MixedGraph, IsMixedGraph}
use Rattle.fractions.specs.Vocabulary.{Fraction, over, IsEqual, IsPositive}
use Rattle.fractions.proofs.FractionLaws.{mul_positive, div_positive, div_equal, equal_refl}
use Rattle.finite_models.specs.Vocabulary.{FiniteModel, Fits, IsAssignment, IsPositiveModel}
use Rattle.finite_models.proofs.Following.{follows_of}
use Rattle.finite_models.proofs.Positive.{positive_weight}
use Rattle.prob_expr.specs.Tree.{Tree, prob, sum, product, quotient, named, Trees, no_trees, tree, PlainFormula}
use Rattle.prob_expr.specs.Values.{weights_of, term_value, value, product_value, values_from, value_of}
use Rattle.prob_expr.specs.Laws.{ValuesArePositive, EffectsArePositive}
use Rattle.prob_expr.proofs.Boxes.{assignment_set, add_over_positive, add_over_equal}

-- in a positive model that fits the graph
module _ (g : MixedGraph) (ok : IsMixedGraph g) (m : FiniteModel) (fit : Fits g m) (positive : IsPositiveModel m) where
  -- each term has a positive value at each assignment
  pub term_positive : (a b c : ℕ) (s : ℕ → ℕ) → IsAssignment m.vertices m.size s → IsPositive (term_value (weights_of m) a b c s)
  term_positive a b c s w = record {
    top = positive_weight g m ok (follows_of g m fit) positive (has b) (λ v. has a v || has c v) s w;
    bottom = positive_weight g m ok (follows_of g m fit) positive (has b) (has c) s w;
  }

  -- the values of the definitions are positive at each assignment
  abbrev pub ArePositive : (ℕ → (ℕ → ℕ) → Fraction) → Type 0
  ArePositive q = (k : ℕ) (s : ℕ → ℕ) → IsAssignment m.vertices m.size s → IsPositive (q k s)

  module _ (q : ℕ → (ℕ → ℕ) → Fraction) (definitions : ArePositive q) where
    mutual
      -- where the definitions have positive values, so has each expression
      pub value_positive : (e : Tree) (s : ℕ → ℕ) → IsAssignment m.vertices m.size s → IsPositive (value (weights_of m) q e s)
      value_positive (prob a b c) s w = term_positive a b c s w
      value_positive (sum u e) s w =
          add_over_positive (has u) m.size (IsAssignment m.vertices m.size) m.vertices (value (weights_of m) q e) s fit.positive_size
          (λ c i x il ui xl p. assignment_set m.vertices m.size c i x xl p) w (λ c p. value_positive e c p)
      value_positive (product ts) s w = product_positive ts s w
      value_positive (quotient x y) s w = div_positive (value (weights_of m) q x s) (value (weights_of m) q y s) (value_positive x s w) (value_positive y s w)
      value_positive (named k) s w = definitions k s w

      -- and so has each product of expressions
      pub product_positive : (ts : Trees) (s : ℕ → ℕ) → IsAssignment m.vertices m.size s → IsPositive (product_value (weights_of m) q ts s)
      product_positive no_trees s w = record { top = omega arith; bottom = omega arith }
      product_positive (tree t ts) s w = mul_positive (value (weights_of m) q t s) (product_value (weights_of m) q ts s) (value_positive t s w)
          (product_positive ts s w)

  -- the definitions' values stay positive where definition k gets the value of an expression over them
  pub next_positive : (k : ℕ) (q : ℕ → (ℕ → ℕ) → Fraction) (d : Tree) → ArePositive q → ArePositive (λ j s. cond (eqb j k) (value (weights_of m) q d s) (q j s))
  next_positive k q d h j s w = go (eqb j k) (value (weights_of m) q d s) (q j s) (value_positive q h d s w) (h j s w)
    where
      go : (b : Bool) (x y : Fraction) → IsPositive x → IsPositive y → IsPositive (cond b x y)
      go true x y p r = p
      go false x y p r = r

  pub definitions_positive : (ds : List Tree) (k : ℕ) (q : ℕ → (ℕ → ℕ) → Fraction) → ArePositive q → ArePositive (values_from (weights_of m) q k ds)
  definitions_positive [] k q h = h
  definitions_positive (d ∷ ds) k q h = definitions_positive ds (suc k) (λ j s. cond (eqb j k) (value (weights_of m) q d s) (q j s)) (next_positive k q d h)

  -- each formula has a positive value at each assignment
  pub formula_positive : (f : PlainFormula) (s : ℕ → ℕ) → IsAssignment m.vertices m.size s → IsPositive (value_of (weights_of m) f s)
  formula_positive f s w =
      value_positive (values_from (weights_of m) (λ j s. over 1 1) 0 f.defs)
      (definitions_positive f.defs 0 (λ j s. over 1 1) (λ k s w. record { top = omega arith; bottom = omega arith })) f.main s w

-- in a positive model that fits a graph the value of each formula is a fraction above 0
pub values_are_positive : ValuesArePositive
values_are_positive = λ g ok m fit positive f s w. formula_positive g ok m fit positive f s w

pub effects_are_positive : EffectsArePositive
effects_are_positive = λ g ok m fit positive t s w. term_positive g ok m fit positive t.y t.x t.given s w

-- the same value at each assignment
abbrev pub IsSame : FiniteModel → (ℕ → (ℕ → ℕ) → Fraction) → Tree → Tree → Type 0
IsSame m q e e' = (s : ℕ → ℕ) → IsAssignment m.vertices m.size s → IsEqual (value (weights_of m) q e s) (value (weights_of m) q e' s)

-- sums over one set have the same value where what they sum has
pub sum_same : (m : FiniteModel) (q : ℕ → (ℕ → ℕ) → Fraction) (u : ℕ) (e e' : Tree) → IsSame m q e e' → IsSame m q (sum u e) (sum u e')
sum_same m q u e e' h s w =
    add_over_equal (has u) m.size (IsAssignment m.vertices m.size) m.vertices m.size (value (weights_of m) q e) (value (weights_of m) q e') s (λ i lt. refl)
    (λ c i x il ui xl p. assignment_set m.vertices m.size c i x xl p) w (λ c p. h c p)

-- quotients with one positive bottom have the same value where their tops have
pub top_same : (m : FiniteModel) (q : ℕ → (ℕ → ℕ) → Fraction) (e e' y : Tree)
    → ((s : ℕ → ℕ) → IsAssignment m.vertices m.size s → IsPositive (value (weights_of m) q y s)) → IsSame m q e e' → IsSame m q (quotient e y) (quotient e' y)
top_same m q e e' y p h s w =
    div_equal (value (weights_of m) q e s) (value (weights_of m) q e' s) (value (weights_of m) q y s) (value (weights_of m) q y s) (p s w).top (h s w)
    (equal_refl (value (weights_of m) q y s) (p s w).bottom)

-- quotients with one positive top have the same value where their positive bottoms have
pub bottom_same : (m : FiniteModel) (q : ℕ → (ℕ → ℕ) → Fraction) (x e e' : Tree)
    → ((s : ℕ → ℕ) → IsAssignment m.vertices m.size s → IsPositive (value (weights_of m) q x s))
    → ((s : ℕ → ℕ) → IsAssignment m.vertices m.size s → IsPositive (value (weights_of m) q e s)) → IsSame m q e e' → IsSame m q (quotient x e) (quotient x e')
bottom_same m q x e e' p r h s w =
    div_equal (value (weights_of m) q x s) (value (weights_of m) q x s) (value (weights_of m) q e s) (value (weights_of m) q e' s) (r s w).top
    (equal_refl (value (weights_of m) q x s) (p s w).bottom) (h s w)
