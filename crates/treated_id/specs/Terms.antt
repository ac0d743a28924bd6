-- The formula of an effect among the treated: a sum of a product of conditional probabilities, in which a treatment is read as observed exactly in the terms of
-- its own district (Shpitser and Pearl 2009; for the terms Tian and Pearl 2002).
use Rattle.std.specs.Prelude.{ℕ, ◌≡◌, ◌≢◌, ◌&&◌, ◌⊎◌, false, if◌then◌else◌, List, [], ◌∷◌, length, IsTrue}
use Rattle.mixed_graph.specs.Vocabulary.{has, MixedGraph, IsAncestor, union, minus, one, common, is_empty, IsOrder}
use Rattle.hedge.specs.Vocabulary.{IsDistrict, IsSetOf}
use Rattle.prob_expr.specs.Tree.{prob, tree}
use Rattle.prob_expr.specs.Vocabulary.{Trees, no_trees, PlainFormula}
use Rattle.treated_models.specs.Vocabulary.{prime_of}
use Rattle.do_derivation.specs.Vocabulary.{as_one}
use Rattle.identification_theory.specs.Vocabulary.{sum_if}
use Rattle.treated_id.specs.Sets.{AreAncestors}

-- the name by which u is read where the treatments in `seen` are as observed
abbrev pub name_of : (n x seen u : ℕ) → ℕ
name_of n x seen u = if has x u && has seen u then prime_of n x u else u

-- names holds the names of the members of a set
abbrev pub AreNames : (n x seen set names : ℕ) → Type 0
AreNames n x seen set names = IsSetOf names (λ k. (u : ℕ) × IsTrue (has set u) × (k ≡ name_of n x seen u))

-- u is a parent of a member of the set
abbrev pub IsParentOf : MixedGraph → ℕ → ℕ → Type 0
IsParentOf g set u = (v : ℕ) × IsTrue (has set v) × IsTrue (g.arrow u v)

-- The term of v in a set a: P(v | the others of its district in a, and their parents), with the treatments of the district as observed.
pub record IsTerm (g : MixedGraph) (x a v given : ℕ) : Type 0 where
  pub near : ℕ
  pub district : IsDistrict g a (one v) near
  pub pillow : ℕ
  pub is_pillow : IsSetOf pillow (λ u. (u ≢ v) × (IsTrue (has near u) ⊎ IsParentOf g near u))
  pub names : AreNames g.vertices x near pillow given

-- The terms of the members of s outside c, in the order; p has the vertices before the list. That of v is its term in c and the members of s up to v.
pub data AreTerms (g : MixedGraph) (x s c : ℕ) : ℕ → List ℕ → Trees → Type 0 where
  none : {p : ℕ} → AreTerms g x s c p [] no_trees
  skip : {p v : ℕ} {o : List ℕ} {ts : Trees} → has (minus s c) v ≡ false → AreTerms g x s c (union p (one v)) o ts → AreTerms g x s c p (v ∷ o) ts
  take : {p v given : ℕ} {o : List ℕ} {ts : Trees} → IsTrue (has (minus s c) v) → IsTerm g x (union c (common s (union p (one v)))) v given
      → AreTerms g x s c (union p (one v)) o ts → AreTerms g x s c p (v ∷ o) (tree (prob (one v) 0 given) ts)

-- behind P(rest of c | x and z as observed), where c has a rest
abbrev pub with_first : (rest given : ℕ) → Trees → Trees
with_first rest given ts = if is_empty rest then ts else tree (prob rest 0 given) ts

-- the formula of P(y under do(x) | x and z as observed), by this order
pub record IsFormulaBy (g : MixedGraph) (order : List ℕ) (x y z : ℕ) (f : PlainFormula) : Type 0 where
  -- the ancestors of y, x and z, and those of x and z alone
  pub s : ℕ
  pub are_s : AreAncestors g x y z s
  pub c : ℕ
  pub are_c : IsSetOf c (IsAncestor g (has (union x z)))
  pub terms : Trees
  pub are_terms : AreTerms g x s c 0 order terms
  pub given : ℕ
  pub are_given : AreNames g.vertices x x (union x z) given
  pub defs : f.defs ≡ []
  pub main : f.main ≡ sum_if (minus s (union (union x z) y)) (as_one (with_first (minus c (union x z)) given terms))

-- the same in the graph's order
pub record IsFormula (g : MixedGraph) (x y z : ℕ) (f : PlainFormula) : Type 0 where
  pub order : List ℕ
  pub is_order : IsOrder g order (length order)
  pub by : IsFormulaBy g order x y z f
