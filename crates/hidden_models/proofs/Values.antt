-- The value of a formula depends on the values of the vertices alone, where the weights of events do.
use Rattle.std.proofs.Common.{ℕ, suc, ◌≡◌, ◌<◌, Bool, true, false, cond, eqb, nat_lt, refl, ap₂, ◌||◌, List, [], ◌∷◌, lt-ltb, ltb-true}
use Rattle.mixed_graph.specs.Vocabulary.{has}
use Rattle.fractions.specs.Vocabulary.{Fraction, over, mul, div}
use Rattle.prob_expr.specs.Tree.{Tree, prob, sum, product, quotient, named, tree}
use Rattle.prob_expr.specs.Vocabulary.{Trees, no_trees, PlainFormula, Weights, value, product_value, values_from, value_of}
use Rattle.prob_expr.proofs.FreeLaws.{sum_reads}

-- the vertices have the same values
abbrev pub AreSameBelow : ℕ → (s t : ℕ → ℕ) → Type 0
AreSameBelow n s t = (v : ℕ) → v < n → s v ≡ t v

module _ (w : Weights) (depends : (b a : ℕ → Bool) (s t : ℕ → ℕ) → AreSameBelow w.vertices s t → w.weight b a s ≡ w.weight b a t) where
  abbrev AreDependent : (ℕ → (ℕ → ℕ) → Fraction) → Type 0
  AreDependent q = (k : ℕ) (s t : ℕ → ℕ) → AreSameBelow w.vertices s t → q k s ≡ q k t

  module _ (q : ℕ → (ℕ → ℕ) → Fraction) (definitions : AreDependent q) where
    mutual
      tree_depends : (e : Tree) (s t : ℕ → ℕ) → AreSameBelow w.vertices s t → value w q e s ≡ value w q e t
      tree_depends (prob a b c) s t h = ap₂ over (depends (has b) (λ v. has a v || has c v) s t h) (depends (has b) (has c) s t h)
      tree_depends (sum u e) s t h =
          sum_reads (has u) w.size (λ v. nat_lt v w.vertices) (value w q e) (λ c d same. tree_depends e c d (λ v vl. same v (lt-ltb v w.vertices vl)))
          w.vertices s t
          (λ v below out. h v (ltb-true v w.vertices below))
      tree_depends (product ts) s t h = trees_depend ts s t h
      tree_depends (quotient x y) s t h = ap₂ div (tree_depends x s t h) (tree_depends y s t h)
      tree_depends (named k) s t h = definitions k s t h

      trees_depend : (ts : Trees) (s t : ℕ → ℕ) → AreSameBelow w.vertices s t → product_value w q ts s ≡ product_value w q ts t
      trees_depend no_trees s t h = refl
      trees_depend (tree e ts) s t h = ap₂ mul (tree_depends e s t h) (trees_depend ts s t h)

  definitions_depend : (ds : List Tree) (k : ℕ) (q : ℕ → (ℕ → ℕ) → Fraction) → AreDependent q → AreDependent (values_from w q k ds)
  definitions_depend [] k q h = h
  definitions_depend (d ∷ ds) k q h =
      definitions_depend ds (suc k) (λ j s. cond (eqb j k) (value w q d s) (q j s)) (λ j s t same. go (eqb j k) j s t same)
    where
      go : (p : Bool) (j : ℕ) (s t : ℕ → ℕ) → AreSameBelow w.vertices s t → cond p (value w q d s) (q j s) ≡ cond p (value w q d t) (q j t)
      go true j s t same = tree_depends q h d s t same
      go false j s t same = h j s t same

  pub value_depends : (f : PlainFormula) (s t : ℕ → ℕ) → AreSameBelow w.vertices s t → value_of w f s ≡ value_of w f t
  value_depends f s t h =
      tree_depends (values_from w (λ j c. over 1 1) 0 f.defs) (definitions_depend f.defs 0 (λ j c. over 1 1) (λ j c d same. refl)) f.main s t h
