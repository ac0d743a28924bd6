-- The identification of an effect P(y | do(x)): the procedure ID of Shpitser and Pearl (2006), on the districts (c-components) of Tian and Pearl (2002).
use Rattle.std.specs.Prelude.{ℕ, suc, ◌+◌, ◌≡◌, ◌≢◌, ◌<◌, ◌⊎◌, false, if◌then◌else◌, List, [], ◌∷◌, ◌++◌, length, ◌==◌, IsTrue}
use Rattle.mixed_graph.specs.Vocabulary.{has, MixedGraph, IsAncestor, induced, IsOrder, union, minus, one, all, is_empty, common}
use Rattle.hedge.specs.Vocabulary.{IsLinked, IsSetOf, IsDistrict, AreDistricts}
use Rattle.prob_expr.specs.Tree.{Tree, prob, sum, product, quotient, named, tree}
use Rattle.prob_expr.specs.Vocabulary.{Trees, no_trees, PlainFormula}
use Rattle.do_derivation.specs.Vocabulary.{as_one, flat}

-- a is the set of the ancestors of s in the graph induced on u
abbrev pub AreAncestorsIn : MixedGraph → (u s a : ℕ) → Type 0
AreAncestorsIn g u s a = IsSetOf a (IsAncestor (induced g (has u)) (has s))

-- u is a parent of a vertex with P
pub record IsParent (g : MixedGraph) (P : ℕ → Type 0) (u : ℕ) : Type 0 where
  pub child : ℕ
  pub arrow : IsTrue (g.arrow u child)
  pub within : P child

-- u is in the district of v in s
abbrev pub IsNear : MixedGraph → (s v u : ℕ) → Type 0
IsNear g s v u = IsLinked g (has s) (λ w. w == v) u

-- m is the pillow of v in s: the district of v in s and the parents in s of its members, without v
abbrev pub IsPillow : MixedGraph → (s v m : ℕ) → Type 0
IsPillow g s v m = IsSetOf m (λ u. (u ≢ v) × (IsNear g s v u ⊎ (IsTrue (has s u) × IsParent g (IsNear g s v) u)))

-- The distribution that a factor is read from: that under an intervention on a set, which for the empty set is the observed one; or definition k.
pub data Source : Type 0 where
  Under : ℕ → Source
  Defined : ℕ → Source

-- the sum over a set, where it isn't empty
abbrev pub sum_if : ℕ → Tree → Tree
sum_if s e = if is_empty s then e else sum s e

-- definition k, a distribution of the set a, summed down to u
abbrev pub marginal : (k a u : ℕ) → Tree
marginal k a u = sum_if (minus a u) (named k)

-- P(v | m) in the source: a term, or a quotient of two sums of a definition
abbrev pub conditional : Source → (a v m : ℕ) → Tree
conditional (Source.Under z) a v m = prob (one v) z m
conditional (Source.Defined k) a v m = if is_empty m then marginal k a (one v) else quotient (marginal k a (union m (one v))) (marginal k a m)

-- The factors P(v | pillow of v) of the members of t, in the order; p has the vertices before the list. The pillow is that in the members of a up to v.
pub data AreFactors (g : MixedGraph) (from : Source) (a t : ℕ) : ℕ → List ℕ → Trees → Type 0 where
  none : {p : ℕ} → AreFactors g from a t p [] no_trees
  skip : {p v : ℕ} {o : List ℕ} {fs : Trees} → has t v ≡ false → AreFactors g from a t (union p (one v)) o fs → AreFactors g from a t p (v ∷ o) fs
  take : {p v m : ℕ} {o : List ℕ} {fs : Trees} → IsTrue (has t v) → IsPillow g (union (common a p) (one v)) v m
      → AreFactors g from a t (union p (one v)) o fs → AreFactors g from a t p (v ∷ o) (tree (conditional from a v m) fs)

-- the product of these factors over the whole order: the factor Q[t] of a district t of a
pub record IsBody (g : MixedGraph) (order : List ℕ) (from : Source) (a t : ℕ) (e : Tree) : Type 0 where
  pub factors : Trees
  pub are : AreFactors g from a t 0 order factors
  pub is : e ≡ as_one factors

-- The factor Q[c], from the source of a set a that holds c, where the definitions below k are made: these further definitions, and an expression.
-- With t the district of c in a and a2 the ancestors of c in t: it is Q[t] itself where t is c (line 6 of the algorithm); the sum of Q[t] down to c
-- where a2 is c (lines 2 and 6);
-- else the sum of Q[t] down to a2 is definition k, and the factor is that from a2 and definition k (line 7, then line 2).
pub data IsFactor (g : MixedGraph) (order : List ℕ) (c : ℕ) : (a : ℕ) (from : Source) (k : ℕ) → List Tree → Tree → Type 0 where
  whole : {a k : ℕ} {from : Source} {e : Tree} → IsDistrict g a c c → IsBody g order from a c e → IsFactor g order c a from k [] e
  summed : {a t k : ℕ} {from : Source} {e : Tree} → IsDistrict g a c t → t ≢ c → AreAncestorsIn g t c c → IsBody g order from a t e
      → IsFactor g order c a from k [] (sum (minus t c) e)
  further : {a t a2 k : ℕ} {from : Source} {b e : Tree} {ds : List Tree} → IsDistrict g a c t → t ≢ c → AreAncestorsIn g t c a2 → a2 ≢ t → a2 ≢ c
      → IsBody g order from a t b
      → IsFactor g order c a2 (Source.Defined k) (suc k) ds e → IsFactor g order c a from k (sum (minus t a2) b ∷ ds) e

-- the factor of c, from the set a on, stops at a district t of c that isn't c and all of which leads to c (line 5)
pub data IsStopped (g : MixedGraph) (c : ℕ) : (a t : ℕ) → Type 0 where
  here : {a t : ℕ} → IsDistrict g a c t → t ≢ c → AreAncestorsIn g t c t → IsStopped g c a t
  later : {a t a2 big : ℕ} → IsDistrict g a c t → t ≢ c → AreAncestorsIn g t c a2 → a2 ≢ t → a2 ≢ c → IsStopped g c a2 big → IsStopped g c a big

-- the factors of these districts, each from its ancestors and the observed distribution, and their definitions from number k on
pub data AreFactored (g : MixedGraph) (order : List ℕ) : (k : ℕ) → List ℕ → List Tree → Trees → Type 0 where
  none : {k : ℕ} → AreFactored g order k [] [] no_trees
  next : {k c a : ℕ} {cs : List ℕ} {ds es : List Tree} {e : Tree} {fs : Trees} → AreAncestorsIn g (all g.vertices) c a
      → IsFactor g order c a (Source.Under 0) k ds e
      → AreFactored g order (k + length ds) cs es fs → AreFactored g order k (c ∷ cs) (ds ++ es) (tree e fs)

-- one factor as it is; several as a product, in which a factor that is a product is replaced by its factors
abbrev pub product_of : Trees → Tree
product_of no_trees = product no_trees
product_of (tree e no_trees) = e
product_of (tree e (tree f fs)) = product (flat (tree e (tree f fs)))

-- what leads to y is split: d, the ancestors of y once x is left out, and its districts in the order
pub record Split (g : MixedGraph) (order : List ℕ) (x y : ℕ) : Type 0 where
  pub d : ℕ
  pub is_d : AreAncestorsIn g (minus (all g.vertices) x) y d
  pub districts : List ℕ
  pub are_districts : AreDistricts g d 0 order districts

-- The formula: the product of the factors of the districts of d, summed down to y (lines 3 and 4).
pub record IsComposed (g : MixedGraph) (order : List ℕ) (x y : ℕ) (f : PlainFormula) : Type 0 where
  pub split : Split g order x y
  pub factors : Trees
  pub are_factored : AreFactored g order 0 split.districts f.defs factors
  pub main : f.main ≡ sum_if (minus split.d y) (product_of factors)

-- the first district, in the order, whose factor stops, and where
pub data StopsAt (g : MixedGraph) (order : List ℕ) : (k : ℕ) → List ℕ → (small big : ℕ) → Type 0 where
  first : {k c a big : ℕ} {cs : List ℕ} → AreAncestorsIn g (all g.vertices) c a → IsStopped g c a big → StopsAt g order k (c ∷ cs) c big
  after : {k c a small big : ℕ} {cs : List ℕ} {ds : List Tree} {e : Tree} → AreAncestorsIn g (all g.vertices) c a → IsFactor g order c a (Source.Under 0) k ds e
      → StopsAt g order (k + length ds) cs small big → StopsAt g order k (c ∷ cs) small big

-- by this order of the vertices the effect has that formula: P(y) where x is empty (line 1), else the composed one
abbrev pub IsIdentifiedBy : MixedGraph → List ℕ → (x y : ℕ) → PlainFormula → Type 0
IsIdentifiedBy g order x y f = ((x ≡ 0) × (f ≡ record { defs = []; main = prob y 0 0 })) ⊎ ((x ≢ 0) × IsComposed g order x y f)

-- by this order the procedure stops at the district `small` of d, inside `big`
pub record IsUnidentifiedBy (g : MixedGraph) (order : List ℕ) (x y small big : ℕ) : Type 0 where
  pub split : Split g order x y
  pub stops : StopsAt g order 0 split.districts small big

-- the formula that the procedure answers for P(y | do(x)), in the graph's order
pub record IsIdentified (g : MixedGraph) (x y : ℕ) (f : PlainFormula) : Type 0 where
  pub order : List ℕ
  pub is_order : IsOrder g order (length order)
  pub answer : IsIdentifiedBy g order x y f

-- the two sets at which the procedure stops for P(y | do(x)), in the graph's order
pub record IsUnidentified (g : MixedGraph) (x y small big : ℕ) : Type 0 where
  pub order : List ℕ
  pub is_order : IsOrder g order (length order)
  pub stop : IsUnidentifiedBy g order x y small big

-- x and y are sets of vertices without a common member, and y isn't empty
pub record IsTarget (g : MixedGraph) (x y : ℕ) : Type 0 where
  pub x_low : (u : ℕ) → IsTrue (has x u) → u < g.vertices
  pub y_low : (u : ℕ) → IsTrue (has y u) → u < g.vertices
  pub off : (u : ℕ) → IsTrue (has x u) → IsTrue (has y u) → ⊥
  pub some : ℕ
  pub some_in : IsTrue (has y some)
