-- Effects over surrogate experiments (Bareinboim and Pearl 2012): beside the observed distribution there are those under interventions on some sets,
-- the experiments.
-- The factor of a district may be read from any of them that leaves the district alone.
use Rattle.std.specs.Prelude.{ℕ, ◌+◌, ◌≡◌, ◌≢◌, ◌⊎◌, false, List, [], ◌∷◌, ◌++◌, length, IsTrue}
use Rattle.mixed_graph.specs.Vocabulary.{has, MixedGraph, induced, IsOrder, minus, all, is_apart}
use Rattle.hedge.specs.Vocabulary.{AreSetsOfHedge}
use Rattle.prob_expr.specs.Vocabulary.{is_listed, Trees, no_trees, PlainFormula}
use Rattle.prob_expr.specs.Tree.{prob, Tree, tree}
use Rattle.do_derivation.specs.Plans.{Plan, Plans}
use Rattle.do_derivation.specs.Vocabulary.{no_plans, PlainLemma, PlainDerivation}
use Rattle.identification_theory.specs.Vocabulary.{AreAncestorsIn, Source, IsFactor, IsStopped, Split, product_of, sum_if, Lists, no_more, more, AreFactorSteps, district_steps, main_steps}

-- the graph without the edges at z, whose members stay as vertices
abbrev pub without : MixedGraph → ℕ → MixedGraph
without g z = induced g (has (minus (all g.vertices) z))

-- The factor of c, read from the distribution under an intervention on z: that of the procedure in the graph without z and by that graph's order,
-- with definitions from number k on.
pub record IsFactorUnder (g : MixedGraph) (z c k : ℕ) (ds : List Tree) (e : Tree) : Type 0 where
  pub a : ℕ
  pub ancestors : AreAncestorsIn (without g z) (all g.vertices) c a
  pub order : List ℕ
  pub is_order : IsOrder (without g z) order (length order)
  pub factor : IsFactor (without g z) order c a (Source.Under z) k ds e

-- the same with its derivation: the lemmas of its definitions, and its steps
pub record IsDerivedUnder (g : MixedGraph) (z c k : ℕ) (ds : List Tree) (e : Tree) (ls : List PlainLemma) (l : Plans) : Type 0 where
  pub made : IsFactorUnder g z c k ds e
  pub steps : AreFactorSteps (without g z) made.order c made.a (Source.Under z) k ls l

-- under an intervention on z the factor of c stops, inside big
pub record IsStoppedUnder (g : MixedGraph) (z c big : ℕ) : Type 0 where
  pub a : ℕ
  pub ancestors : AreAncestorsIn (without g z) (all g.vertices) c a
  pub stop : IsStopped (without g z) c a big

-- z stands in the list and is apart from c; each set before it meets c, or stops the factor of c
pub data ComesFirst (g : MixedGraph) (c z : ℕ) : List ℕ → Type 0 where
  here : {zs : List ℕ} → IsTrue (is_apart z c) → ComesFirst g c z (z ∷ zs)
  meets : {w : ℕ} {zs : List ℕ} → is_apart w c ≡ false → ComesFirst g c z zs → ComesFirst g c z (w ∷ zs)
  stops : {w big : ℕ} {zs : List ℕ} → IsTrue (is_apart w c) → IsStoppedUnder g w c big → ComesFirst g c z zs → ComesFirst g c z (w ∷ zs)

-- under each set of the list that is apart from c the factor of c stops
abbrev pub AllStop : MixedGraph → ℕ → List ℕ → Type 0
AllStop g c zs = (z : ℕ) → IsTrue (is_listed z zs) → IsTrue (is_apart z c) → (big : ℕ) × IsStoppedUnder g z c big

-- The factors of these districts, with definitions from number k on: each under the first of no experiment and the experiments in turn that leaves
-- the district alone and doesn't stop.
pub data AreFactoredWith (g : MixedGraph) (zs : List ℕ) : (k : ℕ) → List ℕ → List Tree → Trees → Type 0 where
  none : {k : ℕ} → AreFactoredWith g zs k [] [] no_trees
  next : {k c z : ℕ} {cs : List ℕ} {ds es : List Tree} {e : Tree} {fs : Trees} → ComesFirst g c z (0 ∷ zs) → IsFactorUnder g z c k ds e
      → AreFactoredWith g zs (k + length ds) cs es fs → AreFactoredWith g zs k (c ∷ cs) (ds ++ es) (tree e fs)

-- the same with their derivations
pub data AreDerivedWith (g : MixedGraph) (zs : List ℕ) : (k : ℕ) → List ℕ → List Tree → Trees → List PlainLemma → Lists → Type 0 where
  none : {k : ℕ} → AreDerivedWith g zs k [] [] no_trees [] no_more
  next : {k c z : ℕ} {cs : List ℕ} {ds es : List Tree} {e : Tree} {fs : Trees} {ls more_ls : List PlainLemma} {l : Plans} {lists : Lists}
      → ComesFirst g c z (0 ∷ zs) → IsDerivedUnder g z c k ds e ls l
      → AreDerivedWith g zs (k + length ds) cs es fs more_ls lists → AreDerivedWith g zs k (c ∷ cs) (ds ++ es) (tree e fs) (ls ++ more_ls) (more l lists)

-- the formula: with d the ancestors of y once x is left out, the product of the factors of the districts of d, summed down to y
pub record IsComposedOver (g : MixedGraph) (order zs : List ℕ) (x y : ℕ) (f : PlainFormula) : Type 0 where
  pub split : Split g order x y
  pub factors : Trees
  pub are_factored : AreFactoredWith g zs 0 split.districts f.defs factors
  pub main : f.main ≡ sum_if (minus split.d y) (product_of factors)

-- the formula over experiments: P(y) where x is empty, else the composed one
pub record IsSurrogate (g : MixedGraph) (zs : List ℕ) (x y : ℕ) (f : PlainFormula) : Type 0 where
  pub order : List ℕ
  pub is_order : IsOrder g order (length order)
  pub answer : ((x ≡ 0) × (f ≡ record { defs = []; main = prob y 0 0 })) ⊎ ((x ≢ 0) × IsComposedOver g order zs x y f)

-- the composed formula with its derivation
pub record IsComposedBySteps (g : MixedGraph) (order zs : List ℕ) (x y : ℕ) (f : PlainFormula) (t : PlainDerivation) : Type 0 where
  pub split : Split g order x y
  pub factors : Trees
  pub lists : Lists
  pub are_derived : AreDerivedWith g zs 0 split.districts f.defs factors t.lemmas lists
  pub main : f.main ≡ sum_if (minus split.d y) (product_of factors)
  pub steps : t.main ≡ Plan.Then (main_steps g.vertices x y split.d (district_steps order split.d split.districts lists factors))

-- the formula over experiments and its derivation, which for an empty x has no step
pub record IsSurrogateBySteps (g : MixedGraph) (zs : List ℕ) (x y : ℕ) (f : PlainFormula) (t : PlainDerivation) : Type 0 where
  pub order : List ℕ
  pub is_order : IsOrder g order (length order)
  pub answer : ((x ≡ 0) × (f ≡ record { defs = []; main = prob y 0 0 }) × (t ≡ record { lemmas = []; main = Plan.Then no_plans }))
      ⊎ ((x ≢ 0) × IsComposedBySteps g order zs x y f t)

-- the first of the districts whose factor stops without experiment and under each that leaves it alone; `big` is where it stops without
pub data StopsWith (g : MixedGraph) (zs : List ℕ) : (k : ℕ) → List ℕ → (small big : ℕ) → Type 0 where
  first : {k c big : ℕ} {cs : List ℕ} → IsStoppedUnder g 0 c big → AllStop g c zs → StopsWith g zs k (c ∷ cs) c big
  after : {k c z small big : ℕ} {cs : List ℕ} {ds : List Tree} {e : Tree} → ComesFirst g c z (0 ∷ zs) → IsFactorUnder g z c k ds e
      → StopsWith g zs (k + length ds) cs small big → StopsWith g zs k (c ∷ cs) small big

-- the procedure over experiments stops at the district `small`
pub record IsStoppedWith (g : MixedGraph) (zs : List ℕ) (x y small big : ℕ) : Type 0 where
  pub order : List ℕ
  pub is_order : IsOrder g order (length order)
  pub split : Split g order x y
  pub stops : StopsWith g zs 0 split.districts small big

-- ---- what blocks a district

-- the sets of some hedge for the effect of x on y
pub record SomeHedge (g : MixedGraph) (x y : ℕ) : Type 0 where
  pub big : ℕ
  pub small : ℕ
  pub roots : ℕ
  pub hedge : AreSetsOfHedge g x y big small roots

-- for no experiment, and for each experiment z that leaves c alone, there is a hedge for the effect of all other vertices on c in the graph without z
abbrev pub IsBlocked : MixedGraph → List ℕ → ℕ → Type 0
IsBlocked g zs c = (z : ℕ) → IsTrue (is_listed z (0 ∷ zs)) → IsTrue (is_apart z c) → SomeHedge (without g z) (minus (minus (all g.vertices) z) c) c

-- c is one of the list
abbrev pub IsAmong : ℕ → List ℕ → Type 0
IsAmong c [] = ⊥
IsAmong c (t ∷ ts) = (c ≡ t) ⊎ IsAmong c ts

-- c is a district of what leads to y once x is left out
pub record IsDistrictFor (g : MixedGraph) (x y c : ℕ) : Type 0 where
  pub order : List ℕ
  pub is_order : IsOrder g order (length order)
  pub split : Split g order x y
  pub among : IsAmong c split.districts

-- c is the first blocked one of the list
pub data IsFirstBlocked (g : MixedGraph) (zs : List ℕ) (c : ℕ) : List ℕ → Type 0 where
  here : {cs : List ℕ} → IsBlocked g zs c → IsFirstBlocked g zs c (c ∷ cs)
  after : {t : ℕ} {cs : List ℕ} → (IsBlocked g zs t → ⊥) → IsFirstBlocked g zs c cs → IsFirstBlocked g zs c (t ∷ cs)

-- c is the first blocked district, in the graph's order, of what leads to y once x is left out
pub record IsFirstBlockedFor (g : MixedGraph) (zs : List ℕ) (x y c : ℕ) : Type 0 where
  pub order : List ℕ
  pub is_order : IsOrder g order (length order)
  pub split : Split g order x y
  pub first : IsFirstBlocked g zs c split.districts

-- some district is blocked
pub record SomeBlocked (g : MixedGraph) (zs : List ℕ) (x y : ℕ) : Type 0 where
  pub district : ℕ
  pub is_district : IsDistrictFor g x y district
  pub blocked : IsBlocked g zs district
