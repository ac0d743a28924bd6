-- The formula of an effect among the treated in parts: one formula for each district, which reads a treatment as it was observed where the treatment is in
-- the district, and else at the value that is set (Shpitser and Pearl 2009).
use Rattle.std.specs.Prelude.{ℕ, ◌≡◌, List, [], ◌∷◌}
use Rattle.mixed_graph.specs.Vocabulary.{has, MixedGraph, IsMixedGraph, IsAncestor, union, minus, common, all}
use Rattle.hedge.specs.Vocabulary.{AreDistrictsOf, IsSetOf}
use Rattle.fractions.specs.Vocabulary.{Fraction, div, IsEqual}
use Rattle.finite_models.specs.Vocabulary.{FiniteModel, Fits, IsAssignment, IsPositiveModel}
use Rattle.prob_expr.specs.Vocabulary.{effect_on, weights_of, add_over, term_value, EqualsEffect}
use Rattle.treated_models.specs.Vocabulary.{joined}
use Rattle.treated_models.specs.NoFormula.{among_at}
use Rattle.treated_id.specs.Vocabulary.{IsConfounded, IsTreatedTarget}
use Rattle.natural_id.specs.Vocabulary.{PlainPart, parts_value, districts_of}

-- the value of the formula: the product of the parts, summed over a set, over P(x, z), all as observed: x at t, and all else at s
abbrev pub treated_value : FiniteModel → (x z summed : ℕ) → List PlainPart → (s t : ℕ → ℕ) → Fraction
treated_value m x z summed ps s t = div
    (add_over (has summed) m.size m.vertices (parts_value m x ps s t) (joined (has x) s t))
    (term_value (weights_of m) (union x z) 0 0 (joined (has x) s t))

-- it is P(y under do(x) | x and z as observed) in each positive model of the graph, at each assignment, x set at s and observed at t
abbrev pub EqualsAmongParts : MixedGraph → (x y z summed : ℕ) → List PlainPart → Type 0
EqualsAmongParts g x y z summed ps = (m : FiniteModel) → Fits g m → IsPositiveModel m
    → (s t : ℕ → ℕ) → IsAssignment m.vertices m.size s → IsAssignment m.vertices m.size t
    → IsEqual (treated_value m x z summed ps s t) (among_at m x y z s t)

-- the formula of a part is right, and the part reads the treatments in its district as they were observed
pub record IsTreatedPart (g : MixedGraph) (x : ℕ) (p : PlainPart) : Type 0 where
  pub formula : EqualsEffect g (effect_on (minus (all g.vertices) p.district) p.district) p.formula
  pub reads : p.second ≡ common x p.district

-- and so is each of the parts
abbrev pub AreEachTreated : MixedGraph → (x : ℕ) → List PlainPart → Type 0
AreEachTreated g x [] = Unit {0}
AreEachTreated g x (p ∷ ps) = IsTreatedPart g x p × AreEachTreated g x ps

-- the parts are one for each district of the ancestors of y, x and z, and each is right
pub record AreTreatedParts (g : MixedGraph) (x y z a : ℕ) (ps : List PlainPart) : Type 0 where
  pub ancestors : IsSetOf a (IsAncestor g (has (union (union x z) y)))
  pub districts : AreDistrictsOf g a (districts_of ps)
  pub right : AreEachTreated g x ps

-- where no treatment is confounded with a child of its own, such parts equal the effect
abbrev pub TreatedPartsAreRight : Type 0
TreatedPartsAreRight = (g : MixedGraph) → IsMixedGraph g → (x y z a : ℕ) → IsTreatedTarget g x y z → (IsConfounded g x y z → ⊥)
    → (ps : List PlainPart) → AreTreatedParts g x y z a ps → EqualsAmongParts g x y z (minus a (union (union x z) y)) ps
