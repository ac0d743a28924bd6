-- The formula of a nested effect: one formula for each district, which reads one value of each treatment.
use Rattle.std.specs.Prelude.{ℕ, ◌≡◌, ◌<◌, ◌↔◌, true, None, if◌then◌else◌, List, [], ◌∷◌, IsTrue}
use Rattle.mixed_graph.specs.Vocabulary.{has, MixedGraph, IsMixedGraph, IsAncestor, union, minus, all}
use Rattle.hedge.specs.Vocabulary.{AreDistrictsOf, IsSetOf}
use Rattle.fractions.specs.Vocabulary.{Fraction, over, mul, div, IsEqual}
use Rattle.finite_models.specs.Vocabulary.{FiniteModel, Fits, IsAssignment, IsPositiveModel}
use Rattle.prob_expr.specs.Vocabulary.{fault_in, is_do_free, PlainFormula, effect_on, weights_of, value_of, add_over, term_value, EqualsEffect}
use Rattle.identification_theory.specs.Vocabulary.{AreAncestorsIn, FormulaNamesOnly, IsIdentified}
use Rattle.nested_models.specs.Vocabulary.{nested_effect, IsNestedQuery, LeadsThrough, IsRecantingWitness}

-- a district, the treatments that it reads at their second values, and the formula of P(district | do(all other vertices))
pub record PlainPart : Type 0 where
  pub district : ℕ
  pub second : ℕ
  pub formula : PlainFormula

-- the product of the values of the parts at c, each with x at the values that it reads
abbrev pub parts_value : FiniteModel → (x : ℕ) → List PlainPart → (s t c : ℕ → ℕ) → Fraction
parts_value w x [] s t c = over 1 1
parts_value w x (p ∷ ps) s t c =
    mul (value_of (weights_of w) p.formula (λ v. if has x v then (if has p.second v then t v else s v) else c v)) (parts_value w x ps s t c)

-- the value of the formula: that product, summed over a set, over P(z)
abbrev pub natural_value : FiniteModel → (x z summed : ℕ) → List PlainPart → (s t : ℕ → ℕ) → Fraction
natural_value w x z summed ps s t = div (add_over (has summed) w.size w.vertices (parts_value w x ps s t) s) (term_value (weights_of w) z 0 0 s)

-- it is P(y[x, m[x']] | z) in each positive model of the graph, at each assignment, x at s and x' at t
abbrev pub EqualsNatural : MixedGraph → (x m y z summed : ℕ) → List PlainPart → Type 0
EqualsNatural g x m y z summed ps = (w : FiniteModel) → Fits g w → IsPositiveModel w
    → (s t : ℕ → ℕ) → IsAssignment w.vertices w.size s → IsAssignment w.vertices w.size t
    → IsEqual (natural_value w x z summed ps s t) (nested_effect w (has x) (has m) (has y) (has z) s t)

-- the formula of a part is right, and the part reads the second value of a treatment exactly where its children of that lead to y through m
pub record IsRightPart (g : MixedGraph) (x k : ℕ) (p : PlainPart) : Type 0 where
  pub formula : EqualsEffect g (effect_on (minus (all g.vertices) p.district) p.district) p.formula
  pub reads : (q v : ℕ) → IsTrue (g.arrow q v) → IsTrue (has x q) → IsTrue (has p.district v) → has k v ≡ has p.second q

-- and so is each of the parts
abbrev pub AreRightParts : MixedGraph → (x k : ℕ) → List PlainPart → Type 0
AreRightParts g x k [] = Unit {0}
AreRightParts g x k (p ∷ ps) = IsRightPart g x k p × AreRightParts g x k ps

-- their districts
abbrev pub districts_of : List PlainPart → List ℕ
districts_of [] = []
districts_of (p ∷ ps) = p.district ∷ districts_of ps

-- The procedure finds this part: it reads at their second values the treatments with a child in its district that leads to y through m, and no others; and its
-- formula is that of the identification procedure for P(district | do(all other vertices)), which the check of formulas accepts, without interventions, and
-- which names ancestors of the district alone.
pub record IsFoundPart (g : MixedGraph) (x k : ℕ) (p : PlainPart) : Type 0 where
  pub second : (q : ℕ) → IsTrue (has p.second q)
      ↔ (IsTrue (has x q) × ((v : ℕ) × IsTrue (has p.district v) × IsTrue (has k v) × IsTrue (g.arrow q v)))
  pub identified : IsIdentified g (minus (all g.vertices) p.district) p.district p.formula
  pub formed : fault_in g.vertices p.formula ≡ None
  pub do_free : is_do_free p.formula ≡ true
  pub names : FormulaNamesOnly (IsAncestor g (has p.district)) p.formula

-- and so it does each of the parts
abbrev pub AreFoundParts : MixedGraph → (x k : ℕ) → List PlainPart → Type 0
AreFoundParts g x k [] = Unit {0}
AreFoundParts g x k (p ∷ ps) = IsFoundPart g x k p × AreFoundParts g x k ps

-- The procedure finds this formula: a part for each district of the ancestors of y and z outside x, in the graph's order, and the sum over all of these
-- ancestors but y and z. No other formula is found.
pub record IsFormulaByParts (g : MixedGraph) (x m y z summed : ℕ) (ps : List PlainPart) : Type 0 where
  pub d : ℕ
  pub ancestors : AreAncestorsIn g (minus (all g.vertices) x) (union y z) d
  pub sum : summed ≡ minus d (union y z)
  pub through : ℕ
  pub is_through : IsSetOf through (LeadsThrough g (has x) (has m) (has y))
  pub districts : AreDistrictsOf g d (districts_of ps)
  pub parts : AreFoundParts g x through ps

-- the parts are one for each district of the ancestors of y and z outside x, and each is right; k has what leads to y through m
pub record AreNaturalParts (g : MixedGraph) (x m y z d : ℕ) (ps : List PlainPart) : Type 0 where
  pub ancestors : AreAncestorsIn g (minus (all g.vertices) x) (union y z) d
  pub through : ℕ
  pub is_through : IsSetOf through (LeadsThrough g (has x) (has m) (has y))
  pub districts : AreDistrictsOf g d (districts_of ps)
  pub right : AreRightParts g x through ps

-- x, m, y and z are sets of vertices of the graph of which a nested effect can be asked
pub record IsNaturalTarget (g : MixedGraph) (x m y z : ℕ) : Type 0 where
  pub x_low : (v : ℕ) → IsTrue (has x v) → v < g.vertices
  pub y_low : (v : ℕ) → IsTrue (has y v) → v < g.vertices
  pub z_low : (v : ℕ) → IsTrue (has z v) → v < g.vertices
  pub asked : IsNestedQuery g (has x) (has m) (has y) (has z)

-- without a recanting witness the formula of such parts equals the nested effect
abbrev pub NaturalFormulaIsRight : Type 0
NaturalFormulaIsRight = (g : MixedGraph) → IsMixedGraph g → (x m y z d : ℕ) → IsNaturalTarget g x m y z
    → ((c : ℕ) → IsRecantingWitness g (has x) (has m) (has y) c → ⊥)
    → (ps : List PlainPart) → AreNaturalParts g x m y z d ps → EqualsNatural g x m y z (minus d (union y z)) ps

-- the procedure finds one formula
abbrev pub OneFormulaByParts : Type 0
OneFormulaByParts = (g : MixedGraph) (x m y z u v : ℕ) (ps qs : List PlainPart) → IsFormulaByParts g x m y z u ps → IsFormulaByParts g x m y z v qs
    → (u ≡ v) × (ps ≡ qs)
