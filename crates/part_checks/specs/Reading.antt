-- Parts with the treatments that they read at their second values.
use Rattle.std.specs.Prelude.{ℕ, ◌≡◌, List, [], ◌∷◌, IsTrue}
use Rattle.mixed_graph.specs.Vocabulary.{has, MixedGraph}
use Rattle.hedge.specs.Vocabulary.{IsSetOf}
use Rattle.derived_parts.specs.Vocabulary.{PlainDerivedPart}
use Rattle.natural_id.specs.Vocabulary.{PlainPart}

-- the part has the district and the formula of the derived one, and reads this set
pub record IsPartOf (p : PlainDerivedPart) (reads : ℕ) (q : PlainPart) : Type 0 where
  pub district : q.district ≡ p.district
  pub formula : q.formula ≡ p.formula
  pub second : q.second ≡ reads

-- the part has the district and the formula of the derived one, and reads the treatments that its district does
pub record IsReadAs (reads : ℕ → ℕ → Type 0) (p : PlainDerivedPart) (q : PlainPart) : Type 0 where
  pub district : q.district ≡ p.district
  pub formula : q.formula ≡ p.formula
  pub second : IsSetOf q.second (reads p.district)

-- so do the parts of a list, one for each derived one
abbrev pub AreReadAs : (ℕ → ℕ → Type 0) → List PlainDerivedPart → List PlainPart → Type 0
AreReadAs reads [] [] = Unit {0}
AreReadAs reads [] (q ∷ qs) = ⊥
AreReadAs reads (p ∷ ps) [] = ⊥
AreReadAs reads (p ∷ ps) (q ∷ qs) = IsReadAs reads p q × AreReadAs reads ps qs

-- the district has a child of the treatment that leads to y through m
abbrev pub ReadsThrough : MixedGraph → (x through c u : ℕ) → Type 0
ReadsThrough g x through c u = IsTrue (has x u) × ((v : ℕ) × IsTrue (has c v) × IsTrue (has through v) × IsTrue (g.arrow u v))

-- the district has the treatment
abbrev pub ReadsOwn : (x c u : ℕ) → Type 0
ReadsOwn x c u = IsTrue (has x u) × IsTrue (has c u)
