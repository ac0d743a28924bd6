-- Right answers to the question for P(y[x, m[x']] | z).
use Rattle.std.specs.Prelude.{ℕ, ◌≡◌, ◌⊎◌, Bool, true, false, List, map, Option, Some, None, IsTrue}
use Rattle.mixed_graph.specs.declared.sets.VSet.{VSet}
use Rattle.mixed_graph.specs.Vocabulary.{has, MixedGraph, IsAncestor, union, minus, all}
use Rattle.hedge.specs.declared.hedge.Hedge.{Hedge}
use Rattle.hedge.specs.Vocabulary.{IsMaximalJoined, IsHedge}
use Rattle.prob_expr.specs.Vocabulary.{effect_on, fault_in, is_do_free, PlainFormula, EqualsEffect, formula_view}
use Rattle.identification_theory.specs.Vocabulary.{FormulaNamesOnly, IsIdentified}
use Rattle.identify.specs.Vocabulary.{IsRightHedge}
use Rattle.nested_models.specs.Vocabulary.{LeadsPast, LeadsThrough, HasNoFormulaNested, IsSplitDistrict}
use Rattle.twisted_models.specs.Vocabulary.{DifferOnNested}
use Rattle.natural_id.specs.Parts.{PlainPart, EqualsNatural, AreRightParts, AreFoundParts, IsFormulaByParts, districts_of}
use Rattle.natural_id.specs.declared.answers.Part.{Part}
use Rattle.natural_id.specs.declared.answers.Witness.{Witness}
use Rattle.natural_id.specs.declared.answers.Split.{Split}
use Rattle.natural_id.specs.declared.answers.Natural.{Natural}
use Rattle.natural_id.specs.declared.answers.Natural.TheVariants as answers
use Rattle.natural_id.specs.declared.identifying.Settled.{Settled}
use Rattle.natural_id.specs.declared.identifying.Settled.TheVariants as settled
use Rattle.natural_id.specs.declared.parts.Parted.{Parted}
use Rattle.natural_id.specs.declared.parts.Parted.TheVariants as parted

-- a part of the code as a plain one
abbrev pub part_view : Part → PlainPart
part_view p = record { district = p.district.bits; second = p.second.bits; formula = formula_view p.formula }

-- those of a list
abbrev pub parts_view : List Part → List PlainPart
parts_view ps = map part_view ps

-- a treatment, and a child of it that leads to y both through m and past it
pub record IsWitness (g : MixedGraph) (x m y : ℕ) (w : Witness) : Type 0 where
  pub from_x : IsTrue (has x w.treatment)
  pub arrow : IsTrue (g.arrow w.treatment w.child)
  pub through : LeadsThrough g (has x) (has m) (has y) w.child
  pub past : LeadsPast g (has x) (has m) (has y) w.child

-- a district that reads both values of a treatment: by a child of it that leads to y past m, and by one that leads there through m
abbrev pub IsSplit : MixedGraph → (x m y z : ℕ) → Split → Type 0
IsSplit g x m y z s = IsSplitDistrict g x m y z s.treatment s.district.bits s.first s.second

-- some vertex or district reads both values of a treatment
abbrev pub ReadsBoth : MixedGraph → (x m y z : ℕ) → Type 0
ReadsBoth g x m y z = ((w : Witness) × IsWitness g x m y w) ⊎ ((s : Split) × IsSplit g x m y z s)

-- two positive models of the graph agree on observations and differ on the nested effect, so that no formula equals it
pub record IsLostNested (g : MixedGraph) (x m y z : ℕ) : Type 0 where
  pub models : DifferOnNested g x m y z
  pub no_formula : HasNoFormulaNested g x m y z

-- A right answer is a formula that equals P(y[x, m[x']] | z) in each positive model of the graph, where nothing reads both values of a treatment; or why
-- no formula does: a child of x that leads to y both through m and past it; a district with children of one treatment of both kinds; or a hedge for
-- P(y, z | do(x)) with its two models. Of the first two there are two models as well, which the answer doesn't hold.
abbrev pub IsRight : MixedGraph → (x m y z : ℕ) → Natural → Type 0
IsRight g x m y z (answers.Formula f) = EqualsNatural g x m y z f.summed.bits (parts_view f.parts.items) × (ReadsBoth g x m y z → ⊥)
IsRight g x m y z (answers.Witness w) = IsWitness g x m y w × IsLostNested g x m y z
IsRight g x m y z (answers.Split s) = IsSplit g x m y z s × IsLostNested g x m y z
IsRight g x m y z (answers.Hedge h pair) = IsRightHedge g x (union y z) h pair × HasNoFormulaNested g x m y z

-- a hedge is answered
abbrev pub is_hedge : Natural → Bool
is_hedge (answers.Formula f) = false
is_hedge (answers.Witness w) = false
is_hedge (answers.Split s) = false
is_hedge (answers.Hedge h pair) = true

-- the fact holds of what is summed and of the parts, where a formula is answered
abbrev pub IfFormula : Natural → (ℕ → List PlainPart → Type 0) → Type 0
IfFormula (answers.Formula f) P = P f.summed.bits (parts_view f.parts.items)
IfFormula (answers.Witness w) P = Unit {0}
IfFormula (answers.Split s) P = Unit {0}
IfFormula (answers.Hedge h pair) P = Unit {0}

-- a right answer that is no hedge, with the formula that the procedure finds, if it is one
abbrev pub IsFound : MixedGraph → (x m y z : ℕ) → Natural → Type 0
IsFound g x m y z a = IsRight g x m y z a × (is_hedge a ≡ false) × IfFormula a (IsFormulaByParts g x m y z)

-- ---- the parts of the code

-- a hedge with its two models, and a right answer; or the effect has a formula, and no hedge
abbrev pub IsSettled : MixedGraph → (x y : ℕ) → Settled → Type 0
IsSettled g x y (settled.Hedge h pair) = IsRightHedge g x y h pair × IsHedge g x y h
IsSettled g x y settled.Formula = ((f : PlainFormula) × IsIdentified g x y f) × (((h : Hedge) × IsHedge g x y h) → ⊥)

-- what is found is a treatment and a child of it in both sets, or no child of x is in both
abbrev pub IsWitnessOrNone : MixedGraph → (x through past : ℕ) → Option Witness → Type 0
IsWitnessOrNone g x through past (Some w) = IsTrue (has x w.treatment) × IsTrue (g.arrow w.treatment w.child) × IsTrue (has through w.child)
    × IsTrue (has past w.child)
IsWitnessOrNone g x through past None = (p c : ℕ) → IsTrue (has x p) → IsTrue (g.arrow p c) → IsTrue (has through c) → IsTrue (has past c) → ⊥

-- the formula is that of P(c | do(all other vertices))
pub record IsFormulaOf (g : MixedGraph) (c : ℕ) (f : PlainFormula) : Type 0 where
  pub equals : EqualsEffect g (effect_on (minus (all g.vertices) c) c) f
  pub identified : IsIdentified g (minus (all g.vertices) c) c f
  pub formed : fault_in g.vertices f ≡ None
  pub do_free : is_do_free f ≡ true
  pub names : FormulaNamesOnly (IsAncestor g (has c)) f

-- the part of the district c, with its formula
pub record IsPartOf (g : MixedGraph) (c : VSet) (reading : VSet) (p : Part) : Type 0 where
  pub district : p.district ≡ c
  pub second : p.second ≡ reading
  pub formula : IsFormulaOf g c.bits (formula_view p.formula)

-- the district has a child of the treatment outside `through`, and one in it
pub record IsSplitIn (g : MixedGraph) (x through : ℕ) (s : Split) : Type 0 where
  pub from_x : IsTrue (has x s.treatment)
  pub first_in : IsTrue (has s.district.bits s.first)
  pub first_child : IsTrue (g.arrow s.treatment s.first)
  pub first_out : has through s.first ≡ false
  pub second_in : IsTrue (has s.district.bits s.second)
  pub second_child : IsTrue (g.arrow s.treatment s.second)
  pub second_through : IsTrue (has through s.second)

-- all children of a treatment in the set are alike
abbrev pub AreAlike : MixedGraph → (x through c : ℕ) → Type 0
AreAlike g x through c = (p v w : ℕ) → IsTrue (has x p) → IsTrue (g.arrow p v) → IsTrue (g.arrow p w) → IsTrue (has c v) → IsTrue (has c w)
    → has through v ≡ has through w

-- what is found is that of c, or all are alike
abbrev pub IsSplitOrNone : MixedGraph → (x through : ℕ) → VSet → Option Split → Type 0
IsSplitOrNone g x through c (Some s) = (s.district ≡ c) × IsSplitIn g x through s
IsSplitOrNone g x through c None = AreAlike g x through c.bits

-- the right parts of these districts; or one of them with children of both kinds
abbrev pub ArePartsOrSplit : MixedGraph → (x through d : ℕ) → List ℕ → Parted → Type 0
ArePartsOrSplit g x through d ts (parted.Parts ps) = (districts_of (parts_view ps.items) ≡ ts) × AreRightParts g x through (parts_view ps.items)
    × AreFoundParts g x through (parts_view ps.items)
ArePartsOrSplit g x through d ts (parted.Split s) = IsMaximalJoined g d s.district.bits × IsSplitIn g x through s
