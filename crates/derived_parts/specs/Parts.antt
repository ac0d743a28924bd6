-- Formulas of districts with their derivations, as plain trees.
use Rattle.std.specs.Prelude.{ℕ, ◌≡◌, true, List, [], ◌∷◌, map}
use Rattle.prob_expr.specs.Vocabulary.{PlainFormula, formula_view}
use Rattle.do_derivation.specs.Vocabulary.{PlainDerivation, derivation_view, are_sets, sets_of}
use Rattle.derived_parts.specs.declared.part.DerivedPart.{DerivedPart}

-- a district, a formula for P(district | do(all other vertices)), and a derivation of it
pub record PlainDerivedPart : Type 0 where
  pub district : ℕ
  pub formula : PlainFormula
  pub derivation : PlainDerivation

-- the plain part of a part
abbrev pub derived_view : DerivedPart → PlainDerivedPart
derived_view p = record { district = p.district.bits; formula = formula_view p.formula; derivation = derivation_view p.derivation }

-- those of a list
abbrev pub derived_views : List DerivedPart → List PlainDerivedPart
derived_views ps = map derived_view ps

-- the lemmas of the derivation have sets below n that aren't empty
abbrev pub IsSound : ℕ → PlainDerivedPart → Type 0
IsSound n p = are_sets n (sets_of p.derivation.lemmas) ≡ true

-- and so has each
abbrev pub AreSound : ℕ → List PlainDerivedPart → Type 0
AreSound n [] = Unit {0}
AreSound n (p ∷ ps) = IsSound n p × AreSound n ps
