-- What parts that are made have, beside that they are accepted.
use Rattle.std.specs.Prelude.{ℕ, ◌≡◌, ◌≤◌, true, List, [], ◌∷◌, length, None}
use Rattle.prob_expr.specs.Vocabulary.{fault_in}
use Rattle.derived_parts.specs.Vocabulary.{PlainDerivedPart}
use Rattle.derived_parts.specs.Accepted.{is_set}
use Rattle.identify.specs.Vocabulary.{AreShallowSteps, IsShallowFormula}

-- the district is below n and not empty, the formula has no fault and few definitions, and it and the steps nest as little as those of the procedure
pub record IsWellMade (n : ℕ) (p : PlainDerivedPart) : Type 0 where
  pub district : is_set n p.district ≡ true
  pub formed : fault_in n p.formula ≡ None
  pub few : length p.formula.defs ≤ 4096
  pub nodes : IsShallowFormula p.formula
  pub steps : AreShallowSteps p.derivation

-- and so it is with each
abbrev pub AreWellMade : ℕ → List PlainDerivedPart → Type 0
AreWellMade n [] = Unit {0}
AreWellMade n (p ∷ ps) = IsWellMade n p × AreWellMade n ps
