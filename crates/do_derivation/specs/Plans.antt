-- The steps of a derivation, as plain trees.
use Rattle.std.specs.Prelude.{ℕ, ◌+◌, List, [], ◌∷◌}
use Rattle.do_derivation.specs.declared.moves.SetMove.{SetMove}
use Rattle.do_derivation.specs.declared.moves.BareMove.{BareMove}

-- what is done to an expression itself
pub data Move : Type 0 where
  -- with a set z: a rule of the do-calculus, by which z comes into the condition or leaves it (rule 1), leaves the intervention for the condition or the
  -- other way round (rule 2), comes into the intervention or leaves it (rule 3); or Widen, a term as the sum over z of a term with more vertices
  WithSet : SetMove → ℕ → Move
  -- back from the product of a chain (Unchain) and from such a sum (Narrow); a conditional term as a quotient (Split); factors that are products, opened
  -- (Unwrap)
  Bare : BareMove → Move
  -- a term as the product over a list of its vertices
  Chain : List ℕ → Move
  -- the factors of a product, by their numbers, in groups
  Group : List (List ℕ) → Move
  -- the term of a lemma as its definition
  Cite : ℕ → Move

mutual
  -- a step: a move, a step on the child of that number, or several in turn
  pub data Plan : Type 0 where
    Make : Move → Plan
    At : ℕ → Plan → Plan
    Then : Plans → Plan

  pub data Plans : Type 0 where
    no_plans : Plans
    plan : Plan → Plans → Plans

-- a list of steps as one that a step can hold
abbrev pub plans_of : List Plan → Plans
plans_of [] = no_plans
plans_of (p ∷ ps) = plan p (plans_of ps)

-- how many nodes a step has that are no `Then`
abbrev mutual
  pub numbered : Plan → ℕ
  numbered (Plan.Make m) = 1
  numbered (Plan.At i p) = numbered p + 1
  numbered (Plan.Then ps) = numbered_all ps

  pub numbered_all : Plans → ℕ
  numbered_all no_plans = 0
  numbered_all (plan p ps) = numbered p + numbered_all ps

-- lemma k says that P(set | do(all others)) is definition k of the formula, by the step
pub record PlainLemma : Type 0 where
  pub set : ℕ
  pub plan : Plan

-- the lemmas, and the step that makes the formula's main of the target's term
pub record PlainDerivation : Type 0 where
  pub lemmas : List PlainLemma
  pub main : Plan
