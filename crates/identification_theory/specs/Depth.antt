-- How deep the steps of a derivation nest.
use Rattle.std.specs.Prelude.{ℕ, zero, suc, Bool, true, false, ◌&&◌, List, [], ◌∷◌}
use Rattle.do_derivation.specs.Plans.{Plan, Plans, plan}
use Rattle.do_derivation.specs.Vocabulary.{no_plans, PlainLemma}

abbrev mutual
  -- at most d steps lie in each other, from the outermost to an innermost
  pub is_plan_within : ℕ → Plan → Bool
  is_plan_within zero p = false
  is_plan_within (suc d) (Plan.Make m) = true
  is_plan_within (suc d) (Plan.At i p) = is_plan_within d p
  is_plan_within (suc d) (Plan.Then ps) = are_plans_within d ps

  pub are_plans_within : ℕ → Plans → Bool
  are_plans_within d no_plans = true
  are_plans_within d (plan p ps) = is_plan_within d p && are_plans_within d ps

-- the steps of each lemma nest so
abbrev pub are_lemmas_within : ℕ → List PlainLemma → Bool
are_lemmas_within d [] = true
are_lemmas_within d (l ∷ ls) = is_plan_within d l.plan && are_lemmas_within d ls
