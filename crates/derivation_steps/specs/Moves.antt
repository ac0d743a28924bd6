-- The moves of a step in turn, each at its place.
use Rattle.std.specs.Prelude.{List, [], ◌∷◌, ◌++◌, map}
use Rattle.do_derivation.specs.Plans.{Plan, Plans, plan}
use Rattle.do_derivation.specs.Vocabulary.{no_plans}

-- a move stands alone; those of a step on a child are on that child; those of several steps follow one another
abbrev mutual
  pub moves_of : Plan → List Plan
  moves_of (Plan.Make m) = Plan.Make m ∷ []
  moves_of (Plan.At i p) = map (Plan.At i) (moves_of p)
  moves_of (Plan.Then ps) = moves_of_each ps

  pub moves_of_each : Plans → List Plan
  moves_of_each no_plans = []
  moves_of_each (plan p ps) = moves_of p ++ moves_of_each ps
