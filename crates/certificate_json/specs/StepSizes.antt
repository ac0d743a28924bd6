-- How large the vertices, numbers and lists of a step are, and how deep it nests.
use Rattle.std.specs.Prelude.{ℕ, suc, ◌^◌, max, Bool, true, ◌&&◌, ltb, leb, List, [], ◌∷◌, length}
use Rattle.mixed_graph.specs.Vocabulary.{is_below}
use Rattle.do_derivation.specs.Plans.{Move, Plan, Plans, plan}
use Rattle.do_derivation.specs.Vocabulary.{no_plans}

-- each number is below n
abbrev pub are_below : ℕ → List ℕ → Bool
are_below n [] = true
are_below n (v ∷ vs) = ltb v n && are_below n vs

-- each number of each group is below n
abbrev pub groups_below : ℕ → List (List ℕ) → Bool
groups_below n [] = true
groups_below n (l ∷ ls) = are_below n l && groups_below n ls

-- the vertices of a move are below n
abbrev pub is_move_within : ℕ → Move → Bool
is_move_within n (Move.WithSet kind z) = is_below n z
is_move_within n (Move.Chain o) = are_below n o
is_move_within n _ = true

-- the vertices of a step are below n
abbrev mutual
  pub is_within : ℕ → Plan → Bool
  is_within n (Plan.Make m) = is_move_within n m
  is_within n (Plan.At i p) = is_within n p
  is_within n (Plan.Then ps) = are_within n ps

  pub are_within : ℕ → Plans → Bool
  are_within n no_plans = true
  are_within n (plan p ps) = is_within n p && are_within n ps

-- numbers have 32 bits, and a list of vertices has 64 at most, as those of each step of the code
abbrev pub is_move_short : Move → Bool
is_move_short (Move.Chain o) = leb (length o) 64
is_move_short (Move.Group l) = groups_below (2 ^ 32) l
is_move_short (Move.Cite k) = ltb k (2 ^ 32)
is_move_short _ = true

abbrev mutual
  pub is_short : Plan → Bool
  is_short (Plan.Make m) = is_move_short m
  is_short (Plan.At i p) = ltb i (2 ^ 32) && is_short p
  is_short (Plan.Then ps) = are_short ps

  pub are_short : Plans → Bool
  are_short no_plans = true
  are_short (plan p ps) = is_short p && are_short ps

-- how deep steps nest: one that has none inside is 1 deep
abbrev mutual
  pub nesting : Plan → ℕ
  nesting (Plan.Make m) = 1
  nesting (Plan.At i p) = suc (nesting p)
  nesting (Plan.Then ps) = suc (nesting_each ps)

  pub nesting_each : Plans → ℕ
  nesting_each no_plans = 0
  nesting_each (plan p ps) = max (nesting p) (nesting_each ps)
