-- A step as a list: a word and its arguments.
use Rattle.std.specs.Prelude.{ℕ, List, [], ◌∷◌, codes, decimal, map}
use Rattle.json.specs.Json.{Json, string, number}
use Rattle.do_derivation.specs.Plans.{Move, Plan, Plans, plan}
use Rattle.do_derivation.specs.Vocabulary.{no_plans, set_word, bare_word}
use Rattle.answer_json.specs.Vocabulary.{array_of, set_json, vertices_json}

-- numbers
abbrev pub numbers_json : List ℕ → Json
numbers_json ns = array_of (map (λ n. number (decimal n)) ns)

-- a word and its arguments
abbrev pub said_json : List ℕ → List Json → Json
said_json word rest = array_of (string word ∷ rest)

-- a move: its word and its argument
abbrev pub move_json : List (List ℕ) → Move → Json
move_json names (Move.WithSet kind z) = said_json (set_word kind) (set_json names z ∷ [])
move_json names (Move.Bare kind) = said_json (bare_word kind) []
move_json names (Move.Chain o) = said_json (codes "chain") (vertices_json names o ∷ [])
move_json names (Move.Group l) = said_json (codes "group") (array_of (map numbers_json l) ∷ [])
move_json names (Move.Cite k) = said_json (codes "cite") (number (decimal k) ∷ [])

abbrev mutual
  -- a step
  pub step_json : List (List ℕ) → Plan → Json
  step_json names (Plan.Make m) = move_json names m
  step_json names (Plan.At i p) = said_json (codes "at") (number (decimal i) ∷ step_json names p ∷ [])
  step_json names (Plan.Then ps) = said_json (codes "then") (array_of (steps_json names ps) ∷ [])

  -- steps, in their order
  pub steps_json : List (List ℕ) → Plans → List Json
  steps_json names no_plans = []
  steps_json names (plan p ps) = step_json names p ∷ steps_json names ps
