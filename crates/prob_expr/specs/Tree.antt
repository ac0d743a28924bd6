-- Expressions of probabilities as plain trees, whose sets are masks.
use Rattle.std.specs.Prelude.{ℕ, List, [], ◌∷◌}

mutual
  pub data Tree : Type 0 where
    -- P(of | do(doing), given)
    prob : ℕ → ℕ → ℕ → Tree
    -- the sum over all values of the vertices of a set
    sum : ℕ → Tree → Tree
    product : Trees → Tree
    quotient : Tree → Tree → Tree
    -- the definition of that number
    named : ℕ → Tree

  -- a list of trees
  pub data Trees : Type 0 where
    no_trees : Trees
    tree : Tree → Trees → Trees

-- the trees of a list, in their order
abbrev pub trees_of : List Tree → Trees
trees_of [] = no_trees
trees_of (t ∷ ts) = tree t (trees_of ts)

-- a formula: its definitions, each of which may name earlier ones, and main, which may name all
pub record PlainFormula : Type 0 where
  pub defs : List Tree
  pub main : Tree

-- a target P(y | do(x), given)
pub record PlainTarget : Type 0 where
  pub x : ℕ
  pub y : ℕ
  pub given : ℕ

-- the effect P(y | do(x))
abbrev pub effect_on : (x y : ℕ) → PlainTarget
effect_on x y = record { x = x; y = y; given = 0 }

-- the target as a term
abbrev pub term_of : PlainTarget → Tree
term_of t = prob t.y t.x t.given
