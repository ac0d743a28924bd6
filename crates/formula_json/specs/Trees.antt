-- An expression as a tree of objects.
use Rattle.std.specs.Prelude.{ℕ, List, [], ◌∷◌, map, codes, decimal}
use Rattle.json.specs.Json.{Json, number}
use Rattle.prob_expr.specs.Tree.{Tree, prob, sum, product, quotient, named, tree}
use Rattle.prob_expr.specs.Vocabulary.{Trees, no_trees, PlainFormula}
use Rattle.answer_json.specs.Vocabulary.{array_of, object_of, set_json}

-- P(of | do(doing), given)
abbrev pub term_json : List (List ℕ) → (of doing given : ℕ) → Json
term_json names of doing given = object_of (
    (codes "term", set_json names of) ∷ (codes "do", set_json names doing) ∷ (codes "given", set_json names given) ∷ [])

-- a definition, by its number
abbrev pub named_json : ℕ → Json
named_json k = object_of ((codes "definition", number (decimal k)) ∷ [])

abbrev mutual
  -- an expression
  pub tree_json : List (List ℕ) → Tree → Json
  tree_json names (prob of doing given) = term_json names of doing given
  tree_json names (sum over body) = object_of ((codes "sum", set_json names over) ∷ (codes "of", tree_json names body) ∷ [])
  tree_json names (product factors) = object_of ((codes "product", array_of (trees_json names factors)) ∷ [])
  tree_json names (quotient top bottom) = object_of ((codes "quotient", array_of (tree_json names top ∷ tree_json names bottom ∷ [])) ∷ [])
  tree_json names (named k) = named_json k

  -- expressions, in their order
  pub trees_json : List (List ℕ) → Trees → List Json
  trees_json names no_trees = []
  trees_json names (tree t ts) = tree_json names t ∷ trees_json names ts

-- a product, by its factors
abbrev pub product_json : List (List ℕ) → Trees → Json
product_json names factors = object_of ((codes "product", array_of (trees_json names factors)) ∷ [])

-- the definitions of a formula
abbrev pub definitions_json : List (List ℕ) → PlainFormula → Json
definitions_json names f = array_of (map (tree_json names) f.defs)
