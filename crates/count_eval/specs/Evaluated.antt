-- The value of a formula by a rule in a kind of quantity, or the first node that has none.
use Rattle.std.specs.Prelude.{ℕ, suc, Bool, false, ◌||◌, if◌then◌else◌, ◌==◌, List, [], ◌∷◌, Option, Some, None, Result, Ok, Err}
use Rattle.mixed_graph.specs.Vocabulary.{has}
use Rattle.prob_expr.specs.Tree.{Tree, prob, sum, product, quotient, named, tree}
use Rattle.prob_expr.specs.Vocabulary.{Trees, no_trees, PlainFormula, cap, next_node, Weights}
use Rattle.quantity.specs.declared.fault.QuantityFault.TheVariants.{ZeroBelow}
use Rattle.quantity.specs.Kinds.{Pair}
use Rattle.count_eval.specs.Stops.{Stop, stop, after, placed}
use Rattle.count_eval.specs.Rules.{Rule, is_zero, or_zero}
use Rattle.count_eval.specs.Steps.{one_more, each_cell, whole}

-- The number of the node behind an expression that begins at a node, in preorder.
abbrev mutual
  pub node_behind : Tree → ℕ → ℕ
  node_behind (prob a b c) i = next_node i
  node_behind (sum u e) i = node_behind e (next_node i)
  node_behind (product ts) i = node_behind_all ts (next_node i)
  node_behind (quotient x y) i = node_behind y (node_behind x (next_node i))
  node_behind (named k) i = next_node i

  pub node_behind_all : Trees → ℕ → ℕ
  node_behind_all no_trees i = i
  node_behind_all (tree t ts) i = node_behind_all ts (node_behind t i)

-- P(a | c) at s
abbrev pub term_outcome : Rule → Weights → Option ℕ → ℕ → (a b c : ℕ) → (ℕ → ℕ) → Result Pair Stop
term_outcome k w d i a b c s =
    if w.weight (has b) (has c) s == 0 then Err (stop ZeroBelow d i s) else
    (Ok (k.kind.from_ratio (w.weight (has b) (λ v. has a v || has c v) s) (w.weight (has b) (has c) s)))

-- The expression's value at s, where its root is node i of definition d, and q gives the values of the definitions.
abbrev mutual
  pub evaluated : Rule → Weights → (ℕ → (ℕ → ℕ) → Result Pair Stop) → Option ℕ → ℕ → Tree → (ℕ → ℕ) → Result Pair Stop
  evaluated k w q d i (prob a b c) s = term_outcome k w d i a b c s
  evaluated k w q d i (sum u e) s =
      after (each_cell (has u) w.size w.vertices 0 (λ t. one_more k.kind.add d i s (evaluated k w q d (next_node i) e t)) s None)
      (whole (k.kind.from_ratio 0 1))
  evaluated k w q d i (product ts) s =
      or_zero k (some_zero k w q d (next_node i) ts s) (after (factors_evaluated k w q d i (next_node i) ts s None) (whole (k.kind.from_ratio 1 1)))
  evaluated k w q d i (quotient x y) s =
      after (evaluated k w q d (next_node i) x s) (λ a. after (evaluated k w q d (node_behind x (next_node i)) y s) (λ b. placed d i s (k.kind.div a b)))
  evaluated k w q d i (named j) s = q j s

  -- the product, node i, of what there is so far and of the factors from node j on
  pub factors_evaluated : Rule → Weights → (ℕ → (ℕ → ℕ) → Result Pair Stop) → Option ℕ → ℕ → ℕ → Trees → (ℕ → ℕ) → Option Pair → Result (Option Pair) Stop
  factors_evaluated k w q d i j no_trees s so_far = Ok so_far
  factors_evaluated k w q d i j (tree e ts) s so_far =
      after (one_more k.kind.mul d i s (evaluated k w q d j e s) so_far) (factors_evaluated k w q d i (node_behind e j) ts s)

  -- whether the value of some factor from node j on is 0
  pub some_zero : Rule → Weights → (ℕ → (ℕ → ℕ) → Result Pair Stop) → Option ℕ → ℕ → Trees → (ℕ → ℕ) → Bool
  some_zero k w q d j no_trees s = false
  some_zero k w q d j (tree e ts) s = is_zero k.kind (evaluated k w q d j e s) || some_zero k w q d (node_behind e j) ts s

-- the values of the definitions from number n on, behind the values q of those before
abbrev pub evaluated_from : Rule → Weights → (ℕ → (ℕ → ℕ) → Result Pair Stop) → ℕ → List Tree → ℕ → (ℕ → ℕ) → Result Pair Stop
evaluated_from k w q n [] = q
evaluated_from k w q n (e ∷ es) = evaluated_from k w (λ j s. if j == n then evaluated k w q (Some (cap n)) 0 e s else q j s) (suc n) es

-- the value of a formula at s: of main, over the values of the definitions
abbrev pub formula_value : Rule → Weights → PlainFormula → (ℕ → ℕ) → Result Pair Stop
formula_value k w f s = evaluated k w (evaluated_from k w (λ j t. Ok (k.kind.from_ratio 1 1)) 0 f.defs) None 0 f.main s
