-- The first fault of an expression and of a formula.
use Rattle.std.specs.Prelude.{ℕ, ◌+◌, ◌-◌, ◌^◌, min, Bool, true, false, ltb, List, [], ◌∷◌, length, Option, Some, None, Result, Ok, Err, if◌then◌else◌, not}
use Rattle.prob_expr.specs.Tree.{Tree, prob, sum, product, quotient, named, Trees, no_trees, tree, PlainFormula}
use Rattle.mixed_graph.specs.Vocabulary.{is_empty, is_below}
use Rattle.prob_expr.specs.TermSets.{are_term_sets}
pub use Rattle.finite_models.specs.Faults.{cap}
use Rattle.prob_expr.specs.declared.checking.ExprFault.{ExprFault}
use Rattle.prob_expr.specs.declared.checking.ExprFault.TheVariants.{Sets, Empty, Forward}

infixl 10 ◌>>=◌
-- the next part is checked where the first has no fault
abbrev pub ◌>>=◌ : {A B : Type 0} → Result A ExprFault → (A → Result B ExprFault) → Result B ExprFault
(Ok x) >>= f = f x
(Err e) >>= f = Err e

-- the node after this one in preorder
abbrev pub next_node : ℕ → ℕ
next_node node = min (node + 1) (2 ^ 32 - 1)

-- a product has two factors or more
abbrev pub are_two : Trees → Bool
are_two no_trees = false
are_two (tree t no_trees) = false
are_two (tree t (tree u ts)) = true

-- The number of the node behind an expression that begins at a node, or the first fault in it. It may
-- name the definitions below a limit.
abbrev mutual
  pub check_tree : ℕ → Option ℕ → ℕ → Tree → ℕ → Result ℕ ExprFault
  check_tree n def limit (prob a b c) node =
      if not (are_term_sets n a b c) then Err (Sets (record { def = def; node = node }))
      else (if is_empty a then Err (Empty (record { def = def; node = node }))
      else Ok (next_node node))
  check_tree n def limit (sum u e) node =
      if not (is_below n u) then Err (Sets (record { def = def; node = node }))
      else (if is_empty u then Err (Empty (record { def = def; node = node }))
      else check_tree n def limit e (next_node node))
  check_tree n def limit (product ts) node =
      if are_two ts then check_trees n def limit ts (next_node node)
      else Err (Empty (record { def = def; node = node }))
  check_tree n def limit (quotient p q) node =
      check_tree n def limit p (next_node node) >>= check_tree n def limit q
  check_tree n def limit (named k) node =
      if ltb k limit then Ok (next_node node) else Err (Forward (cap limit))

  pub check_trees : ℕ → Option ℕ → ℕ → Trees → ℕ → Result ℕ ExprFault
  check_trees n def limit no_trees node = Ok node
  check_trees n def limit (tree t ts) node = check_tree n def limit t node >>= check_trees n def limit ts

-- the fault, if there is one
abbrev pub fault_of : {A : Type 0} → Result A ExprFault → Option ExprFault
fault_of (Ok x) = None
fault_of (Err e) = Some e

-- the first of two faults
abbrev pub or_else : Option ExprFault → Option ExprFault → Option ExprFault
or_else (Some e) other = Some e
or_else None other = other

-- the definitions from number k on, in order: each may name those before it
abbrev pub fault_in_defs : ℕ → ℕ → List Tree → Option ExprFault
fault_in_defs n k [] = None
fault_in_defs n k (d ∷ ds) = or_else (fault_of (check_tree n (Some (cap k)) k d 0)) (fault_in_defs n (k + 1) ds)

-- the first fault of a formula on n vertices: of its definitions, then of main, which may name them all
abbrev pub fault_in : ℕ → PlainFormula → Option ExprFault
fault_in n f = or_else (fault_in_defs n 0 f.defs) (fault_of (check_tree n None (length f.defs) f.main 0))
