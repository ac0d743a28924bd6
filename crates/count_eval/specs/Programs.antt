-- What the evaluator's functions are asked for, and what they give.
use Rattle.std.specs.Prelude.{ℕ, suc, ◌<◌, Bool, nat_lt, List, [], ◌∷◌, take, length, ◌≡◌, Option, Some, None, Result, Ok, Err, slice_index}
use Rattle.prob_expr.specs.Tree.{Tree, prob, sum, product, quotient, named, tree}
use Rattle.prob_expr.specs.Vocabulary.{Trees, no_trees, Weights}
use Rattle.quantity.specs.Kinds.{Pair}
use Rattle.count_eval.specs.Rules.{Rule}
use Rattle.count_rows.specs.Vocabulary.{Table, counted}
use Rattle.count_table.specs.Vocabulary.{levels_in}
use Rattle.count_eval.specs.declared.failure.Failure.{Failure}
use Rattle.count_eval.specs.Stops.{Stop}
use Rattle.count_eval.specs.Evaluated.{evaluated_from}

-- the weights that a table's counts give to events of n vertices: an intervention changes no count
abbrev pub weights_in : ℕ → Table → Weights
weights_in n t = record { vertices = n; size = λ v. length (levels_in t.vertices t.levels v); weight = λ b a s. counted t.vertices t.rows a s }

-- the vertex has a level: it is used
abbrev pub is_used : Table → ℕ → Bool
is_used t v = nat_lt 0 (length (levels_in t.vertices t.levels v))

-- the value of each vertex
abbrev pub cell_of : List ℕ → ℕ → ℕ
cell_of cell v = slice_index cell v

-- a failure as a stop
abbrev pub stop_of : Failure → Stop
stop_of f = record { why = f.why; def = f.at.def; node = f.at.node; cell = cell_of f.at.cell }

-- an outcome, seen as numbers
abbrev pub seen : {Q : Type 0} → (Q → Pair) → Result Q Failure → Result Pair Stop
seen numbers (Ok q) = Ok (numbers q)
seen numbers (Err e) = Err (stop_of e)

-- what there is so far, seen as numbers
abbrev pub seen_so_far : {Q : Type 0} → (Q → Pair) → Option Q → Option Pair
seen_so_far numbers None = None
seen_so_far numbers (Some q) = Some (numbers q)

-- an outcome of what there is so far, seen as numbers
abbrev pub seen_more : {Q : Type 0} → (Q → Pair) → Result (Option Q) Failure → Result (Option Pair) Stop
seen_more numbers (Ok o) = Ok (seen_so_far numbers o)
seen_more numbers (Err e) = Err (stop_of e)

-- the values of the first `limit` definitions
abbrev pub known : Rule → Weights → List Tree → ℕ → ℕ → (ℕ → ℕ) → Result Pair Stop
known k w defs limit = evaluated_from k w (λ j t. Ok (k.kind.from_ratio 1 1)) 0 (take limit defs)

-- what is said to be held of the definitions are their values
abbrev pub AreValues : Rule → Weights → List Tree → (ℕ → (ℕ → ℕ) → Pair → Type 0) → Type 0
AreValues k w defs holds = (j : ℕ) (s : ℕ → ℕ) (p : Pair) → holds j s p → known k w defs (length defs) j s ≡ Ok p

-- each definition that is named has a number below the limit
abbrev mutual
  pub IsBelow : ℕ → Tree → Type 0
  IsBelow limit (prob a b c) = Unit {0}
  IsBelow limit (sum u e) = IsBelow limit e
  IsBelow limit (product ts) = AreBelow limit ts
  IsBelow limit (quotient x y) = IsBelow limit x × IsBelow limit y
  IsBelow limit (named k) = k < limit

  pub AreBelow : ℕ → Trees → Type 0
  AreBelow limit no_trees = Unit {0}
  AreBelow limit (tree e ts) = IsBelow limit e × AreBelow limit ts

-- each definition names earlier ones alone
abbrev pub AreOrdered : ℕ → List Tree → Type 0
AreOrdered k [] = Unit {0}
AreOrdered k (e ∷ es) = IsBelow k e × AreOrdered (suc k) es
