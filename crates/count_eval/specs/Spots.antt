-- What the evaluator is asked for at a spot, and what it gives there; words for its walk, inside this crate.
use Rattle.std.specs.Prelude.{ℕ, ◌-◌, ◌≤◌, Bool, List, length, Option, Some, None, Result}
use Rattle.mixed_graph.specs.Vocabulary.{has}
use Rattle.prob_expr.specs.Tree.{Tree}
use Rattle.prob_expr.specs.Vocabulary.{Trees, Weights, next_node}
use Rattle.quantity.specs.declared.fault.QuantityFault.{QuantityFault}
use Rattle.quantity.specs.Vocabulary.{Kind}
use Rattle.quantity.specs.Kinds.{Pair}
use Rattle.count_eval.specs.Rules.{Rule}
use Rattle.count_rows.specs.Vocabulary.{Table}
use Rattle.count_table.specs.Vocabulary.{AreCounts}
use Rattle.count_eval.specs.declared.eval.Summing.{Summing}
use Rattle.count_eval.specs.declared.joining.Joint.{Joint}
use Rattle.count_eval.specs.declared.joining.Joint.TheVariants.{Adding, Multiplying}
use Rattle.count_eval.specs.declared.spot.Spot.{Spot}
use Rattle.count_eval.specs.Stops.{Stop}
use Rattle.count_eval.specs.Steps.{one_more, each_cell}
use Rattle.count_eval.specs.Evaluated.{evaluated, factors_evaluated, some_zero}
use Rattle.count_eval.specs.Laws.{AllUsed}
use Rattle.count_eval.specs.Programs.{weights_in, is_used, cell_of, known, AreValues, AreOrdered}

-- the graph is small, the table is one of counts, each definition names earlier ones and used vertices alone, and what is held of them are their values
pub record IsScope (k : Rule) (n : ℕ) (t : Table) (defs : List Tree) (holds : ℕ → (ℕ → ℕ) → Pair → Type 0) : Type 0 where
  pub few : n ≤ 64
  pub table : AreCounts t
  pub ordered : AreOrdered 0 defs
  pub used : AllUsed (is_used t) defs
  pub held : AreValues k (weights_in n t) defs holds

-- how many definitions an expression may name: those before its own, and the main one all
abbrev pub limit_of : List Tree → Option ℕ → ℕ
limit_of defs None = length defs
limit_of defs (Some k) = k

-- the value of an expression whose root is there
abbrev pub value_at : Rule → Weights → List Tree → Spot → Tree → Result Pair Stop
value_at k w defs at e = evaluated k w (known k w defs (limit_of defs at.def)) at.def at.node e (cell_of at.cell)

-- what a joint makes of two
abbrev pub combined : Kind → Joint → Pair → Pair → Result Pair QuantityFault
combined k Adding = k.add
combined k Multiplying = k.mul

-- what there is so far of a sum that stands there, and its body at one more cell
abbrev pub cell_added : Rule → Weights → List Tree → Spot → Tree → (ℕ → ℕ) → Option Pair → Result (Option Pair) Stop
cell_added k w defs at e s = one_more k.kind.add at.def at.node (cell_of at.cell)
    (evaluated k w (known k w defs (limit_of defs at.def)) at.def (next_node at.node) e s)

-- what there is so far of a sum, and its body at all cells that differ from this one in the summed vertices from v on
abbrev pub cells_from : Rule → Weights → List Tree → Summing → Tree → ℕ → List ℕ → Option Pair → Result (Option Pair) Stop
cells_from k w defs sum e v cell so_far = each_cell (has sum.over.bits) w.size (w.vertices - v) v (cell_added k w defs sum.at e) (cell_of cell) so_far

-- what there is so far of a product that stands there, and its factors from this node on
abbrev pub factors_from : Rule → Weights → List Tree → Spot → ℕ → Trees → Option Pair → Result (Option Pair) Stop
factors_from k w defs at next ts so_far = factors_evaluated k w (known k w defs (limit_of defs at.def)) at.def at.node next ts (cell_of at.cell) so_far

-- whether some factor of a product that stands there is 0, of those from this node on
abbrev pub zero_from : Rule → Weights → List Tree → Spot → ℕ → Trees → Bool
zero_from k w defs at next ts = some_zero k w (known k w defs (limit_of defs at.def)) at.def next ts (cell_of at.cell)
