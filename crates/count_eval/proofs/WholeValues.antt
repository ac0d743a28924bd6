-- What the evaluator gives for main is the formula's value, and what it covers.
use Rattle.std.proofs.Common.{ℕ, ◌≡◌, ◌≢◌, ◌≤◌, Bool, true, false, cond, ◌∙◌, ap, sym, subst, arith, List, length, map, get_or, None, Result, Ok, Err}
use Rattle.std.proofs.Math.Seq.{take-length}
use Rattle.std.proofs.lemmas.Bool.{false≢true}
use mathlib.Core.Path.{fun_ext}
use Rattle.fractions.specs.Vocabulary.{Fraction}
use Rattle.mixed_graph.specs.Vocabulary.{has, members_below}
use Rattle.prob_expr.specs.Tree.{Tree}
use Rattle.prob_expr.specs.declared.expr.Expr.{Expr}
use Rattle.prob_expr.specs.declared.expr.Formula.{Formula}
use Rattle.prob_expr.specs.Vocabulary.{PlainFormula, formula_view, Weights, weights_of, value_of}
use Rattle.prob_expr.specs.View.{view}
use Rattle.quantity.specs.Kinds.{Pair}
use Rattle.quantity.specs.Vocabulary.{Kind, IsLawful}
use Rattle.count_rows.specs.Vocabulary.{Table}
use Rattle.count_table.specs.Vocabulary.{total, AreCounts, HasLevels}
use Rattle.count_eval.specs.declared.failure.EvalFault.{EvalFault}
use Rattle.count_eval.specs.declared.failure.EvalFault.TheVariants.{NoSupport, TooWide, TooFine, NoMemory}
use Rattle.count_eval.specs.Stops.{Stop}
use Rattle.count_eval.specs.Evaluated.{evaluated, evaluated_from, formula_value}
use Rattle.count_eval.specs.Programs.{weights_in, is_used, cell_of}
use Rattle.count_eval.specs.Spots.{value_at}
use Rattle.count_eval.specs.Answers.{IsEvaluable, IsEvaluationFault, CoversCounts, CoversWithZeros, CoversMatches, DeniesMatches}
use Rattle.count_eval.proofs.Covered.{formula_good, zeros_are_covered}
use Rattle.count_eval.proofs.Matched.{matched_has_value}
use Rattle.count_eval.proofs.Zeros.{either_rule, zero_keeps_values}
use Rattle.count_eval.specs.Rules.{Rule, rule}
use Rattle.count_eval.proofs.Used.{used_is}

-- main's value over all definitions is the formula's
pub main_value : (k : Rule) (w : Weights) (f : Formula) (defs : List Expr) (cell : List ℕ) (s : ℕ → ℕ) (o : Result Pair Stop) → defs ≡ f.defs.items
    → ((v : ℕ) → cell_of cell v ≡ s v)
    → o ≡ value_at k w (map view defs) (record { def = None; node = 0; cell = cell }) (view f.main) → formula_value k w (formula_view f) s ≡ o
main_value k w f defs cell s o e same h =
    let ds = map view f.defs.items in
    sym (h ∙ ap (λ (l : List Expr). value_at k w (map view l) (record { def = None; node = 0; cell = cell }) (view f.main)) e
    ∙ ap (λ (l : List Tree). evaluated k w (evaluated_from k w (λ j t. Ok (k.kind.from_ratio 1 1)) 0 l) None 0 (view f.main) (cell_of cell)) (take-length ds)
    ∙ ap (formula_value k w (formula_view f)) (fun_ext same))

-- the cell as an array has the levels that the cell has
pub levels_kept : (t : Table) (of : ℕ → Bool) (at cell : List ℕ) → length at ≤ length cell → ((v : ℕ) → get_or cell v 0 ≡ get_or at v 0)
    → HasLevels t of at → HasLevels t of cell
levels_kept t of at cell le same h v member =
    let (within, below) = h v member in
    let e = same v in
    (omega (arith, within, le), omega (arith, below, e))

-- a fault over the set of a table's vertices is one over the table
pub fault_over : (t : Table) (u : ℕ) (e : EvalFault) (s : Stop) → AreCounts t → members_below (has u) 64 ≡ t.vertices → IsEvaluationFault (has u) e s
    → IsEvaluationFault (is_used t) e s
fault_over t u (NoSupport cell place) s are e h = (h.0, h.1, λ v lt. h.2 v lt ∙ ap (λ (b : Bool). cond b (s.cell v) 0) (used_is t u v are e lt))
fault_over t u (TooWide place) s are e h = h
fault_over t u (TooFine place) s are e h = h
fault_over t u NoMemory s are e h = h

-- a value by the first rule covers the true one over the counts
pub covers_counts : (k : Kind) (covers : Pair → Fraction → Type 0) → IsLawful k covers → (zero : Bool) → zero ≡ false
    → (n : ℕ) (t : Table) (f : PlainFormula) (s : ℕ → ℕ) (c : Pair)
    → formula_value (rule k zero) (weights_in n t) f s ≡ Ok c → CoversCounts covers n t f s c
covers_counts k covers law zero first n t f s c e =
    let h = (formula_good k covers law (weights_in n t) f s).found c (subst (λ b. formula_value (rule k b) (weights_in n t) f s ≡ Ok c) first e) in
    record { supported = h.0; covered = h.1 }

-- by either rule it covers the one by the second rule
pub covers_with_zeros : (k : Kind) (covers : Pair → Fraction → Type 0) → IsLawful k covers → (zero : Bool)
    → (n : ℕ) (t : Table) (f : PlainFormula) (s : ℕ → ℕ) (c : Pair)
    → formula_value (rule k zero) (weights_in n t) f s ≡ Ok c → CoversWithZeros covers n t f s c
covers_with_zeros k covers law true n t f s c e =
    let h = zeros_are_covered k covers law (weights_in n t) f s c e in record { supported = h.0; covered = h.1 }
covers_with_zeros k covers law false n t f s c e =
    let h = zeros_are_covered k covers law (weights_in n t) f s c (zero_keeps_values k (weights_in n t) f s c e) in
    record { supported = h.0; covered = h.1 }

-- and the true one in each model that the counts match
pub covers_matches : (k : Kind) (covers : Pair → Fraction → Type 0) → IsLawful k covers
    → (zero : Bool) (n : ℕ) (t : Table) (f : PlainFormula) (s : ℕ → ℕ) (c : Pair) → IsEvaluable n t f
    → formula_value (rule k zero) (weights_in n t) f s ≡ Ok c → CoversMatches covers n t f s c
covers_matches k covers law zero n t f s c ok e = λ g mixed m fit positive matched within.
    law.keeps.equal c (value_of (weights_in n t) f s) (value_of (weights_of m) f s)
    ((formula_good k covers law (weights_in n t) f s).found c
    (sym (either_rule k covers law zero g mixed m fit positive (is_used t) (weights_in n t) (total t.rows) matched f ok.do_free ok.defs ok.main s within)
    ∙ e)).1
    (matched_has_value g mixed m fit positive (is_used t) (weights_in n t) (total t.rows) matched f ok.do_free ok.defs ok.main s within).1

-- a fault is no missing support where the counts match a positive model
pub denies_matches : (k : Kind) (covers : Pair → Fraction → Type 0) → IsLawful k covers
    → (zero : Bool) (n : ℕ) (t : Table) (f : PlainFormula) (s : ℕ → ℕ) (e : EvalFault) (stop : Stop) → IsEvaluable n t f
    → formula_value (rule k zero) (weights_in n t) f s ≡ Err stop → IsEvaluationFault (is_used t) e stop → DeniesMatches n t s e
denies_matches k covers law zero n t f s (NoSupport cell place) stop ok e h = λ g mixed m fit positive matched within.
    false≢true (sym ((formula_good k covers law (weights_in n t) f s).none tt stop
    (sym (either_rule k covers law zero g mixed m fit positive (is_used t) (weights_in n t) (total t.rows) matched f ok.do_free ok.defs ok.main s within) ∙ e)
    h.0)
    ∙ (matched_has_value g mixed m fit positive (is_used t) (weights_in n t) (total t.rows) matched f ok.do_free ok.defs ok.main s within).0)
denies_matches k covers law zero n t f s (TooWide place) stop ok e h = tt
denies_matches k covers law zero n t f s (TooFine place) stop ok e h = tt
denies_matches k covers law zero n t f s NoMemory stop ok e h = tt

-- and no want of memory
pub needs_no_memory : (used : ℕ → Bool) (e : EvalFault) (stop : Stop) → IsEvaluationFault used e stop → e ≢ NoMemory
needs_no_memory used (NoSupport cell place) stop h = λ x. cc
needs_no_memory used (TooWide place) stop h = λ x. cc
needs_no_memory used (TooFine place) stop h = λ x. cc
needs_no_memory used NoMemory stop h = absurd h
