-- Steps of the walk over cells and factors, over plain variables.
use Rattle.std.proofs.Common.{ℕ, zero, suc, ◌+◌, ◌-◌, ◌≡◌, ◌<◌, ◌≤◌, Bool, true, false, cond, refl, sym, ap, ap₂, ◌∙◌, subst, arith}
use Rattle.std.proofs.Common.{Option, None, Result, Ok, Err, List, [], ◌∷◌, All, length, map, drop, get_or, set, get_or-set_other, get_or-set_same, below_more, nat_lt, ◌≢◌}
use Rattle.std.proofs.Math.ListN.{length-set}
use Rattle.std.proofs.lemmas.List.{at_drop_more, length-map}
use Rattle.std.proofs.lemmas.Bool.{ltb-true, ltb-false}
use Rattle.mixed_graph.specs.Vocabulary.{has}
use mathlib.Core.Path.{fun_ext}
use Rattle.finite_models.specs.Vocabulary.{set_at}
use Rattle.prob_expr.specs.Vocabulary.{Weights}
use Rattle.quantity.specs.Kinds.{Pair}
use Rattle.quantity.specs.Vocabulary.{Kind}
use Rattle.count_eval.specs.Stops.{Stop, after}
use Rattle.count_rows.specs.Vocabulary.{Table}
use Rattle.count_table.specs.Vocabulary.{HasLevels, levels_in}
use Rattle.std.proofs.Math.Seq.{take-length}
use Rattle.prob_expr.specs.Tree.{Tree}
use Rattle.count_eval.specs.Evaluated.{evaluated, evaluated_from}
use Rattle.count_eval.specs.Rules.{Rule}
use Rattle.count_eval.specs.Spots.{value_at}
use Rattle.count_eval.specs.Steps.{one_more, each_level, each_cell, whole}
use Rattle.count_eval.specs.Vocabulary.{cell_of, formula_value}
use Rattle.count_eval.proofs.CellSteps.{stays, one_level, cell_of-set}
use Rattle.factor_values.specs.Code.{factor_view}
use Rattle.factor_values.specs.declared.factors.Factor.{Factor}
use Rattle.factor_values.specs.Cells.{cell_added, cells_from}
use Rattle.factor_values.specs.Factors.{PlainFactor, PlainFactors, read_at}
use Rattle.factor_values.specs.Outcomes.{factor_outcome, product_from, sum_outcome}

-- ---- over cells
module _ (U : ℕ → Bool) (size : ℕ → ℕ) (f : (ℕ → ℕ) → Option Pair → Result (Option Pair) Stop) (n v : ℕ) (low : v < n) where
  -- what there is so far, and f at all cells that differ from this one in the members of U from u on
  abbrev pub walk : ℕ → List ℕ → Option Pair → Result (Option Pair) Stop
  walk u cell o = each_cell U size (n - u) u f (cell_of cell) o

  -- those at one level of v
  abbrev pub level_walk : List ℕ → ℕ → Option Pair → Result (Option Pair) Stop
  level_walk cell x o = walk (v + 1) (set cell v x) o

  module _ (cell : List ℕ) (o : Option Pair) where
    abbrev next_free : Bool → Result (Option Pair) Stop
    next_free p = cond p (each_level (size v) (λ x. each_cell U size (n - (v + 1)) (suc v) f (set_at (cell_of cell) v x)) o)
        (each_cell U size (n - (v + 1)) (suc v) f (cell_of cell) o)

    count_more : n - v ≡ suc (n - (v + 1))
    count_more = omega arith

    next_is : (p : Bool) → U v ≡ p → next_free p ≡ walk v cell o
    next_is p e = sym (ap next_free e) ∙ ap (λ j. each_cell U size j v f (cell_of cell) o) (sym count_more)

    -- a vertex that isn't summed over is passed
    pub skipped : U v ≡ false → walk (v + 1) cell o ≡ walk v cell o
    skipped shut = ap (λ j. each_cell U size (n - (v + 1)) j f (cell_of cell) o) (let r : v + 1 ≡ suc v = omega arith in r) ∙ next_is false shut

    module _ (long : v < length cell) (free : U v ≡ true) where
      all_levels : each_level (size v) (level_walk cell) o ≡ walk v cell o
      all_levels = ap (λ (step : ℕ → Option Pair → Result (Option Pair) Stop). each_level (size v) step o)
          (fun_ext (λ x. ap₂ (λ j (s : ℕ → ℕ). each_cell U size (n - (v + 1)) j f s) (let r : v + 1 ≡ suc v = omega arith in r) (cell_of-set cell v x long)))
          ∙ next_is true free

      -- a level without a value ends the walk
      pub loop_err : (p : Option Pair) (x : ℕ) (r : Result (Option Pair) Stop) (stop : Stop) → x < size v → each_level x (level_walk cell) o ≡ Ok p
          → r ≡ level_walk cell x p → Err stop ≡ r → Err stop ≡ walk v cell o
      loop_err p x r stop lt before er ee =
          stays (level_walk cell) o stop (x + 1) (size v) (omega arith) (ee ∙ sym (one_level (level_walk cell) o p x r before er)) ∙ all_levels

      -- what there is after all levels
      pub loop_done : (p : Option Pair) → each_level (size v) (level_walk cell) o ≡ Ok p → Ok p ≡ walk v cell o
      loop_done p e = sym e ∙ all_levels

-- ---- over factors
-- what holds of each plain factor holds of that of the factor with this number
pub at_factor : (P : PlainFactor → Type 0) (fs : List Factor) (i : ℕ) (f : Factor) → i < length fs → f ≡ get_or fs i f → All P (map factor_view fs)
    → P (factor_view f)
at_factor P fs i f lt is each =
    let long = length-map fs factor_view in
    subst P (nth fs i ∙ ap factor_view (sym is)) (each i (factor_view f) (omega (arith, lt, long)))
  where
    nth : (gs : List Factor) (j : ℕ) → get_or (map factor_view gs) j (factor_view f) ≡ factor_view (get_or gs j f)
    nth [] j = refl
    nth (x ∷ xs) zero = refl
    nth (x ∷ xs) (suc j) = nth xs j

-- the factors from number i on
pub factors_left : (fs : List Factor) (i : ℕ) (f : Factor) → i < length fs → f ≡ get_or fs i f
    → map factor_view (drop i fs) ≡ factor_view f ∷ map factor_view (drop (i + 1) fs)
factors_left fs i f lt is = at_drop_more (λ (gs : List Factor). map factor_view gs) fs i f lt
    ∙ ap (λ x. factor_view x ∷ map factor_view (drop (i + 1) fs)) (sym is)

module _ (k : Kind) (w : Weights) (s t : ℕ → ℕ) where
  -- one factor more
  pub factor_more : (f : PlainFactor) (fs : List PlainFactor) (so_far more : Option Pair)
      → one_more k.mul None 2 s (factor_outcome k w f s t) so_far ≡ Ok more → product_from k w fs s t more ≡ product_from k w (f ∷ fs) s t so_far
  factor_more f fs so_far more e = sym (ap (λ r. after r (product_from k w fs s t)) e)

  -- a factor without a value ends the product
  pub factor_stops : (f : PlainFactor) (fs : List PlainFactor) (so_far : Option Pair) (stop : Stop)
      → one_more k.mul None 2 s (factor_outcome k w f s t) so_far ≡ Err stop → Err stop ≡ product_from k w (f ∷ fs) s t so_far
  factor_stops f fs so_far stop e = sym (ap (λ r. after r (product_from k w fs s t)) e)

-- ---- a cell that has levels of its own at the members of a set, and those of another cell elsewhere
pub record IsReadTo (second : ℕ) (first : List ℕ) (g : ℕ → ℕ) (cell : List ℕ) (n : ℕ) : Type 0 where
  pub long : length cell ≡ 64
  pub read : (u : ℕ) → u < n → get_or cell u 0 ≡ cond (has second u) (g u) (get_or first u 0)
  pub rest : (u : ℕ) → n ≤ u → get_or cell u 0 ≡ get_or first u 0

pub read_none : (second : ℕ) (first : List ℕ) (g : ℕ → ℕ) → length first ≡ 64 → IsReadTo second first g first 0
read_none second first g long = record { long = long; read = λ u lt. absurd (omega arith); rest = λ u le. refl }

pub read_second : (second : ℕ) (first : List ℕ) (g : ℕ → ℕ) (cell : List ℕ) (v x : ℕ) → v < 64 → x ≡ g v → IsReadTo second first g cell v → has second v ≡ true
    → IsReadTo second first g (set cell v x) (v + 1)
read_second second first g cell v x lt is_x is e =
    let long = is.long in
    record {
      long = length-set cell v x ∙ is.long;
      read = below_more _ _ (λ u h. let ne : u ≢ v = omega (arith, h) in get_or-set_other cell v u x 0 ne ∙ is.read u h)
          (get_or-set_same cell v x 0 (omega (arith, long, lt)) ∙ is_x ∙ sym (ap (λ b. cond b (g v) (get_or first v 0)) e));
      rest = λ u le. let ne : u ≢ v = omega (arith, le) in get_or-set_other cell v u x 0 ne ∙ is.rest u (omega (arith, le));
    }

pub read_first : (second : ℕ) (first : List ℕ) (g : ℕ → ℕ) (cell : List ℕ) (v : ℕ) → IsReadTo second first g cell v → has second v ≡ false
    → IsReadTo second first g cell (v + 1)
read_first second first g cell v is e = record {
  long = is.long;
  read = below_more _ _ (λ u h. is.read u h) (is.rest v (omega arith) ∙ sym (ap (λ b. cond b (g v) (get_or first v 0)) e));
  rest = λ u le. is.rest u (omega (arith, le));
}

pub past_end : (xs : List ℕ) (i : ℕ) → length xs ≤ i → get_or xs i 0 ≡ 0
past_end [] i le = refl
past_end (x ∷ xs) zero le = absurd (omega arith)
past_end (x ∷ xs) (suc i) le = past_end xs i (omega arith)

pub read_all : (second : ℕ) (first : List ℕ) (g : ℕ → ℕ) (cell : List ℕ) (n : ℕ) → 64 ≤ n → length first ≡ 64
    → ((u : ℕ) → 64 ≤ u → has second u ≡ true → g u ≡ 0) → IsReadTo second first g cell n
    → (u : ℕ) → get_or cell u 0 ≡ cond (has second u) (g u) (get_or first u 0)
read_all second first g cell n le long far is u = go (nat_lt u n) refl
  where
    behind : n ≤ u → (b : Bool) → has second u ≡ b → get_or first u 0 ≡ cond b (g u) (get_or first u 0)
    behind h true i = past_end first u (omega (arith, h, le, long)) ∙ sym (far u (omega (arith, h, le)) i)
    behind h false i = refl

    go : (b : Bool) → nat_lt u n ≡ b → get_or cell u 0 ≡ cond (has second u) (g u) (get_or first u 0)
    go true e = is.read u (ltb-true u n e)
    go false e = let h = ltb-false u n e in is.rest u h ∙ behind h (has second u) refl

pub read_below : (second : ℕ) (first other cell : List ℕ) → ((v : ℕ) → get_or cell v 0 ≡ read_at second (cell_of first) (cell_of other) v)
    → cell_of cell ≡ read_at second (cell_of first) (cell_of other)
read_below second first other cell same = fun_ext same

-- a cell that is read has levels where both others have
pub read_levels : (t : Table) (of : ℕ → Bool) (second : ℕ) (first other cell : List ℕ) → length first ≤ length cell
    → ((v : ℕ) → get_or cell v 0 ≡ read_at second (cell_of first) (cell_of other) v) → HasLevels t of first → HasLevels t of other → HasLevels t of cell
read_levels t of second first other cell le same hf ho v member =
    let (within, low) = hf v member in
    let (behind, small) = ho v member in
    (omega (arith, within, le), subst (λ k. k < length (levels_in t.vertices t.levels v)) (sym (same v)) (go (has second v) low small))
  where
    go : (b : Bool) → get_or first v 0 < length (levels_in t.vertices t.levels v) → get_or other v 0 < length (levels_in t.vertices t.levels v)
        → cond b (get_or other v 0) (get_or first v 0) < length (levels_in t.vertices t.levels v)
    go true low small = small
    go false low small = low

-- ---- a formula, the sum and the quotient
pub main_is : (k : Rule) (w : Weights) (ds : List Tree) (e : Tree) (cell : List ℕ)
    → value_at k w ds (record { def = None; node = 0; cell = cell }) e ≡ formula_value k w (record { defs = ds; main = e }) (cell_of cell)
main_is k w ds e cell =
    ap (λ (l : List Tree). evaluated k w (evaluated_from k w (λ j t. Ok (k.kind.from_ratio 1 1)) 0 l) None 0 e (cell_of cell)) (take-length ds)

pub whole_walk : (k : Kind) (w : Weights) (e : PlainFactors) (t : ℕ → ℕ) (cell : List ℕ)
    → after (cells_from k w e (cell_of cell) t 0 cell None) (whole (k.from_ratio 0 1)) ≡ sum_outcome k w e (cell_of cell) t
whole_walk k w e t cell =
    ap (λ n. after (each_cell (has e.summed) w.size n 0 (cell_added k w e (cell_of cell) t) (cell_of cell) None) (whole (k.from_ratio 0 1)))
    (let r : w.vertices - 0 ≡ w.vertices = omega arith in r)
