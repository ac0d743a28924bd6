-- Steps of the evaluator, over plain variables.
use Rattle.std.proofs.Common.{ℕ, zero, suc, ◌+◌, ◌-◌, ◌≡◌, ◌<◌, ◌≤◌, Bool, true, false, cond, ◌||◌, eqb, eq-eqb, refl, sym, ap, ap₂, ◌∙◌, subst, arith}
use Rattle.std.proofs.Common.{Option, None, Result, Ok, Err, List, length, get_or, set, replicate, get_or-set_same, get_or-set_other, eqb-true}
use mathlib.Core.Path.{fun_ext}
use Rattle.finite_models.specs.Vocabulary.{set_at}
use Rattle.mixed_graph.specs.declared.sets.VSet.{VSet}
use Rattle.mixed_graph.specs.Vocabulary.{has}
use Rattle.prob_expr.specs.Tree.{Tree, sum, product, quotient, tree}
use Rattle.prob_expr.specs.Vocabulary.{Trees, no_trees, Weights, next_node}
use Rattle.quantity.specs.Kinds.{Pair}
use Rattle.count_eval.specs.Rules.{Rule, is_zero, or_zero}
use Rattle.count_eval.specs.declared.eval.Summing.{Summing}
use Rattle.count_eval.specs.declared.spot.Spot.{Spot}
use Rattle.count_eval.specs.Stops.{Stop, after, placed}
use Rattle.count_eval.specs.Steps.{one_more, each_level, each_cell, whole}
use Rattle.count_eval.specs.Evaluated.{node_behind}
use Rattle.count_eval.specs.Programs.{cell_of}
use Rattle.count_eval.specs.Spots.{value_at, cell_added, cells_from, factors_from, zero_from}

module _ (k : Rule) (w : Weights) (ds : List Tree) (at : Spot) where
  -- the value of a sum, by its body at all cells
  pub sum_is : (over : VSet) (e : Tree) → after (cells_from k w ds (record { at = at; over = over }) e 0 at.cell None) (whole (k.kind.from_ratio 0 1))
      ≡ value_at k w ds at (sum over.bits e)
  sum_is over e =
      ap (λ n. after (each_cell (has over.bits) w.size n 0 (cell_added k w ds at e) (cell_of at.cell) None) (whole (k.kind.from_ratio 0 1)))
      (let r : w.vertices - 0 ≡ w.vertices = omega arith in r)

  -- the value of a quotient, by those of its parts
  pub quotient_is : (x y : Tree) (a b : Pair) (first second : ℕ) → first ≡ next_node at.node → second ≡ node_behind x first
      → Ok a ≡ value_at k w ds (record at { node = first }) x → Ok b ≡ value_at k w ds (record at { node = second }) y
      → placed at.def at.node (cell_of at.cell) (k.kind.div a b) ≡ value_at k w ds at (quotient x y)
  quotient_is x y a b first second ef es ea eb =
      ap₂ (λ u v. after u (λ a'. after v (λ b'. placed at.def at.node (cell_of at.cell) (k.kind.div a' b'))))
      (ea ∙ ap (λ i. value_at k w ds (record at { node = i }) x) ef)
      (eb ∙ ap (λ i. value_at k w ds (record at { node = i }) y) (es ∙ ap (node_behind x) ef))

  -- one factor more
  pub factor_more : (next : ℕ) (e : Tree) (rest : Trees) (so_far : Result (Option Pair) Stop)
      → after (after so_far (one_more k.kind.mul at.def at.node (cell_of at.cell) (value_at k w ds (record at { node = next }) e)))
      (factors_from k w ds at (node_behind e next) rest) ≡ after so_far (factors_from k w ds at next (tree e rest))
  factor_more next e rest (Ok o) = refl
  factor_more next e rest (Err s) = refl

  pub zero_more : (next : ℕ) (e : Tree) (rest : Trees) (some : Bool)
      → ((some || is_zero k.kind (value_at k w ds (record at { node = next }) e)) || zero_from k w ds at (node_behind e next) rest)
      ≡ (some || zero_from k w ds at next (tree e rest))
  zero_more next e rest true = refl
  zero_more next e rest false = refl

  -- the value of a product, when no factor is left
  pub product_is : (ts : Trees) (next : ℕ) (some : Bool) (so_far : Result (Option Pair) Stop)
      → after so_far (factors_from k w ds at next no_trees) ≡ factors_from k w ds at (next_node at.node) ts None
      → (some || zero_from k w ds at next no_trees) ≡ zero_from k w ds at (next_node at.node) ts
      → or_zero k some (after so_far (whole (k.kind.from_ratio 1 1))) ≡ value_at k w ds at (product ts)
  product_is ts next some so_far value zeros =
      ap₂ (λ z x. or_zero k z (after x (whole (k.kind.from_ratio 1 1)))) (sym (or_none some) ∙ zeros) (all_done so_far ∙ value)
    where
      or_none : (b : Bool) → (b || false) ≡ b
      or_none true = refl
      or_none false = refl

      all_done : (x : Result (Option Pair) Stop) → x ≡ after x (factors_from k w ds at next no_trees)
      all_done (Ok o) = refl
      all_done (Err s) = refl

module _ (U : ℕ → Bool) (size : ℕ → ℕ) (f : (ℕ → ℕ) → Option Pair → Result (Option Pair) Stop) (n m v : ℕ) (s : ℕ → ℕ) (o : Option Pair) (en : n ≡ suc m) where
  abbrev next_free : Bool → Result (Option Pair) Stop
  next_free p = cond p (each_level (size v) (λ x. each_cell U size m (suc v) f (set_at s v x)) o) (each_cell U size m (suc v) f s o)

  next_is : (p : Bool) → U v ≡ p → next_free p ≡ each_cell U size n v f s o
  next_is p e = sym (ap next_free e) ∙ ap (λ j. each_cell U size j v f s o) (sym en)

  skipped : U v ≡ false → each_cell U size m (v + 1) f s o ≡ each_cell U size n v f s o
  skipped shut = ap (λ j. each_cell U size m j f s o) (let r : v + 1 ≡ suc v = omega arith in r) ∙ next_is false shut

  spread : U v ≡ true → each_level (size v) (λ x. each_cell U size m (v + 1) f (set_at s v x)) o ≡ each_cell U size n v f s o
  spread free = ap (λ j. each_level (size v) (λ x. each_cell U size m j f (set_at s v x)) o) (let r : v + 1 ≡ suc v = omega arith in r) ∙ next_is true free

false_true : false ≡ true → ⊥
false_true e = cc

-- a level that has no value ends the run
pub stays : (step : ℕ → Option Pair → Result (Option Pair) Stop) (o : Option Pair) (e : Stop) (x n : ℕ) → x ≤ n → Err e ≡ each_level x step o → Err e
    ≡ each_level n step o
stays step o e x zero le h = subst (λ m. Err e ≡ each_level m step o) (let r : x ≡ 0 = omega arith in r) h
stays step o e x (suc n) le h = go (eqb x (suc n)) refl (λ lt. stays step o e x n lt h)
  where
    go : (b : Bool) → eqb x (suc n) ≡ b → (x ≤ n → Err e ≡ each_level n step o) → Err e ≡ each_level (suc n) step o
    go true t ih = subst (λ m. Err e ≡ each_level m step o) (eqb-true x (suc n) t) h
    go false t ih = ap (λ r. after r (step n)) (ih (grind (arith, t)))

pub one_level : (step : ℕ → Option Pair → Result (Option Pair) Stop) (o p : Option Pair) (x : ℕ) (r : Result (Option Pair) Stop) → each_level x step o ≡ Ok p
    → r ≡ step x p → each_level (x + 1) step o ≡ r
one_level step o p x r before e = ap (λ m. each_level m step o) (let k : x + 1 ≡ suc x = omega arith in k) ∙ ap (λ y. after y (step x)) before ∙ sym e

pub cell_of-set : (cell : List ℕ) (v x : ℕ) → v < length cell → cell_of (set cell v x) ≡ set_at (cell_of cell) v x
cell_of-set cell v x lt = fun_ext (λ j. go j (eqb j v) refl)
  where
    differ : (j : ℕ) → eqb j v ≡ false → j ≡ v → ⊥
    differ j e s = let bad : false ≡ true = sym e ∙ eq-eqb j v s in false_true bad

    go : (j : ℕ) (b : Bool) → eqb j v ≡ b → get_or (set cell v x) j 0 ≡ cond b x (get_or cell j 0)
    go j true e = ap (λ m. get_or (set cell v x) m 0) (eqb-true j v e) ∙ get_or-set_same cell v x 0 lt
    go j false e = get_or-set_other cell v j x 0 (differ j e)

module _ (k : Rule) (w : Weights) (ds : List Tree) (summing : Summing) (e : Tree) (v : ℕ) (cell : List ℕ) where
  -- the cells at a level of the vertex v
  abbrev pub level_at : ℕ → Option Pair → Result (Option Pair) Stop
  level_at x so_far = cells_from k w ds summing e (v + 1) (set cell v x) so_far

  module _ (low : v < w.vertices) where
    count_more : w.vertices - v ≡ suc (w.vertices - (v + 1))
    count_more = omega arith

    -- a vertex that isn't summed over is passed
    pub skip : has summing.over.bits v ≡ false → (o : Option Pair) → cells_from k w ds summing e (v + 1) cell o ≡ cells_from k w ds summing e v cell o
    skip shut o = skipped (has summing.over.bits) w.size (cell_added k w ds summing.at e) (w.vertices - v) (w.vertices - (v + 1)) v (cell_of cell)
        o count_more shut

    module _ (long : v < length cell) (free : has summing.over.bits v ≡ true) (o : Option Pair) where
      all_levels : each_level (w.size v) level_at o ≡ cells_from k w ds summing e v cell o
      all_levels =
          let U = has summing.over.bits in let f = cell_added k w ds summing.at e in let m = w.vertices - (v + 1) in
          ap (λ (step : ℕ → Option Pair → Result (Option Pair) Stop). each_level (w.size v) step o)
          (fun_ext (λ x. ap (λ (s : ℕ → ℕ). each_cell U w.size m (v + 1) f s) (cell_of-set cell v x long)))
          ∙ spread U w.size f (w.vertices - v) m v (cell_of cell) o count_more free

      -- a level without a value ends the run
      pub loop_err : (p : Option Pair) (x : ℕ) (r : Result (Option Pair) Stop) (stop : Stop) → x < w.size v → each_level x level_at o ≡ Ok p → r
          ≡ level_at x p → Err stop ≡ r → Err stop ≡ cells_from k w ds summing e v cell o
      loop_err p x r stop lt before er ee =
          stays level_at o stop (x + 1) (w.size v) (omega arith) (ee ∙ sym (one_level level_at o p x r before er)) ∙ all_levels

      -- what there is after all levels
      pub loop_done : (p : Option Pair) → each_level (w.size v) level_at o ≡ Ok p → Ok p ≡ cells_from k w ds summing e v cell o
      loop_done p e = sym e ∙ all_levels

-- a cell of zeros
pub zeros : (n u : ℕ) → get_or {A = ℕ} (replicate {A = ℕ} n 0) u 0 ≡ 0
zeros zero u = refl
zeros (suc n) zero = refl
zeros (suc n) (suc u) = zeros n u

pub length-zeros : (n : ℕ) → length {A = ℕ} (replicate {A = ℕ} n 0) ≡ n
length-zeros zero = refl
length-zeros (suc n) = let r = length-zeros n in omega (arith, r)
