-- One coordinate of a box after the other.
use Rattle.std.proofs.Common.{ℕ, zero, suc, ◌+◌, ◌≡◌, ◌<◌, ◌≤◌, Bool, true, false, cond, eqb, refl, sym, ap, ◌∙◌, subst, Result, Ok, Err, arith, eqb-true}
use Rattle.std.proofs.Common.{List, length, set}
use mathlib.Core.Path.{fun_ext}
use Rattle.count_eval.specs.Vocabulary.{cell_of}
use Rattle.count_eval.proofs.CellSteps.{cell_of-set}
use Rattle.finite_models.specs.Vocabulary.{set_at}
use Rattle.fractions.specs.Vocabulary.{Fraction}
use Rattle.quantity.specs.Kinds.{Pair}
use Rattle.quantity.specs.declared.fault.QuantityFault.{QuantityFault}
use Rattle.quantity.specs.Vocabulary.{Kind}
use Rattle.natural_bounds.specs.declared.ends.End.{End}
use Rattle.natural_bounds.specs.Vocabulary.{tighter, tightest_below, tightest_over}
use Rattle.bound_values.specs.Values.{plus, total_below, total_over}

-- ---- the tightest bound
module _ (end : End) (u : ℕ → Bool) (s : ℕ → ℕ) (f : (ℕ → ℕ) → Fraction) (b : ℕ → ℕ) where
  pub tightest_none : (v : ℕ) → v ≡ 0 → f b ≡ tightest_over end u s v f b
  tightest_none v e = ap (λ k. tightest_over end u s k f b) (sym e)

  pub tightest_skip : (v k : ℕ) → v ≡ suc k → u k ≡ false → tightest_over end u s k f b ≡ tightest_over end u s v f b
  tightest_skip v k e out = sym (ap (λ j. tightest_over end u s j f b) e
      ∙ ap (λ c. cond c (tightest_below end (s k) (λ x. tightest_over end u s k f (set_at b k x))) (tightest_over end u s k f b)) out)

  pub tightest_all : (v k : ℕ) → v ≡ suc k → u k ≡ true → tightest_below end (s k) (λ x. tightest_over end u s k f (set_at b k x))
      ≡ tightest_over end u s v f b
  tightest_all v k e is_in = sym (ap (λ j. tightest_over end u s j f b) e
      ∙ ap (λ c. cond c (tightest_below end (s k) (λ x. tightest_over end u s k f (set_at b k x))) (tightest_over end u s k f b)) is_in)

pub tightest_more : (end : End) (x : ℕ) (f : ℕ → Fraction) → tighter end (tightest_below end x f) (f x) ≡ tightest_below end (x + 1) f
tightest_more end x f = ap (λ k. tightest_below end k f) (let e : suc x ≡ x + 1 = omega arith in e)

-- ---- sums
module _ (kind : Kind) (u : ℕ → Bool) (s : ℕ → ℕ) (f : (ℕ → ℕ) → Result Pair QuantityFault) (b : ℕ → ℕ) where
  pub total_none : (v : ℕ) → v ≡ 0 → f b ≡ total_over kind u s v f b
  total_none v e = ap (λ k. total_over kind u s k f b) (sym e)

  pub total_skip : (v k : ℕ) → v ≡ suc k → u k ≡ false → total_over kind u s k f b ≡ total_over kind u s v f b
  total_skip v k e out = sym (ap (λ j. total_over kind u s j f b) e
      ∙ ap (λ c. cond c (total_below kind (s k) (λ x. total_over kind u s k f (set_at b k x))) (total_over kind u s k f b)) out)

  pub total_all : (v k : ℕ) → v ≡ suc k → u k ≡ true → total_below kind (s k) (λ x. total_over kind u s k f (set_at b k x)) ≡ total_over kind u s v f b
  total_all v k e is_in = sym (ap (λ j. total_over kind u s j f b) e
      ∙ ap (λ c. cond c (total_below kind (s k) (λ x. total_over kind u s k f (set_at b k x))) (total_over kind u s k f b)) is_in)

-- one term more
pub total_more : (kind : Kind) (x : ℕ) (f : ℕ → Result Pair QuantityFault) (r : Result Pair QuantityFault) → plus kind (total_below kind x f) (f x) ≡ r
    → total_below kind (x + 1) f ≡ r
total_more kind x f r e = ap (λ k. total_below kind k f) (let k : x + 1 ≡ suc x = omega arith in k) ∙ e

-- a fault stays
pub fault_stays : (kind : Kind) (f : ℕ → Result Pair QuantityFault) (e : QuantityFault) (x n : ℕ) → x ≤ n → total_below kind x f ≡ Err e
    → total_below kind n f ≡ Err e
fault_stays kind f e x zero le h = subst (λ k. total_below kind k f ≡ Err e) (let k : x ≡ 0 = omega arith in k) h
fault_stays kind f e x (suc n) le h = go (eqb x (suc n)) refl (λ lt. fault_stays kind f e x n lt h)
  where
    go : (c : Bool) → eqb x (suc n) ≡ c → (x ≤ n → total_below kind n f ≡ Err e) → total_below kind (suc n) f ≡ Err e
    go true same ih = subst (λ k. total_below kind k f ≡ Err e) (eqb-true x (suc n) same) h
    go false other ih = ap (λ r. plus kind r (f n)) (ih (let d : x ≡ suc n → ⊥ = λ q. absurd (grind (arith, q, other)) in omega arith))

-- ---- over a cell
-- the levels of the coordinate k
tightest_levels : (end : End) (u : ℕ → Bool) (s : ℕ → ℕ) (f : (ℕ → ℕ) → Fraction) (cell : List ℕ) (k : ℕ) → k < length cell
    → tightest_below end (s k) (λ x. tightest_over end u s k f (cell_of (set cell k x)))
    ≡ tightest_below end (s k) (λ x. tightest_over end u s k f (set_at (cell_of cell) k x))
tightest_levels end u s f cell k low = ap (tightest_below end (s k)) (fun_ext (λ x. ap (tightest_over end u s k f) (cell_of-set cell k x low)))

pub tightest_done : (end : End) (u : ℕ → Bool) (s : ℕ → ℕ) (f : (ℕ → ℕ) → Fraction) (cell : List ℕ) (v k : ℕ) → v ≡ suc k → u k ≡ true → k < length cell
    → (r : Fraction) → r ≡ tightest_below end (s k) (λ x. tightest_over end u s k f (cell_of (set cell k x))) → r ≡ tightest_over end u s v f (cell_of cell)
tightest_done end u s f cell v k e is_in low r h = h ∙ tightest_levels end u s f cell k low ∙ tightest_all end u s f (cell_of cell) v k e is_in

pub total_done : (kind : Kind) (u : ℕ → Bool) (s : ℕ → ℕ) (f : (ℕ → ℕ) → Result Pair QuantityFault) (cell : List ℕ) (v k : ℕ) → v ≡ suc k → u k ≡ true
    → k < length cell → (r : Result Pair QuantityFault) → total_below kind (s k) (λ x. total_over kind u s k f (cell_of (set cell k x))) ≡ r
    → r ≡ total_over kind u s v f (cell_of cell)
total_done kind u s f cell v k e is_in low r h =
    sym h ∙ ap (total_below kind (s k)) (fun_ext (λ x. ap (total_over kind u s k f) (cell_of-set cell k x low)))
    ∙ total_all kind u s f (cell_of cell) v k e is_in

-- ---- faults
-- a term without a value ends the sum
pub total_err : (kind : Kind) (f : ℕ → Result Pair QuantityFault) (x n : ℕ) (total : Pair) (e : QuantityFault) → x < n → total_below kind x f ≡ Ok total
    → Err e ≡ f x → total_below kind n f ≡ Err e
total_err kind f x n total e lt before h = fault_stays kind f e (x + 1) n (omega (arith, lt))
    (total_more kind x f (Err e) (ap (λ r. plus kind r (f x)) before ∙ ap (plus kind (Ok total)) (sym h)))

-- and so does one that can't be added
pub total_err_add : (kind : Kind) (f : ℕ → Result Pair QuantityFault) (x n : ℕ) (total more : Pair) (e : QuantityFault) → x < n
    → total_below kind x f ≡ Ok total → Ok more ≡ f x → kind.add total more ≡ Err e → total_below kind n f ≡ Err e
total_err_add kind f x n total more e lt before h added = fault_stays kind f e (x + 1) n (omega (arith, lt))
    (total_more kind x f (Err e) (ap (λ r. plus kind r (f x)) before ∙ ap (plus kind (Ok total)) (sym h) ∙ added))
