-- Levels of names as levels of vertices.
use Rattle.std.proofs.Common.{ℕ, ◌≡◌, ◌<◌, ◌≤◌, Bool, true, false, cond, refl, sym, subst, arith, List, length, get_or}
use Rattle.mixed_graph.specs.Vocabulary.{has}
use Rattle.count_rows.specs.Vocabulary.{Table}
use Rattle.count_table.specs.Vocabulary.{HasLevels, levels_in}
use Rattle.count_eval.specs.Vocabulary.{cell_of, is_used}
use Rattle.treated_models.specs.Vocabulary.{as_observed, prime_of}
use Rattle.treated_models.proofs.Primes.{vertex_plain, vertex_primed, prime_low}
use Rattle.factor_values.specs.Vocabulary.{AreEvaluable, AreObserved, PlainFactors}
use Rattle.paired_values.specs.Cells.{HaveLevels}

module _ (n x : ℕ) (t : Table) (cell : List ℕ) (long : length cell ≡ 64) (few : n ≤ 64) (within : (v : ℕ) → has x v ≡ true → v < n)
    (below : (v : ℕ) → is_used t v ≡ true → v < n) (have : HaveLevels n x t cell) where
  own_level : (v : ℕ) → is_used t v ≡ true → get_or cell v 0 < length (levels_in t.vertices t.levels v)
  own_level v e =
      let lt = below v e in let same = vertex_plain n x v lt in
      subst (λ k. get_or cell v 0 < length (levels_in t.vertices t.levels k)) same
      (have v (omega (arith, lt)) (subst (λ k. is_used t k ≡ true) (sym same) e))

  seen_level : (v : ℕ) → has x v ≡ true → is_used t v ≡ true → get_or cell (prime_of n x v) 0 < length (levels_in t.vertices t.levels v)
  seen_level v i e =
      let same = vertex_primed n x v (within v i) i in
      subst (λ k. get_or cell (prime_of n x v) 0 < length (levels_in t.vertices t.levels k)) same
      (have (prime_of n x v) (prime_low n x v (within v i) i) (subst (λ k. is_used t k ≡ true) (sym same) e))

  pub first_levels : HasLevels t (is_used t) cell
  first_levels v e = (let lt = below v e in omega (arith, lt, few, long), own_level v e)

  pub second_levels : (seen : List ℕ) → length seen ≡ 64 → ((v : ℕ) → get_or seen v 0 ≡ as_observed n x (cell_of cell) v) → HasLevels t (is_used t) seen
  second_levels seen long' same v e = (
    let lt = below v e in omega (arith, lt, few, long'),
    subst (λ k. k < length (levels_in t.vertices t.levels v)) (sym (same v)) (go (has x v) refl),
  )
    where
      go : (b : Bool) → has x v ≡ b → cond b (get_or cell (prime_of n x v) 0) (get_or cell v 0) < length (levels_in t.vertices t.levels v)
      go true i = seen_level v i e
      go false i = own_level v e

-- factors that can be evaluated read used vertices alone
pub are_observed : (n : ℕ) (t : Table) (e : PlainFactors) → AreEvaluable n t e → AreObserved (is_used t) e
are_observed n t e h = record {
  summed = h.summed;
  factors = λ k d lt. let f = h.factors k d lt in record { do_free = f.do_free; defs = f.defs; main = f.main };
  given = h.given;
}
