-- Parts of the bounds at a stratum.
use Rattle.std.proofs.Common.{ℕ, ◌*◌, ◌≡◌, Bool, true, false, cond, eqb, ◌||◌, ◌++◌, List, All, inl, inr, refl, sym, ap, ap₂, ◌∙◌, eqb-true}
use Rattle.std.proofs.lemmas.Bool.{ltb-true, lt-ltb, le-ltb, lt-leb, le-leb, cases_lt}
use Rattle.std.proofs.lemmas.List.Elements.{All-append}
use Rattle.std.specs.Prelude.{nat_le, nat_lt, not, ◌≢◌}
use Rattle.mixed_graph.specs.Vocabulary.{has, members_below}
use Rattle.fractions.specs.Vocabulary.{Fraction, over}
use Rattle.prob_expr.specs.Vocabulary.{Weights}
use Rattle.count_rows.specs.Vocabulary.{Table}
use Rattle.count_table.specs.Vocabulary.{total, HasLevels}
use Rattle.count_eval.specs.Vocabulary.{weights_in, is_used, cell_of}
use Rattle.natural_bounds.specs.declared.ends.End.{End}
use Rattle.natural_bounds.specs.declared.ends.End.TheVariants.{AtLeast, AtMost}
use Rattle.natural_bounds.specs.Vocabulary.{trivial, Asked, joint, treated, level, said, bound_at, stratum_bound, CrossedHaveNoModel}
use Rattle.crossed_bounds.specs.Vocabulary.{paired_bound, PairedCrossedHaveNoModel}
use Rattle.adjusted_bounds.specs.Vocabulary.{adjusted_at}
use Rattle.bound_values.specs.declared.questions.Question.{Question}
use Rattle.bound_values.specs.declared.questions.Method.{Method}
use Rattle.bound_values.specs.declared.questions.Method.TheVariants.{Instruments, LevelPairs, Adjustment}
use Rattle.bound_values.specs.declared.ratios.Ratio.{Ratio}
use Rattle.bound_values.specs.Cells.{printed_vertices, crossing_vertices}
use Rattle.bound_values.specs.Questions.{asked_of, level_set, IsCounted, HasPairs}
use Rattle.bound_values.specs.Values.{fraction_of, bound_by, DeniesModels}
use Rattle.bound_values.specs.Found.{are_crossed}
use Rattle.bound_values.proofs.Sums.{in_fixed, in_given}
use Rattle.table_cells.proofs.Tables.{all_members}
use Rattle.std.proofs.lemmas.Bool.{or_left, or_right}

-- a level with records says this
pub bound_said : (end : End) (n : Weights) (q : Asked) (s : ℕ → ℕ) → (level n q s ≡ 0 → ⊥) → said end n q s ≡ bound_at end n q s
bound_said end n q s some = go (eqb (level n q s) 0) refl
  where
    go : (c : Bool) → eqb (level n q s) 0 ≡ c → said end n q s ≡ cond c (trivial end) (said end n q s)
    go true e = absurd (some (eqb-true (level n q s) 0 e))
    go false e = refl

pub adjusted_said : (end : End) (n : Weights) (q : Asked) (s : ℕ → ℕ) → (treated n q s ≡ 0 → ⊥)
    → over (joint n q s) (treated n q s) ≡ adjusted_at end n q s
adjusted_said end n q s some = go (eqb (treated n q s) 0) refl
  where
    go : (c : Bool) → eqb (treated n q s) 0 ≡ c → over (joint n q s) (treated n q s) ≡ cond c (trivial end) (over (joint n q s) (treated n q s))
    go true e = absurd (some (eqb-true (treated n q s) 0 e))
    go false e = refl

-- bounds cross exactly where the lower one isn't at most the upper one
pub crossed_is : (method : Method) (n : Weights) (q : Asked) (s : ℕ → ℕ) (low high : Ratio) → fraction_of low ≡ bound_by method AtLeast n q s
    → fraction_of high ≡ bound_by method AtMost n q s → are_crossed method n q s ≡ not (nat_le (low.top * high.bottom) (high.top * low.bottom))
crossed_is method n q s low high el eh =
    sym (ap₂ (λ (f h : Fraction). nat_lt (h.top * f.bottom) (f.top * h.bottom)) el eh) ∙ turned (low.top * high.bottom) (high.top * low.bottom)
  where
    turned : (a b : ℕ) → nat_lt b a ≡ not (nat_le a b)
    turned a b = elim (cases_lt b a) [ inl lt ↦ lt-ltb b a lt ∙ sym (ap not (lt-leb a b lt)) | inr le ↦ le-ltb b a le ∙ sym (ap not (le-leb a b le)) ]

-- no model has counts whose bounds cross
pub denied : CrossedHaveNoModel → PairedCrossedHaveNoModel → (method : Method) (n : ℕ) (t : Table) (q : Asked) (cell : List ℕ)
    → (method ≡ LevelPairs → HasPairs n t q) → (method ≢ Adjustment) → HasLevels t (is_used t) cell → are_crossed method (weights_in n t) q (cell_of cell) ≡ true
    → DeniesModels method n t q (cell_of cell)
denied law paired Instruments n t q cell pairs other levels crossed g ok may outside =
    law g ok (is_used t) q may (weights_in n t) (total t.rows) (cell_of cell)
    (record { inside = λ v lt used. (levels v used).1; outside = outside })
    (ltb-true ((stratum_bound AtMost (weights_in n t) q (cell_of cell)).top * (stratum_bound AtLeast (weights_in n t) q (cell_of cell)).bottom)
    ((stratum_bound AtLeast (weights_in n t) q (cell_of cell)).top * (stratum_bound AtMost (weights_in n t) q (cell_of cell)).bottom) crossed)
denied law paired LevelPairs n t q cell pairs other levels crossed g ok may outside =
    paired g ok (is_used t) q may (weights_in n t) (pairs refl).two_valued (total t.rows) (cell_of cell)
    (record { inside = λ v lt used. (levels v used).1; outside = outside })
    (ltb-true ((paired_bound AtMost (weights_in n t) q (cell_of cell)).top * (paired_bound AtLeast (weights_in n t) q (cell_of cell)).bottom)
    ((paired_bound AtLeast (weights_in n t) q (cell_of cell)).top * (paired_bound AtMost (weights_in n t) q (cell_of cell)).bottom) crossed)
denied law paired Adjustment n t q cell pairs other levels crossed g ok may outside = absurd (other refl)

-- ---- the vertices that vary
module _ (t : Table) (q : Question) (asked : IsCounted t (asked_of q)) where
  used_x : All (λ v. is_used t v ≡ true) (members_below (has q.x.bits) 64)
  used_x = all_members (λ v. is_used t v ≡ true) (has q.x.bits) 64
      (λ v lt i. asked v (or_left (has q.x.bits v) (has q.y.bits v || level_set (asked_of q) v) i))

  used_y : All (λ v. is_used t v ≡ true) (members_below (has q.y.bits) 64)
  used_y = all_members (λ v. is_used t v ≡ true) (has q.y.bits) 64
      (λ v lt i. asked v (or_right (has q.x.bits v) (has q.y.bits v || level_set (asked_of q) v) (or_left (has q.y.bits v) (level_set (asked_of q) v) i)))

  used_given : All (λ v. is_used t v ≡ true) (members_below (has q.given.bits) 64)
  used_given = all_members (λ v. is_used t v ≡ true) (has q.given.bits) 64 (λ v lt i. asked v (in_given (asked_of q) v i))

  used_strata : All (λ v. is_used t v ≡ true) (members_below (has q.strata.bits) 64)
  used_strata = all_members (λ v. is_used t v ≡ true) (has q.strata.bits) 64
      (λ v lt i. asked v (in_fixed (asked_of q) v (or_right (has q.given.bits v) (has q.strata.bits v) i)))

  pub printed_used : All (λ v. is_used t v ≡ true) (printed_vertices q)
  printed_used = All-append (λ v. is_used t v ≡ true) (members_below (has q.x.bits) 64 ++ members_below (has q.given.bits) 64) (members_below (has q.y.bits) 64)
      (All-append (λ v. is_used t v ≡ true) (members_below (has q.x.bits) 64) (members_below (has q.given.bits) 64) used_x used_given) used_y

  pub crossing_used : All (λ v. is_used t v ≡ true) (crossing_vertices q)
  crossing_used = All-append (λ v. is_used t v ≡ true) (printed_vertices q) (members_below (has q.strata.bits) 64) printed_used used_strata
