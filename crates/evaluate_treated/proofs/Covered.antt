-- What the values at the printed cells stand for, and what follows where there is none.
use Rattle.std.proofs.Common.{◌≡◌, ℕ, Bool, true, false, ◌||◌, List, Some, None, Ok, Err, Result, IfOk, IfErr, refl, sym, ap, subst, if◌then◌else◌}
use Rattle.std.proofs.lemmas.List.Elements.{All-weaker}
use Rattle.mixed_graph.specs.Vocabulary.{has}
use Rattle.finite_models.specs.Vocabulary.{FiniteModel, Fits}
use Rattle.prob_expr.specs.Vocabulary.{PlainFormula}
use Rattle.count_rows.specs.Vocabulary.{Table}
use Rattle.count_table.specs.Vocabulary.{total}
use Rattle.count_eval.specs.Vocabulary.{IsMatched, cell_of, is_used, weights_in}
use Rattle.treated_models.specs.Vocabulary.{as_observed, effect_among, prime_of}
use Rattle.paired_values.proofs.Levels.{are_observed}
use Rattle.factor_values.specs.Laws.{FactorsAreCovered}
use Rattle.factor_values.specs.Vocabulary.{PlainFactors}
use Rattle.named_factors.specs.Covers.{FactorsCoverAmong}
use Rattle.split_values.specs.Laws.{NoneIsUnmatched, SplitEnclosesAmong, SplitIsEnclosed}
use Rattle.split_values.specs.Vocabulary.{AreObservedAt, IsObservedSplit}
use Rattle.evaluate_command.specs.Vocabulary.{CellValue}
use Rattle.evaluate_command.specs.declared.answer.Values.{Values}
use Rattle.paired_values.specs.Readings.{read_by}
use Rattle.paired_values.specs.Vocabulary.{AreValuesOver, IsNameCell, IsWhyNone, PlainPaired, PlainReading, by_factors, by_split, covers_in, encloses_in, is_wanting, kind_in, minus_in, plain_values, second_levels, sets_of, value_in}
use Rattle.paired_values.specs.declared.fault.PairFault.{PairFault}
use Rattle.paired_values.proofs.NameModels.{assigned, first_within, second_within}
use Rattle.paired_values.proofs.ValuedCells.{each_below, each_value, from_factors, from_split, never_below, why_below}
use Rattle.evaluate_treated.specs.Effects.{IsRightJoint, IsRightReading, PlainAmong, paired_in}
use Rattle.evaluate_treated.specs.Right.{AreTwoLevels, CoversAmong, HasItsLevels, NoModelHas, ShowsCounts, shown_in}
use Rattle.evaluate_treated.specs.Walking.{AreShown, IsNone, IsOver}
use Rattle.evaluate_treated.proofs.Evaluable.{factors_evaluable, joint_evaluable, over_paired, used}

-- what a kind of quantity promises of both readings
pub record AreLaws (is_exact : Bool) : Type 0 where
  pub factors_counts : FactorsAreCovered (kind_in is_exact) (covers_in is_exact)
  pub factors_among : FactorsCoverAmong (kind_in is_exact) (covers_in is_exact)
  pub split_counts : SplitIsEnclosed (kind_in is_exact) (minus_in is_exact) (encloses_in is_exact)
  pub split_among : SplitEnclosesAmong (kind_in is_exact) (minus_in is_exact) (encloses_in is_exact)
  pub split_none : NoneIsUnmatched (kind_in is_exact) (minus_in is_exact)

pub laws_for : AreLaws true → AreLaws false → (is_exact : Bool) → AreLaws is_exact
laws_for a b true = a
laws_for a b false = b

-- but for x the second levels are the first ones
others_same : (n x : ℕ) (s : ℕ → ℕ) (v : ℕ) → has x v ≡ false → as_observed n x s v ≡ s v
others_same n x s v h = ap (λ b. if b then s (prime_of n x v) else s v) h

module _ (is_exact : Bool) (laws : AreLaws is_exact) (e : PlainAmong) (t : Table) (over : IsOver e t) where
  abbrev x : ℕ
  x = e.asked.sets.x.bits

  -- ---- from factors
  from_right_factors : (f : PlainFactors) → e.reading ≡ by_factors f → IsRightReading e.graph e.asked.sets (by_factors f)
      → (v : CellValue) → IsNameCell e.graph.vertices e.asked.sets.x.bits t v.cell → value_in is_exact (paired_in e) t v.cell ≡ Ok (Some v.quantity)
      → ShowsCounts is_exact e (by_factors f) t v × CoversAmong (covers_in is_exact) e t v
  from_right_factors f is right v cell h =
      let s = e.asked.sets in let w = weights_in e.graph.vertices t in
      let value = from_factors is_exact (paired_in e) t f is v.cell v.quantity h in
      let all = laws.factors_counts w f (cell_of v.cell) (second_levels (paired_in e) v.cell) v.quantity value in
      let read = subst (λ r. (u : ℕ) → has (read_by r (sets_of (paired_in e))) u ≡ true → is_used t u ≡ true) is (used e t over) in (
        record { supported = all.0; covered = all.1 },
        λ m fits positive matched. laws.factors_among e.graph over.identified.graph m fits positive (is_used t) w (total t.rows) matched
            s.x.bits s.y.bits s.given.bits f right.factors (are_observed e.graph.vertices t f (factors_evaluable e t over f right read)) (cell_of v.cell)
            (assigned e.graph s.x.bits t v.cell cell m fits matched) v.quantity value,
      )

  -- ---- by two levels
  module _ (joint : PlainFormula) (is : e.reading ≡ by_split joint) (right : IsRightJoint e.graph e.asked.sets joint) (two : AreTwoLevels e.asked.sets.x.bits t)
    where
      observed_split : IsObservedSplit (is_used t) (weights_in e.graph.vertices t) e.asked.sets.x.bits e.asked.sets.y.bits e.asked.sets.given.bits joint
      observed_split =
          let read = subst (λ r. (u : ℕ) → has (read_by r (sets_of (paired_in e))) u ≡ true → is_used t u ≡ true) is (used e t over) in
          let k = joint_evaluable e t over joint right read in
          record { x_used = k.x_used; y_used = k.y_used; z_used = k.z_used; defs = k.formula.defs; main = k.formula.main; two = two }

      observed_at : (cell : List ℕ) → IsNameCell e.graph.vertices e.asked.sets.x.bits t cell → (m : FiniteModel) → Fits e.graph m
          → IsMatched (is_used t) (weights_in e.graph.vertices t) (total t.rows) m
          → AreObservedAt m e.asked.sets.x.bits (cell_of cell) (second_levels (paired_in e) cell)
      observed_at cell named m fits matched = record {
        first = first_within e.graph e.asked.sets.x.bits t cell named m fits matched;
        second = second_within e.graph e.asked.sets.x.bits t cell named m fits matched;
        others = others_same e.graph.vertices e.asked.sets.x.bits (cell_of cell);
      }

      from_right_joint : (v : CellValue) → IsNameCell e.graph.vertices e.asked.sets.x.bits t v.cell
          → value_in is_exact (paired_in e) t v.cell ≡ Ok (Some v.quantity)
          → ShowsCounts is_exact e (by_split joint) t v × CoversAmong (encloses_in is_exact) e t v
      from_right_joint v named h =
          let s = e.asked.sets in let w = weights_in e.graph.vertices t in
          let value = from_split is_exact (paired_in e) t joint is v.cell (Ok (Some v.quantity)) h in
          let all = laws.split_counts w s.x.bits s.y.bits s.given.bits joint (cell_of v.cell) (second_levels (paired_in e) v.cell) v.quantity value in (
            record { supported = all.0; enclosed = all.1 },
            λ m fits positive matched.
                subst (λ n. encloses_in is_exact v.quantity (effect_among m (has s.x.bits) (has s.y.bits) (λ u. has s.x.bits u || has s.given.bits u)
                (cell_of v.cell) (as_observed n s.x.bits (cell_of v.cell)))) (sym fits.vertices)
                (laws.split_among e.graph over.identified.graph m fits positive (is_used t) w (total t.rows) matched
                s.x.bits s.y.bits s.given.bits joint right.target observed_split (cell_of v.cell) (second_levels (paired_in e) v.cell)
                (observed_at v.cell named m fits matched) v.quantity value),
          )

      -- where there is none, no model has the counts
      none_of_joint : (cell : List ℕ) → IsNameCell e.graph.vertices e.asked.sets.x.bits t cell → value_in is_exact (paired_in e) t cell ≡ Ok None
          → NoModelHas e.graph t
      none_of_joint cell named h m fits positive matched =
          let s = e.asked.sets in
          laws.split_none e.graph over.identified.graph m fits positive (is_used t) (weights_in e.graph.vertices t) (total t.rows) matched
          s.x.bits s.y.bits s.given.bits joint right.target observed_split (cell_of cell) (second_levels (paired_in e) cell)
          (observed_at cell named m fits matched) (from_split is_exact (paired_in e) t joint is cell (Ok None) h)

  -- ---- either way
  value_shown : (r : PlainReading) → e.reading ≡ r → IsRightReading e.graph e.asked.sets r → HasItsLevels e.asked.sets.x.bits t r
      → (v : CellValue) → IsNameCell e.graph.vertices e.asked.sets.x.bits t v.cell → value_in is_exact (paired_in e) t v.cell ≡ Ok (Some v.quantity)
      → ShowsCounts is_exact e r t v × CoversAmong (shown_in is_exact r) e t v
  value_shown (by_factors f) is right levels v named h = from_right_factors f is right v named h
  value_shown (by_split joint) is right levels v named h = from_right_joint joint is right levels v named h

  none_below : (r : PlainReading) → e.reading ≡ r → IsRightReading e.graph e.asked.sets r → HasItsLevels e.asked.sets.x.bits t r
      → (cell : List ℕ) → IsNameCell e.graph.vertices e.asked.sets.x.bits t cell → value_in is_exact (paired_in e) t cell ≡ Ok None → NoModelHas e.graph t
  none_below (by_factors f) is right levels cell named h = absurd (never_below is_exact (paired_in e) t f is cell h)
  none_below (by_split joint) is right levels cell named h = none_of_joint joint is right levels cell named h

  -- the quantity is that of its cell
  abbrev IsOfCell : CellValue → Type 0
  IsOfCell v = IsNameCell e.graph.vertices e.asked.sets.x.bits t v.cell × (value_in is_exact (paired_in e) t v.cell ≡ Ok (Some v.quantity))

  module _ (levels : HasItsLevels e.asked.sets.x.bits t e.reading) where
    are_shown : (values : Values) → AreValuesOver is_exact (paired_in e) t values → AreShown is_exact e t values
    are_shown values h =
        let all = each_value is_exact (paired_in e) t (over_paired e t over) values h in
        record {
          evaluated = h;
          counts = All-weaker IsOfCell (ShowsCounts is_exact e e.reading t)
              (λ v k. (value_shown e.reading refl over.identified.right levels v k.0 k.1).0) (plain_values values) all;
          effects = All-weaker IsOfCell (CoversAmong (shown_in is_exact e.reading) e t)
              (λ v k. (value_shown e.reading refl over.identified.right levels v k.0 k.1).1) (plain_values values) all;
        }

    pub if_shown : (p : PlainPaired) → p ≡ paired_in e → (r : Result Values PairFault) → IfOk r (AreValuesOver is_exact p t) → IfOk r (AreShown is_exact e t)
    if_shown p same (Ok values) h = are_shown values (subst (λ (k : PlainPaired). AreValuesOver is_exact k t values) same h)
    if_shown p same (Err fault) h = tt

    is_none : (fault : PairFault) → IsWhyNone is_exact (paired_in e) t fault → IsNone is_exact e t fault
    is_none fault h = record {
      why = h;
      none = λ cell is.
          let c = each_below is_exact (paired_in e) t (over_paired e t over) cell (why_below is_exact (paired_in e) t fault h cell is) in
          none_below e.reading refl over.identified.right levels cell c.0 c.1;
    }

    pub if_none : (p : PlainPaired) → p ≡ paired_in e → (r : Result Values PairFault) → IfErr r (λ f. is_wanting f ≡ false → IsWhyNone is_exact p t f)
        → IfErr r (λ f. is_wanting f ≡ false → IsNone is_exact e t f)
    if_none p same (Ok values) h = tt
    if_none p same (Err fault) h = λ kept. is_none fault (subst (λ (k : PlainPaired). IsWhyNone is_exact k t fault) same (h kept))
