-- What values from factors cover.
use Rattle.std.proofs.Common.{◌≡◌, ℕ, Bool, true, false, List, Some, Ok, Err, refl, subst}
use Rattle.std.specs.Global.{Vec}
use Rattle.std.proofs.lemmas.List.Elements.{All-weaker}
use Rattle.quantity.specs.Exacts.{exact}
use Rattle.quantity.specs.Intervals.{bounds}
use Rattle.quantity.specs.Vocabulary.{Covers, Equals}
use Rattle.count_rows.specs.Vocabulary.{Table}
use Rattle.count_table.specs.Vocabulary.{total}
use Rattle.count_eval.specs.Vocabulary.{cell_of, is_used, weights_in}
use Rattle.paired_values.proofs.Levels.{are_observed}
use Rattle.factor_values.specs.Laws.{FactorsAreCovered}
use Rattle.natural_values.specs.Right.{FactorsCoverNested}
use Rattle.evaluate_command.specs.Vocabulary.{CellValue}
use Rattle.evaluate_command.specs.declared.answer.Values.{Values}
use Rattle.paired_values.specs.Vocabulary.{AreValuesOver, IsNameCell, IsWhyNone, below, covers_in, is_wanting, kind_in, plain_values, printed_cells, second_levels, value_in, values_at}
use Rattle.paired_values.proofs.ValuedCells.{each_below, each_value, from_factors, never_below, why_below}
use Rattle.paired_values.proofs.NameModels.{first_within, second_within}
use Rattle.paired_values.specs.declared.fault.PairFault.{PairFault}
use Rattle.paired_values.specs.declared.fault.PairFault.TheVariants.{Below}
use Rattle.evaluate_natural.specs.Effects.{PlainNested, paired_in}
use Rattle.evaluate_natural.specs.Right.{CoversFactors, CoversNested, IsOverTable}
use Rattle.evaluate_natural.specs.Walking.{IsOver}
use Rattle.evaluate_natural.proofs.Evaluable.{evaluable, over_paired}

-- what factors give covers the fraction over the counts, and the effect in each model that has them
module _ (e : PlainNested) (t : Table) (over : IsOver e t) where
  covers_factors : (is_exact : Bool) → FactorsAreCovered (kind_in is_exact) (covers_in is_exact) → (v : CellValue)
      → value_in is_exact (paired_in e) t v.cell ≡ Ok (Some v.quantity) → CoversFactors (covers_in is_exact) e t v
  covers_factors is_exact law v h =
      let all = law (weights_in e.graph.vertices t) e.factors (cell_of v.cell) (second_levels (paired_in e) v.cell) v.quantity
      (from_factors is_exact (paired_in e) t e.factors refl v.cell v.quantity h) in
      record { supported = all.0; covered = all.1 }

  covers_nested : (is_exact : Bool) → FactorsCoverNested (kind_in is_exact) (covers_in is_exact) → (v : CellValue)
      → IsNameCell e.graph.vertices e.asked.question.x.bits t v.cell → value_in is_exact (paired_in e) t v.cell ≡ Ok (Some v.quantity)
      → CoversNested (covers_in is_exact) e t v
  covers_nested is_exact law v is h = λ m fits positive matched.
      law e.graph over.identified.graph m fits positive (is_used t) (weights_in e.graph.vertices t) (total t.rows) matched
      e.asked.question.x.bits e.asked.question.through.bits e.asked.question.y.bits e.asked.question.given.bits e.factors over.identified.factors
      (are_observed e.graph.vertices t e.factors (evaluable e t over)) (cell_of v.cell) (second_levels (paired_in e) v.cell)
      (first_within e.graph e.asked.question.x.bits t v.cell is m fits matched)
      (second_within e.graph e.asked.question.x.bits t v.cell is m fits matched) v.quantity
      (from_factors is_exact (paired_in e) t e.factors refl v.cell v.quantity h)

  -- the quantity is that of its cell
  abbrev IsOfCell : (is_exact : Bool) → CellValue → Type 0
  IsOfCell is_exact v = IsNameCell e.graph.vertices e.asked.question.x.bits t v.cell × (value_in is_exact (paired_in e) t v.cell ≡ Ok (Some v.quantity))

  over_table : (is_exact : Bool) → FactorsAreCovered (kind_in is_exact) (covers_in is_exact) → FactorsCoverNested (kind_in is_exact) (covers_in is_exact)
      → (values : Values) → AreValuesOver is_exact (paired_in e) t values → IsOverTable is_exact e t values
  over_table is_exact counts effects values h =
      let all = each_value is_exact (paired_in e) t (over_paired e t over) values h in
      record {
        evaluated = h;
        counts = All-weaker (IsOfCell is_exact) (CoversFactors (covers_in is_exact) e t) (λ v k. covers_factors is_exact counts v k.1) (plain_values values) all;
        effects = All-weaker (IsOfCell is_exact) (CoversNested (covers_in is_exact) e t) (λ v k. covers_nested is_exact effects v k.0 k.1)
            (plain_values values) all;
      }

  -- in either kind of quantity
  pub values_covered : (is_exact : Bool) → FactorsAreCovered exact Equals → FactorsAreCovered bounds Covers → FactorsCoverNested exact Equals
      → FactorsCoverNested bounds Covers → (values : Values) → AreValuesOver is_exact (paired_in e) t values → IsOverTable is_exact e t values
  values_covered true a b c d = over_table true a c
  values_covered false a b c d = over_table false b d

  -- factors have no value below 0
  nothing_below : (is_exact : Bool) (cell : List ℕ) → values_at (value_in is_exact (paired_in e) t) (printed_cells (paired_in e) t) ≡ Err (below cell) → ⊥
  nothing_below is_exact cell h = never_below is_exact (paired_in e) t e.factors refl cell (each_below is_exact (paired_in e) t (over_paired e t over) cell h).1

  pub nothing_left : (is_exact : Bool) (c : Vec ℕ) (fault : PairFault) → fault ≡ Below c
      → (is_wanting fault ≡ false → IsWhyNone is_exact (paired_in e) t fault) → ⊥
  nothing_left is_exact c fault is why =
      let h = subst (λ f. is_wanting f ≡ false → IsWhyNone is_exact (paired_in e) t f) is why in
      nothing_below is_exact c.items (why_below is_exact (paired_in e) t (Below c) (h refl) c.items refl)
