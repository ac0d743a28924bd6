-- What the told ends of bounds say of models.
use Rattle.std.proofs.Common.{◌≡◌, ℕ, ◌≤◌, Bool, true, false, cond, eqb, List, [], ◌∷◌, Result, Ok, Err, All, refl, sym, ap, subst, ◌∙◌, arith}
use Rattle.std.proofs.lemmas.List.Elements.{All-nil, All-cons}
use Rattle.mixed_graph.specs.Vocabulary.{Apart}
use Rattle.finite_models.specs.Vocabulary.{probability}
use Rattle.fractions.specs.Vocabulary.{Fraction, over}
use Rattle.quantity.specs.Kinds.{Pair}
use Rattle.quantity.specs.declared.fault.QuantityFault.{QuantityFault}
use Rattle.quantity.specs.Vocabulary.{Keeps, Equals, Covers, exact_lawful, bounds_lawful}
use Rattle.count_rows.specs.Vocabulary.{Table}
use Rattle.count_eval.specs.Vocabulary.{weights_in, cell_of}
use Rattle.natural_bounds.specs.declared.ends.End.{End}
use Rattle.natural_bounds.specs.declared.ends.End.TheVariants.{AtLeast, AtMost}
use Rattle.natural_bounds.specs.Vocabulary.{Asked, condition, BoundsHold}
use Rattle.natural_bounds.specs.Orders.{Bounds}
use Rattle.natural_bounds.proofs.Orders.{equal_at_most, equal_at_least, bounds_trans}
use Rattle.crossed_bounds.specs.Vocabulary.{PairedBoundsHold}
use Rattle.adjusted_bounds.specs.Vocabulary.{AdjustedBoundsHold}
use Rattle.bound_values.specs.declared.questions.Method.{Method}
use Rattle.bound_values.specs.declared.questions.Method.TheVariants.{LevelPairs}
use Rattle.bound_values.specs.declared.values.Value.{Value}
use Rattle.bound_values.specs.declared.values.CellBounds.{CellBounds}
use Rattle.bound_values.specs.declared.values.CellFault.{CellFault}
use Rattle.bound_values.specs.declared.values.CellFault.TheVariants.{NoRecords}
use Rattle.bound_values.specs.Values.{bound_value, bound_of}
use Rattle.std.proofs.Common.{◌++◌}
use Rattle.std.specs.Global.{Vec}
use Rattle.bound_values.specs.declared.questions.Question.{Question}
use Rattle.bound_values.specs.Questions.{asked_of, HasPairs}
use Rattle.bound_values.specs.Cells.{printed_cells}
use Rattle.bound_values.specs.Found.{AreBounds}
use Rattle.bound_values.specs.Told.{Appends, kind_of, number_of, value_in, told_value, end_value, both_ends, cell_bounds, in_front, bounds_at, IsEnd, AreEnds}
use Rattle.bound_values.proofs.Covered.{condition_stays, bound_covered, bound_holds}

-- ---- an end as a number
abbrev covers_of : (is_exact : Bool) → Pair → Fraction → Type 0
covers_of true = Equals
covers_of false = Covers

keeps_of : (is_exact : Bool) → Keeps (kind_of is_exact) (covers_of is_exact)
keeps_of true = exact_lawful.keeps
keeps_of false = bounds_lawful.keeps

-- what covers a bound is, as it is told, on the outer side of it
end_bounds : (is_exact : Bool) (end : End) (p : Pair) (f : Fraction) → covers_of is_exact p f → Bounds end (number_of (value_in is_exact end p)) f
end_bounds true AtLeast p f c = equal_at_most (over p.first p.second) f c
end_bounds true AtMost p f c = equal_at_least (over p.first p.second) f c
end_bounds false AtLeast p f c = record { left_bottom = omega arith; right_bottom = c.within.bottom; products = c.within.lower }
end_bounds false AtMost p f c = record { left_bottom = c.within.bottom; right_bottom = omega arith; products = c.within.upper }

-- ---- ends at a cell
record IsTold (is_exact : Bool) (end : End) (r : Result Pair QuantityFault) (v : Value) : Type 0 where
  pair : Pair
  was : r ≡ Ok pair
  is : value_in is_exact end pair ≡ v

told_of : (is_exact : Bool) (end : End) (r : Result Pair QuantityFault) (v : Value) → told_value is_exact end r ≡ Ok v → IsTold is_exact end r v
told_of is_exact end (Ok p) v e = record { pair = p; was = refl; is = (let s : value_in is_exact end p ≡ v = cc in s) }
told_of is_exact end (Err fault) v e = absurd (cc)

module _ (law : BoundsHold) (paired : PairedBoundsHold) (adjusted : AdjustedBoundsHold) (is_exact : Bool) (method : Method) (n : ℕ) (t : Table) (q : Asked)
    (pairs : method ≡ LevelPairs → HasPairs n t q) (apart : Apart q.c q.u) where
  end_holds : (end : End) (cell : List ℕ) (v : Value) → 1 ≤ condition (weights_in n t) q (cell_of cell)
      → end_value is_exact method end (weights_in n t) q (cell_of cell) ≡ Ok v → IsEnd method end n t q cell v
  end_holds end cell v some e =
      let w = weights_in n t in
      let told = told_of is_exact end (bound_value (kind_of is_exact) method end w q (cell_of cell)) v e in
      let covered = bound_covered (kind_of is_exact) (covers_of is_exact) (keeps_of is_exact) method end w q (cell_of cell)
      (λ c. condition w q (cell_of cell) ≡ condition w q c) (condition_stays n t q (condition w q (cell_of cell)) apart) refl
      (λ c same. subst (λ k. 1 ≤ k) same some) told.pair told.was in
      λ g ok may m fit matched within. bounds_trans end (number_of v) (bound_of method end w q (cell_of cell)) (probability m q.x q.y q.c (cell_of cell))
      (subst (λ k. Bounds end (number_of k) (bound_of method end w q (cell_of cell))) told.is
      (end_bounds is_exact end told.pair (bound_of method end w q (cell_of cell)) covered))
      (bound_holds law paired adjusted method end n t q (cell_of cell) pairs some g ok may m fit matched within)

  ends_of : (cell : List ℕ) (b : CellBounds) (low high : Result Value QuantityFault) → 1 ≤ condition (weights_in n t) q (cell_of cell)
      → end_value is_exact method AtLeast (weights_in n t) q (cell_of cell) ≡ low → end_value is_exact method AtMost (weights_in n t) q (cell_of cell) ≡ high
      → both_ends cell low high ≡ Ok b → AreEnds method n t q b
  ends_of cell b (Ok low) (Ok high) some el eh e =
      subst (AreEnds method n t q) (let s : record { cell = cell; at_least = low; at_most = high } ≡ b = cc in s)
      (record { at_least = end_holds AtLeast cell low some el; at_most = end_holds AtMost cell high some eh })
  ends_of cell b (Ok low) (Err fault) some el eh e = absurd (cc)
  ends_of cell b (Err fault) high some el eh e = absurd (cc)

  at_cell : (cell : List ℕ) (b : CellBounds) (c : Bool) → eqb (condition (weights_in n t) q (cell_of cell)) 0 ≡ c
      → cond c (Err (NoRecords cell)) (both_ends cell (end_value is_exact method AtLeast (weights_in n t) q (cell_of cell))
      (end_value is_exact method AtMost (weights_in n t) q (cell_of cell))) ≡ Ok b → AreEnds method n t q b
  at_cell cell b true z e = absurd (cc)
  at_cell cell b false z e = ends_of cell b (end_value is_exact method AtLeast (weights_in n t) q (cell_of cell))
      (end_value is_exact method AtMost (weights_in n t) q (cell_of cell))
      (let d : condition (weights_in n t) q (cell_of cell) ≡ 0 → ⊥ = λ k. absurd (grind (arith, k, z)) in omega arith) refl refl e

  in_front_ends : (cell : List ℕ) (one : Result CellBounds CellFault) (more : Result (List CellBounds) CellFault) (bs : List CellBounds)
      → cell_bounds is_exact method n t q cell ≡ one
      → ((cs : List CellBounds) → more ≡ Ok cs → All (AreEnds method n t q) cs) → in_front one more ≡ Ok bs → All (AreEnds method n t q) bs
  in_front_ends cell (Ok b) (Ok cs) bs here rest e =
      subst (All (AreEnds method n t q)) (let s : b ∷ cs ≡ bs = cc in s) (All-cons (AreEnds method n t q) b cs
      (at_cell cell b (eqb (condition (weights_in n t) q (cell_of cell)) 0) refl here) (rest cs refl))
  in_front_ends cell (Ok b) (Err fault) bs here rest e = absurd (cc)
  in_front_ends cell (Err fault) more bs here rest e = absurd (cc)

  -- all bounds that are told bound the effect in every model that has the counts
  pub all_ends : (cells : List (List ℕ)) (bs : List CellBounds) → bounds_at (cell_bounds is_exact method n t q) cells ≡ Ok bs → All (AreEnds method n t q) bs
  all_ends [] bs e = subst (All (AreEnds method n t q)) (let s : [] ≡ bs = cc in s) (All-nil (AreEnds method n t q))
  all_ends (cell ∷ cells) bs e = in_front_ends cell (cell_bounds is_exact method n t q cell) (bounds_at (cell_bounds is_exact method n t q) cells) bs refl
      (λ cs k. all_ends cells cs k) e

-- bounds that are appended to none are those of a question
pub are_bounds : BoundsHold → PairedBoundsHold → AdjustedBoundsHold → (is_exact : Bool) (n : ℕ) (t : Table) (q : Question)
    → (q.method ≡ LevelPairs → HasPairs n t (asked_of q)) → Apart (asked_of q).c (asked_of q).u
    → (bounds : Vec CellBounds) (before : List CellBounds) → before ≡ []
    → Appends is_exact q.method n t (asked_of q) (printed_cells t q) before bounds.items → AreBounds is_exact n t q bounds
are_bounds law paired adjusted is_exact n t q pairs apart bounds before none appended =
    let same : bounds.items ≡ appended.list = appended.items ∙ ap (λ (bs : List CellBounds). bs ++ appended.list) none in
    let are : bounds_at (cell_bounds is_exact q.method n t (asked_of q)) (printed_cells t q) ≡ Ok bounds.items =
    appended.are ∙ ap (λ (bs : List CellBounds). Ok bs) (sym same) in
    record { are = are; ends = all_ends law paired adjusted is_exact q.method n t (asked_of q) pairs apart (printed_cells t q) bounds.items are }
