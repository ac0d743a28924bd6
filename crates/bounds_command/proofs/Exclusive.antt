-- Right answers end alike.
use Rattle.std.proofs.Common.{◌≡◌, ◌<◌, ℕ, Bool, List, Option, None, Result, Ok, Err, length, refl, sym, subst, ◌∙◌, arith}
use Rattle.std.proofs.lemmas.Option.{none-some}
use Rattle.mixed_graph.specs.Vocabulary.{MixedGraph}
use Rattle.targets.specs.declared.fault.TargetFault.{TargetFault}
use Rattle.told.specs.Vocabulary.{target_refusal, outcome_in}
use Rattle.count_rows.specs.Vocabulary.{Field, Table}
use Rattle.count_answers.specs.Vocabulary.{HoldsCounts}
use Rattle.count_answers.proofs.OneReading.{AreAlike, one_table}
use Rattle.bound_values.specs.declared.questions.Question.{Question}
use Rattle.bound_values.specs.declared.values.CellFault.{CellFault}
use Rattle.bound_values.specs.declared.found.Found.TheVariants.{Crossed, Bounded}
use Rattle.bound_values.specs.Vocabulary.{asked_of, joint_mask, printed_cells, over_table, cell_bounds, bounds_at, crossing_in, IsFound}
use Rattle.bound_values.specs.declared.values.CellFault.TheVariants as cell
use Rattle.bound_values.specs.declared.found.Found.{Found}
use Rattle.bounds_command.specs.declared.answer.Answer.{Answer}
use Rattle.bounds_command.specs.declared.faults.BoundsFault.{BoundsFault}
use Rattle.bounds_command.specs.declared.faults.BoundsFault.TheVariants.{TooLong, Counts, NoRecords, TooWide, NoMemory}
use Rattle.bounds_command.specs.declared.first.Unmet.{Unmet}
use Rattle.bounds_command.specs.BoundsTelling.{bounds_telling, found_outcome}
use Rattle.bounds_command.specs.Faults.{bounds_refusal}
use Rattle.bounds_command.specs.First.{unmet_telling, IsNotAsked}
use Rattle.bounds_command.specs.Asking.{AskedLists, IsAsked}
use Rattle.bounds_command.specs.Right.{IsForCounts, IsFaultFor, IsBounded}
use Rattle.bounds_command.proofs.Alike.{same_over, same_crossing, same_bounds}
use Rattle.bounds_command.proofs.OneQuestion.{not_unmet, no_asked_fault, no_unmet_fault}

-- ---- before the counts

-- lists that ask for bounds aren't refused
pub asked_alone : (g : MixedGraph) (l : AskedLists) (q : Question) (r : Result Unmet TargetFault) → IsAsked g l q → IsNotAsked g l r → ⊥
asked_alone g l q (Ok a) asked h = not_unmet g l q a asked h
asked_alone g l q (Err fault) asked h = no_asked_fault g l q fault asked h

pub first_alike : (g : MixedGraph) (l : AskedLists) (a b : Result Unmet TargetFault) → IsNotAsked g l a → IsNotAsked g l b
    → outcome_in unmet_telling target_refusal a ≡ outcome_in unmet_telling target_refusal b
first_alike g l (Ok a) (Ok b) f h = refl
first_alike g l (Ok a) (Err fault) f h = absurd (no_unmet_fault g l a fault f h)
first_alike g l (Err fault) (Ok b) f h = absurd (no_unmet_fault g l b fault h f)
first_alike g l (Err fault) (Err other) f h = refl

-- ---- over a table
ok_err : {A B : Type 0} {C : Type 0} (a : A) (b : B) (r : Result A B) → r ≡ Ok a → r ≡ Err b → C
ok_err a b r e f = absurd (let k : Ok a ≡ Err b = sym e ∙ f in cc)

module _ (is_exact : Bool) (n : ℕ) (q : Question) (t u : Table) (alike : AreAlike t u) where
  crossing_none : crossing_in q.method n u q ≡ None → crossing_in q.method n t q ≡ None
  crossing_none h = sym (same_crossing n t u alike q.method q) ∙ h

  found_alike_by : (a b : Found) → IsFound is_exact n t q a → IsFound is_exact n u q b → found_outcome a ≡ found_outcome b
  found_alike_by (Bounded a) (Bounded b) f h = refl
  found_alike_by (Crossed a) (Crossed b) f h = refl
  found_alike_by (Bounded a) (Crossed b) f h = absurd (none-some b.cell (sym f.0 ∙ sym (same_crossing n t u alike q.method q) ∙ h.0))
  found_alike_by (Crossed a) (Bounded b) f h = absurd (none-some a.cell (sym (crossing_none h.0) ∙ f.0))

  found_unfound_by : (a : Found) (e : CellFault) → IsFound is_exact n t q a → crossing_in q.method n u q ≡ None
      → bounds_at (cell_bounds is_exact q.method n u (asked_of q)) (printed_cells u q) ≡ Err e → ⊥
  found_unfound_by (Crossed a) e f none stops = none-some a.cell (sym (crossing_none none) ∙ f.0)
  found_unfound_by (Bounded a) e f none stops = ok_err a.items e _ f.1.are (sym (same_bounds n t u alike is_exact q.method q) ∙ stops)

-- by the method over either table
module _ (is_exact : Bool) (n : ℕ) (q : Question) (t u : Table) (alike : AreAlike t u) where
  found_alike : (a b : Found) → IsFound is_exact n t (over_table t q) a → IsFound is_exact n u (over_table u q) b → found_outcome a ≡ found_outcome b
  found_alike a b f h = found_alike_by is_exact n (over_table t q) t u alike a b f
      (subst (λ (p : Question). IsFound is_exact n u p b) (same_over t u alike q) h)

  found_unfound : (a : Found) (e : CellFault) → IsFound is_exact n t (over_table t q) a → crossing_in (over_table u q).method n u (over_table u q) ≡ None
      → bounds_at (cell_bounds is_exact (over_table u q).method n u (asked_of q)) (printed_cells u q) ≡ Err e → ⊥
  found_unfound a e f none stops = found_unfound_by is_exact n (over_table t q) t u alike a e f
      (subst (λ (p : Question). crossing_in p.method n u p ≡ None) (same_over t u alike q) none)
      (subst (λ (p : Question). bounds_at (cell_bounds is_exact p.method n u (asked_of p)) (printed_cells u p) ≡ Err e) (same_over t u alike q) stops)

-- ---- over the bytes of counts
module _ (is_exact : Bool) (g : MixedGraph) (names : List (List ℕ)) (q : Question) (count : Option Field) (bytes : List ℕ) where
  alike_tables : (t u : Table) → HoldsCounts names (joint_mask q) count bytes t → HoldsCounts names (joint_mask q) count bytes u → AreAlike t u
  alike_tables t u a b = one_table bytes names (joint_mask q) count t u a.reads b.reads

  held_short : (t : Table) → HoldsCounts names (joint_mask q) count bytes t → 67108864 < length bytes → ⊥
  held_short t h long = absurd (let small = h.small in omega (arith, small, long))

  answer_fault : (a : Answer) (fault : BoundsFault) → IsForCounts is_exact g names q count bytes a → IsFaultFor is_exact g names q count bytes fault → ⊥
  answer_fault a TooLong f h = held_short f.table f.holds h
  answer_fault a (Counts fault) f h = none-some fault (sym f.holds.fits ∙ h.1)
  answer_fault a (NoRecords counts given at) f h =
      found_unfound is_exact g.vertices q f.table h.0 (alike_tables f.table h.0 f.holds h.1) a.found (cell.NoRecords at) f.answer.found h.2.1.0 h.2.1.1
  answer_fault a TooWide f h =
      found_unfound is_exact g.vertices q f.table h.0 (alike_tables f.table h.0 f.holds h.1) a.found cell.TooWide f.answer.found h.2.0 h.2.1
  answer_fault a NoMemory f h = h.2

  fault_outcomes : (a b : BoundsFault) → IsFaultFor is_exact g names q count bytes a → IsFaultFor is_exact g names q count bytes b
      → (bounds_refusal names).outcome a ≡ (bounds_refusal names).outcome b
  fault_outcomes TooLong TooLong f h = refl
  fault_outcomes TooLong (Counts e) f h = refl
  fault_outcomes TooLong (NoRecords counts given at) f h = absurd (held_short h.0 h.1 f)
  fault_outcomes TooLong TooWide f h = absurd (held_short h.0 h.1 f)
  fault_outcomes (Counts e) TooLong f h = refl
  fault_outcomes (Counts e) (Counts d) f h = refl
  fault_outcomes (Counts e) (NoRecords counts given at) f h = absurd (none-some e (sym h.1.fits ∙ f.1))
  fault_outcomes (Counts e) TooWide f h = absurd (none-some e (sym h.1.fits ∙ f.1))
  fault_outcomes (NoRecords counts given at) TooLong f h = absurd (held_short f.0 f.1 h)
  fault_outcomes (NoRecords counts given at) (Counts e) f h = absurd (none-some e (sym f.1.fits ∙ h.1))
  fault_outcomes (NoRecords counts given at) (NoRecords c g a) f h = refl
  fault_outcomes (NoRecords counts given at) TooWide f h = refl
  fault_outcomes TooWide TooLong f h = absurd (held_short f.0 f.1 h)
  fault_outcomes TooWide (Counts e) f h = absurd (none-some e (sym f.1.fits ∙ h.1))
  fault_outcomes TooWide (NoRecords c g a) f h = refl
  fault_outcomes TooWide TooWide f h = refl
  fault_outcomes a NoMemory f h = absurd (h.2)
  fault_outcomes NoMemory b f h = absurd (f.2)

  pub counts_alike : (a b : Result Answer BoundsFault) → IsBounded is_exact g names q count bytes a → IsBounded is_exact g names q count bytes b
      → outcome_in bounds_telling (bounds_refusal names) a ≡ outcome_in bounds_telling (bounds_refusal names) b
  counts_alike (Ok a) (Ok b) f h =
      found_alike is_exact g.vertices q f.table h.table (alike_tables f.table h.table f.holds h.holds) a.found b.found f.answer.found h.answer.found
  counts_alike (Ok a) (Err fault) f h = absurd (answer_fault a fault f h)
  counts_alike (Err fault) (Ok b) f h = absurd (answer_fault b fault h f)
  counts_alike (Err a) (Err b) f h = fault_outcomes a b f h
