-- Right answers end alike: an answer without counts, refused lists, values, counts that no model has, a path and a stop exclude each other.
use Rattle.std.proofs.Common.{◌≡◌, ℕ, Bool, false, List, Option, Some, Result, Ok, Err, refl, sym, ap, ◌∙◌, arith}
use Rattle.std.proofs.lemmas.Bool.{true≢false}
use Rattle.mixed_graph.specs.Vocabulary.{graph_of}
use Rattle.count_rows.specs.Vocabulary.{Field, Table}
use Rattle.count_table.specs.Vocabulary.{IsTableOf}
use Rattle.count_eval.specs.declared.failure.EvalFault.{EvalFault}
use Rattle.diagram.specs.declared.diagram.Diagram.{Diagram}
use Rattle.diagram.specs.Vocabulary.{query_lists}
use Rattle.diagram.proofs.OneDiagram.{AreSameDiagrams}
use Rattle.replies.specs.declared.outcome.Outcome.TheVariants.{Yes}
use Rattle.told.specs.Vocabulary.{outcome_in}
use Rattle.treated_command.specs.Requests.{Request}
use Rattle.treated_command.specs.Sentences.{is_single}
use Rattle.treated_command.specs.Vocabulary.{treated_refusal, treated_telling}
use Rattle.treated_command.specs.declared.answer.Answer.{Answer}
use Rattle.treated_command.specs.declared.answer.Answer.TheVariants.{Formula, Certified, Excluded, Unfixed}
use Rattle.treated_command.specs.declared.fault.TreatedFault.{TreatedFault}
use Rattle.treated_command.proofs.Lawful.{treated_alike}
use Rattle.evaluate_command.specs.Vocabulary.{values_refusal}
use Rattle.evaluate_command.specs.declared.faults.ValuesFault.{ValuesFault}
use Rattle.paired_values.specs.Vocabulary.{PlainReading, by_factors, by_split, read_in}
use Rattle.paired_values.specs.declared.fault.PairFault.TheVariants.{Stopped}
use Rattle.paired_values.proofs.Counted.{bytes_alike}
use Rattle.paired_values.proofs.OneTable.{all_or_below, all_or_why, below_or_stop, same_levels}
use Rattle.evaluate_treated.specs.Effects.{IsFoundBy, PlainAmong, Identifies, paired_in}
use Rattle.evaluate_treated.specs.First.{HasNoFormula, IsForDiagram}
use Rattle.evaluate_treated.specs.Right.{HasItsLevels, HasMoreLevels, HasNoValue, IsForCounts, IsOverTable}
use Rattle.evaluate_treated.specs.Telling.{among_telling}
use Rattle.evaluate_treated.specs.declared.answer.Answer.{Answer as AmongAnswer}
use Rattle.evaluate_treated.specs.declared.answer.Answer.TheVariants as answers
use Rattle.evaluate_treated.proofs.OneEffect.{on_same, one_by_path, path_or_hedge}

-- ---- before the counts

not_yes : (r : Result Answer TreatedFault) → HasNoFormula r → outcome_in treated_telling treated_refusal r ≡ Yes → ⊥
not_yes (Ok (Formula a f)) h e = h
not_yes (Ok (Certified a c)) h e = h
not_yes (Ok (Excluded a c h pair)) none e = cc e
not_yes (Ok (Unfixed a c)) none e = cc e
not_yes (Err fault) none e = cc e

module _ (q : Request) (d e : Diagram) (s : AreSameDiagrams d e) (f : PlainAmong) where
  -- it excludes either way
  alone : (r : Result Answer TreatedFault) → IsForDiagram d q r → (reading : PlainReading) → IsFoundBy e q f reading → ⊥
  alone r h (by_factors k) i =
      not_yes r h.1 (treated_alike false false d e s q.x q.y q.given r (Ok (Formula f.asked i.formula)) h.0 i.answered)
  alone (Ok (Formula a k)) h (by_split joint) i = h.1
  alone (Ok (Certified a c)) h (by_split joint) i = h.1
  alone (Ok (Excluded a c k pair)) h (by_split joint) i =
      path_or_hedge (graph_of d.observed.graph) (query_lists d.read d.observed.names q.x q.y (Some q.given)) f.asked a i.path c k pair
      (on_same d e s q (Unfixed f.asked i.path) i.answered) h.0
  alone (Ok (Unfixed a c)) h (by_split joint) i =
      let same = one_by_path (graph_of d.observed.graph) (query_lists d.read d.observed.names q.x q.y (Some q.given)) a f.asked c i.path h.0
      (on_same d e s q (Unfixed f.asked i.path) i.answered) in
      true≢false (sym i.single ∙ ap is_single same ∙ h.1)
  alone (Err fault) h (by_split joint) i =
      cc (treated_alike false false d e s q.x q.y q.given (Err fault) (Ok (Unfixed f.asked i.path)) h.0 i.answered)

pub first_alone : (q : Request) (d e : Diagram) → AreSameDiagrams d e → (r : Result Answer TreatedFault) (f : PlainAmong) → IsForDiagram d q r → Identifies e q f
    → ⊥
first_alone q d e s r f is i = alone q d e s f r is f.reading i.found

-- ---- over the bytes of counts
module _ (is_exact : Bool) (e : PlainAmong) (count : Option Field) (bytes : List ℕ) where
  abbrev read : ℕ
  read = read_in (paired_in e)

  -- the levels of one table are those of the other
  few_or_more : (r : PlainReading) (t u : Table) → IsTableOf bytes e.names read count t → IsTableOf bytes e.names read count u
      → HasItsLevels e.asked.sets.x.bits t r → HasMoreLevels e.asked.sets.x.bits u r → ⊥
  few_or_more (by_factors f) t u ht hu few more = more
  few_or_more (by_split joint) t u ht hu few (v, is, more) =
      let two = few v is in let same = same_levels e.names read bytes count t u ht hu v in omega (arith, two, same, more)

  apart : (t u : Table) → IsTableOf bytes e.names read count t → IsTableOf bytes e.names read count u → (a : AmongAnswer) → IsOverTable is_exact e t a
      → (fault : EvalFault) → HasNoValue is_exact e u fault → ⊥
  apart t u ht hu (answers.Values a) right fault lacks =
      all_or_why e.names read bytes count t u ht hu is_exact (paired_in e) a.values (Stopped fault) right.values lacks.stopped
  apart t u ht hu (answers.NoModel a) right fault lacks =
      below_or_stop e.names read bytes count t u ht hu is_exact (paired_in e) a.cell.items fault right.cell lacks.stopped
  apart t u ht hu (answers.Path a) right fault lacks = few_or_more e.reading u t hu ht lacks.levels right.1

  alike : (t u : Table) → IsTableOf bytes e.names read count t → IsTableOf bytes e.names read count u → (a b : AmongAnswer) → IsOverTable is_exact e t a
      → IsOverTable is_exact e u b → among_telling.outcome a ≡ among_telling.outcome b
  alike t u ht hu (answers.Values a) (answers.Values b) x y = refl
  alike t u ht hu (answers.Values a) (answers.NoModel b) x y =
      absurd (all_or_below e.names read bytes count t u ht hu is_exact (paired_in e) a.values b.cell.items x.values y.cell)
  alike t u ht hu (answers.Values a) (answers.Path b) x y = absurd (few_or_more e.reading t u ht hu x.levels y.1)
  alike t u ht hu (answers.NoModel a) (answers.Values b) x y =
      absurd (all_or_below e.names read bytes count u t hu ht is_exact (paired_in e) b.values a.cell.items y.values x.cell)
  alike t u ht hu (answers.NoModel a) (answers.NoModel b) x y = refl
  alike t u ht hu (answers.NoModel a) (answers.Path b) x y = refl
  alike t u ht hu (answers.Path a) (answers.Values b) x y = absurd (few_or_more e.reading u t hu ht y.levels x.1)
  alike t u ht hu (answers.Path a) (answers.NoModel b) x y = refl
  alike t u ht hu (answers.Path a) (answers.Path b) x y = refl

  pub counts_alike : (a b : Result AmongAnswer ValuesFault) → IsForCounts is_exact e count bytes a → IsForCounts is_exact e count bytes b
      → outcome_in among_telling values_refusal a ≡ outcome_in among_telling values_refusal b
  counts_alike = bytes_alike e.names read (IsOverTable is_exact e) (HasNoValue is_exact e) count bytes among_telling apart alike
