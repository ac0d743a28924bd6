-- From an answer over a table, or why there is none, to one over the bytes that hold the table; and right answers over the same bytes.
use Rattle.std.proofs.Common.{◌≡◌, ◌<◌, ℕ, false, List, Option, Result, Ok, Err, IfOk, IfErr, length, refl, sym, ◌∙◌, arith}
use Rattle.std.proofs.lemmas.Option.{none-some}
use Rattle.count_rows.specs.declared.fault.CountFault.{CountFault}
use Rattle.count_rows.specs.Vocabulary.{Field, Table}
use Rattle.count_table.specs.Vocabulary.{IsTableOf}
use Rattle.count_eval.specs.declared.failure.EvalFault.{EvalFault}
use Rattle.count_answers.specs.Vocabulary.{HoldsCounts}
use Rattle.told.specs.Telling.{Telling}
use Rattle.told.specs.Vocabulary.{outcome_in}
use Rattle.evaluate_command.specs.ValuesFaults.{is_memory}
use Rattle.evaluate_command.specs.Vocabulary.{values_refusal}
use Rattle.evaluate_command.specs.declared.faults.ValuesFault.{ValuesFault}
use Rattle.evaluate_command.specs.declared.faults.ValuesFault.TheVariants.{TooLong, Counts, NoValue, NoMemory}
use Rattle.paired_values.specs.Bytes.{AreNoCounts, HasAnswer, IsBytesFault, IsForBytes, IsTableFault}

module _ {A : Type 0} (names : List (List ℕ)) (read : ℕ) (over : Table → A → Type 0) (lacks : Table → EvalFault → Type 0) (count : Option Field) (bytes : List ℕ)
  where
    -- ---- from a table to the bytes that hold it
    pub answer_of_bytes : (t : Table) → HoldsCounts names read count bytes t → (r : Result A ValuesFault) → IfOk r (over t)
        → IfOk r (HasAnswer names read over count bytes)
    answer_of_bytes t holds (Ok a) h = record { table = t; holds = holds; answer = h }
    answer_of_bytes t holds (Err f) h = tt

    fault_over : (t : Table) → HoldsCounts names read count bytes t → (f : ValuesFault) → IsTableFault names lacks t f → IsBytesFault names read lacks count bytes f
    fault_over t holds TooLong h = absurd h
    fault_over t holds (Counts fault) h = absurd h
    fault_over t holds (NoValue named u fault) h = record { table = t; holds = holds; named_so = h.0; counted_so = h.1; counts = h.2; value = h.3 }
    fault_over t holds NoMemory h = absurd h

    pub fault_of_bytes : (t : Table) → HoldsCounts names read count bytes t → (r : Result A ValuesFault)
        → IfErr r (λ f. is_memory f ≡ false → IsTableFault names lacks t f) → IfErr r (λ f. is_memory f ≡ false → IsBytesFault names read lacks count bytes f)
    fault_of_bytes t holds (Ok a) h = tt
    fault_of_bytes t holds (Err f) h = λ kept. fault_over t holds f (h kept)

    -- ---- the same bytes

    -- counts that are read are neither too long nor at fault
    read_or_long : (t : Table) → HoldsCounts names read count bytes t → 67108864 < length bytes → ⊥
    read_or_long t h long = let small = h.small in omega (arith, small, long)

    read_or_fault : (t : Table) (fault : CountFault) → HoldsCounts names read count bytes t → AreNoCounts names read count bytes fault → ⊥
    read_or_fault t fault h f = none-some fault (sym h.fits ∙ f.found)

    faults_alike : (f g : ValuesFault) → IsBytesFault names read lacks count bytes f → IsBytesFault names read lacks count bytes g
        → values_refusal.outcome f ≡ values_refusal.outcome g
    faults_alike TooLong TooLong x y = refl
    faults_alike TooLong (Counts fault) x y = refl
    faults_alike TooLong (NoValue named t fault) x y = absurd (read_or_long y.table y.holds x)
    faults_alike (Counts fault) TooLong x y = refl
    faults_alike (Counts fault) (Counts other) x y = refl
    faults_alike (Counts fault) (NoValue named t other) x y = absurd (read_or_fault y.table fault y.holds x)
    faults_alike (NoValue named t fault) TooLong x y = absurd (read_or_long x.table x.holds y)
    faults_alike (NoValue named t fault) (Counts other) x y = absurd (read_or_fault x.table other x.holds y)
    faults_alike (NoValue named t fault) (NoValue others u other) x y = refl
    faults_alike NoMemory g x y = absurd x
    faults_alike f NoMemory x y = absurd y

    module _ (telling : Telling A)
        (apart : (t u : Table) → IsTableOf bytes names read count t → IsTableOf bytes names read count u → (a : A) → over t a → (f : EvalFault) → lacks u f → ⊥)
        (alike : (t u : Table) → IsTableOf bytes names read count t → IsTableOf bytes names read count u → (a b : A) → over t a → over u b
        → telling.outcome a ≡ telling.outcome b) where
      answer_or_fault : (a : A) (fault : ValuesFault) → HasAnswer names read over count bytes a → IsBytesFault names read lacks count bytes fault → ⊥
      answer_or_fault a TooLong h f = read_or_long h.table h.holds f
      answer_or_fault a (Counts fault) h f = read_or_fault h.table fault h.holds f
      answer_or_fault a (NoValue named t fault) h f = apart h.table f.table h.holds.reads f.holds.reads a h.answer fault f.value
      answer_or_fault a NoMemory h f = f

      -- right answers over the same bytes end alike
      pub bytes_alike : (a b : Result A ValuesFault) → IsForBytes names read over lacks count bytes a → IsForBytes names read over lacks count bytes b
          → outcome_in telling values_refusal a ≡ outcome_in telling values_refusal b
      bytes_alike (Ok a) (Ok b) f g = alike f.table g.table f.holds.reads g.holds.reads a b f.answer g.answer
      bytes_alike (Ok a) (Err fault) f g = absurd (answer_or_fault a fault f g)
      bytes_alike (Err fault) (Ok b) f g = absurd (answer_or_fault b fault g f)
      bytes_alike (Err fault) (Err other) f g = faults_alike fault other f g
