-- How far a text was read, record by record.
use Rattle.std.specs.Prelude.{ℕ, ◌≡◌, ◌⊎◌, ◌≤◌, ◌+◌, ◌==◌, ◌||◌, not, Bool, List, [], ◌∷◌, ◌++◌, length, drop, Some}
use Rattle.csv.specs.Machine.{next_record}
use Rattle.csv.specs.Reading.{Reached, default_config, strip_bom}
use Rattle.csv.specs.declared.parser.State.{State}
use Rattle.csv.specs.declared.parser.State.TheVariants as st
use Rattle.count_rows.specs.Fields.{cut_from, AreEnds}
use Rattle.count_rows.specs.declared.reader.NextRecord.{NextRecord}
use Rattle.count_rows.specs.declared.reader.NextRecord.TheVariants as next
use Rattle.count_rows.specs.Records.{Record, records_of}

-- a state of CSV's reader between two records
abbrev pub IsBetween : State → Type 0
IsBetween s = (s ≡ st.StartRecord) ⊎ (s ≡ st.AfterCr)

-- a carriage return or a line feed
abbrev pub is_line_end : ℕ → Bool
is_line_end b = (b == 13) || (b == 10)

-- a byte that only goes on with a field: no comma, no quotation mark and no line end
abbrev pub is_plain : ℕ → Bool
is_plain b = not ((b == 44) || (b == 34) || is_line_end b)

-- a text that begins no line goes on with a record of these fields, and other records follow behind this place
pub record GoesOn (text : List ℕ) (r : Record) (behind : ℕ) : Type 0 where
  pub state : State
  pub between : IsBetween state
  pub is : next_record default_config st.StartField [] [] text ≡ Some (r, state, drop behind text)

-- such a text goes on with a record whose fields end at these places, the last of them at `end`
pub record EndsAt (text ends : List ℕ) (end : ℕ) : Type 0 where
  pub ordered : AreEnds 0 ends (end + 1)
  pub within : end ≤ length text
  pub goes : GoesOn text (cut_from 0 ends text) (end + 1)

-- these records of a text were read, one after the other, and the next one is sought from this place on
pub record HasRead (text : List ℕ) (records : List Record) (at : ℕ) : Type 0 where
  pub state : State
  pub between : IsBetween state
  pub reached : Reached default_config st.StartRecord (strip_bom text) records state (drop at text)

-- what one more read of a text gives, behind these records: another one, with the fields r, or that these are all
unfoldable pub GivesNext : List ℕ → List Record → Record → NextRecord → Type 0
GivesNext text before r (next.Record behind) = HasRead text (before ++ r ∷ []) behind
GivesNext text before r next.End = records_of text ≡ before
GivesNext text before r next.NoMemory = Unit {0}
