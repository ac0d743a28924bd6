-- Reading a record byte by byte.
use Rattle.std.specs.Prelude.{◌≡◌, ℕ, ◌==◌, not, Bool, false}
use Rattle.csv.specs.declared.parser.State.{State as CsvState}
use Rattle.csv.specs.declared.parser.State.TheVariants as st
use Rattle.csv.specs.declared.parser.Action.{Action}
use Rattle.csv.specs.declared.parser.Action.TheVariants as act
use Rattle.count_rows.specs.declared.quoted.Place.{Place}
use Rattle.count_rows.specs.declared.quoted.Place.TheVariants as place
use Rattle.count_rows.specs.declared.quoted.Turn.{Turn}
use Rattle.count_rows.specs.declared.quoted.Turn.TheVariants as turn
use Rattle.count_rows.specs.Reader.{IsBetween, is_plain}

-- the state of CSV's reader at a place
abbrev pub state_at : Place → CsvState
state_at place.StartField = st.StartField
state_at place.InField = st.InField
state_at place.InQuoted = st.InQuoted
state_at place.AfterQuote = st.AfterQuote

-- a byte that only joins the field at a place
abbrev pub joins : Place → ℕ → Bool
joins place.StartField b = false
joins place.InField b = is_plain b
joins place.InQuoted b = not (b == 34)
joins place.AfterQuote b = false

-- a turn does what a step of CSV's reader does
abbrev pub IsStep : CsvState × Action → Turn → Type 0
IsStep p (turn.Skip s) = p ≡ (state_at s, act.Skip)
IsStep p (turn.Copy s) = p ≡ (state_at s, act.Copy)
IsStep p turn.EndField = p ≡ (st.StartField, act.EndField)
IsStep p turn.EndRecord = (p.1 ≡ act.EndRecord) × IsBetween p.0
