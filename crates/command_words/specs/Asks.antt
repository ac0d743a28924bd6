-- When words ask for a request, by any table of commands.
use Rattle.std.specs.Prelude.{List}
use Rattle.command_words.specs.Form.{Text, Row, Use, IsCall}

-- the words ask for this: they are a call of its row, whose uses give the request
pub record AsksBy (table : List Row) {Asked : Type 0} (row : Asked → Row) (gives : List Use → Asked → Type 0) (words : List Text) (q : Asked) : Type 0 where
  pub uses : List Use
  pub call : IsCall table words (row q) uses
  pub asks : gives uses q
