use Rattle.std.proofs.Common.{◌≡◌, length}
use Rattle.std.specs.Prelude.{Result}
use Rattle.dag_reader.specs.Grammar.{Fault, Said}
use Rattle.dag_reader.specs.PlaceView.{place_view}
use Rattle.dag_reader.specs.SaidView.{said_by}
use Rattle.dag_reader.specs.Reading.{RestSays, Says}
use Rattle.dag_reader.proofs.statements.read_statements.Given as goal

-- what the rest says is what the text says
abbrev pub invariant-turns : goal.invariant-turns
invariant-turns l = record {
  size : l.lexer.size ≡ length l.text;
  all : (r : Result Said Fault) → RestSays (length l.text) l.lexer.due (place_view l.place) (said_by l.said) l.lexer.rest.now r → Says l.text r;
}

abbrev pub decreases-turns : goal.decreases-turns
decreases-turns l = length l.lexer.rest.now
