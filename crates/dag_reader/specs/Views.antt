-- What the code's values are, without where they lie in memory.
use Rattle.dag_reader.specs.Tokens.{Tok, open_brace, close_brace, open_bracket, close_bracket, semicolon, equals, comma, edge, name, value, is_droppable, end}
use Rattle.dag_reader.specs.Tokens.{bad, bad_edge}
use Rattle.dag_reader.specs.declared.tokens.Token.{Token}
use Rattle.dag_reader.specs.declared.tokens.Token.TheVariants as tokens

-- the token; of a value between quotes the code keeps no bytes
abbrev pub view : Token → Tok
view tokens.OpenBrace = open_brace
view tokens.CloseBrace = close_brace
view tokens.OpenBracket = open_bracket
view tokens.CloseBracket = close_bracket
view tokens.Semicolon = semicolon
view tokens.Equals = equals
view tokens.Comma = comma
view (tokens.Edge a) = edge a
view (tokens.Name q n) = name q n.bytes.now
view (tokens.Value run) = value (is_droppable run.now)
view tokens.End = end
view tokens.Bad = bad
view tokens.BadEdge = bad_edge
