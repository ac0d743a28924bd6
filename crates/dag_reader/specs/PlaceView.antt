-- A place without where its names lie in memory.
use Rattle.std.specs.Prelude.{ℕ, List, Option, option_map}
use Rattle.dag_reader.specs.Grammar.{Position, at_start, at_dag, at_title, at_statement, after_name, at_key_value, in_group, group_name, after_first}
use Rattle.dag_reader.specs.Grammar.{after_edge, chain_name, after_group, at_attrs, attr_name, at_attr_value, after_attr, after_comma, at_end}
use Rattle.dag_reader.specs.declared.grammar.Position.TheVariants as places
use Rattle.dag_reader.specs.declared.grammar.Position.{Position as CodePlace}
use Rattle.dag_reader.specs.declared.words.Word.{Word}

-- the name, if there is one
abbrev pub name_view : Option Word → Option (List ℕ)
name_view n = option_map (λ (w : Word). w.bytes.now) n

-- the place
abbrev pub place_view : CodePlace → Position
place_view places.Start = at_start
place_view places.Dag = at_dag
place_view places.Title = at_title
place_view places.Statement = at_statement
place_view (places.AfterName n) = after_name n.bytes.now
place_view places.KeyValue = at_key_value
place_view (places.InGroup b) = in_group b
place_view (places.GroupName b n) = group_name b n.bytes.now
place_view places.AfterFirst = after_first
place_view places.AfterEdge = after_edge
place_view (places.ChainName n) = chain_name n.bytes.now
place_view places.AfterGroup = after_group
place_view (places.Attrs of) = at_attrs (name_view of)
place_view (places.AttrName of k n) = attr_name (name_view of) k n.bytes.now
place_view (places.AttrValue of) = at_attr_value (name_view of)
place_view (places.AfterAttr of) = after_attr (name_view of)
place_view (places.AfterComma of) = after_comma (name_view of)
place_view places.End = at_end
