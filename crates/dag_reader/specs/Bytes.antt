-- The classes of bytes.
use Rattle.answer_text.specs.Vocabulary.{is_white, is_edge_byte, is_name_byte}
use Rattle.std.specs.Prelude.{ℕ, Bool, not, ◌||◌, ◌&&◌, ◌==◌}
use Rattle.mixed_graph.specs.Vocabulary.{is_line_byte}
use Rattle.dag_reader.specs.declared.tokens.Class.{Class}
use Rattle.dag_reader.specs.declared.tokens.Class.TheVariants.{Edge, Name, Line, Run}

-- what a value without quotes is made of: no white space and none of , ] } ; "
abbrev pub is_run_byte : ℕ → Bool
is_run_byte b = not (is_white b || b == 44 || b == 93 || b == 125 || b == 59 || b == 34)

-- what an edge or a group of vertices may be written with: < > { (
abbrev pub is_edge_sign : ℕ → Bool
is_edge_sign b = b == 60 || b == 62 || b == 123 || b == 40

-- a byte of names with which no comment and no arrow of Unicode begins
abbrev pub begins_name : ℕ → Bool
begins_name b = is_name_byte b && not (b == 47 || b == 35 || b == 226)

-- the bytes of a class
abbrev pub in_class : Class → ℕ → Bool
in_class Edge b = is_edge_byte b
in_class Name b = is_name_byte b
in_class Line b = is_line_byte b
in_class Run b = is_run_byte b
