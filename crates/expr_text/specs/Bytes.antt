-- The classes of bytes.
use Rattle.std.specs.Prelude.{ℕ, Bool, ◌&&◌, nat_le}
use Rattle.mixed_graph.specs.Vocabulary.{is_line_byte}
use Rattle.answer_text.specs.Vocabulary.{is_white, is_plain_byte}
use Rattle.expr_text.specs.declared.bytes.Class.{Class}
use Rattle.expr_text.specs.declared.bytes.Class.TheVariants.{White, Plain, Line, Digit}

-- a decimal digit
abbrev pub is_digit : ℕ → Bool
is_digit b = nat_le 48 b && nat_le b 57

-- white space, what bare names are made of, what may stand between quotation marks, and digits
abbrev pub in_class : Class → ℕ → Bool
in_class White b = is_white b
in_class Plain b = is_plain_byte b
in_class Line b = is_line_byte b
in_class Digit b = is_digit b
