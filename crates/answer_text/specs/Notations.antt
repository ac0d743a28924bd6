-- How names and signs are written in each notation: as plain text, or as LaTeX.
use Rattle.std.specs.Prelude.{ℕ, Bool, ◌||◌, ◌==◌, List, [], ◌∷◌, ◌++◌, if◌then◌else◌, codes}
use Rattle.answer_text.specs.Printing.{printed}
use Rattle.answer_text.specs.declared.signs.Notation.{Notation}
use Rattle.answer_text.specs.declared.signs.Notation.TheVariants.{Plain, Latex}
use Rattle.answer_text.specs.declared.signs.Sign.{Sign}
use Rattle.answer_text.specs.declared.signs.Sign.TheVariants.{Comma, Bar, Do, Sum, Times, Open, Close}

-- the first in the plain notation, the second in LaTeX
abbrev pub by_notation : Notation → (plain latex : List ℕ) → List ℕ
by_notation Plain plain latex = plain
by_notation Latex plain latex = latex

-- the signs of both notations, side by side
abbrev pub sign_text : Notation → Sign → List ℕ
sign_text notation Comma = by_notation notation (codes ",") (codes ", ")
sign_text notation Bar = by_notation notation (codes "|") (codes " \\mid ")
sign_text notation Do = by_notation notation (codes "do(") (codes "\\mathrm{do}(")
sign_text notation Sum = by_notation notation (codes "sum") (codes "\\sum_")
sign_text notation Times = by_notation notation (codes " * ") (codes " ")
sign_text notation Open = by_notation notation (codes "(") (codes "\\left( ")
sign_text notation Close = by_notation notation (codes ")") (codes " \\right)")

-- what LaTeX wants a backslash before: _ # & $ % { }
abbrev pub is_special : ℕ → Bool
is_special b = b == 95 || b == 35 || b == 38 || b == 36 || b == 37 || b == 123 || b == 125

-- a character of a name in LaTeX
abbrev pub byte_latex : ℕ → List ℕ
byte_latex b =
    if is_special b then 92 ∷ b ∷ []
    else (if b == 92 then codes "\\textbackslash{}"
    else (if b == 94 then codes "\\^{}"
    else (if b == 126 then codes "\\~{}"
    else b ∷ [])))

-- the characters of a name, one after another
abbrev pub escaped : List ℕ → List ℕ
escaped [] = []
escaped (b ∷ bytes) = byte_latex b ++ escaped bytes

-- a name as it is printed, with its quotation marks where it needs them; in LaTeX its characters are escaped
abbrev pub name_in : Notation → List ℕ → List ℕ
name_in notation name = by_notation notation (printed name) (escaped (printed name))
