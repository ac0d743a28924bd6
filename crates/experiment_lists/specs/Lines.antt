-- The line of an effect that no formula over experiments equals.
use Rattle.std.specs.Prelude.{ℕ, List, ◌++◌, codes}
use Rattle.expr_text.specs.Vocabulary.{text_of}
use Rattle.identify_text.specs.Vocabulary.{effect_term}

-- `P(Y|do(X)) is not identifiable from these experiments`
abbrev pub unidentifiable_with_line : List (List ℕ) → (x y : ℕ) → List ℕ
unidentifiable_with_line names x y = text_of names (effect_term x y) ++ codes " is not identifiable from these experiments\n"
