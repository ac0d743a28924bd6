-- What is printed for an answer of `rule`.
use Rattle.std.specs.Prelude.{ℕ, Bool, List, [], ◌∷◌, ◌++◌, codes}
use Rattle.std.specs.Fmt.{decimal}
use Rattle.mixed_graph.specs.Vocabulary.{has}
use Rattle.answer_text.specs.declared.Term.{Term}
use Rattle.answer_text.specs.Vocabulary.{term_text}
use Rattle.do_rules.specs.declared.rules.Rule.{Rule}
use Rattle.do_rules.specs.Vocabulary.{Side, left_of, right_of, number_of}

-- a side of a rule, as P(y|do(x),z,w)
abbrev pub side_text : List (List ℕ) → Side → List ℕ
side_text names s = term_text names s.of s.doing s.given

-- the side that a term is
abbrev pub side_of : Term → Side
side_of t = record { of = has t.of.bits; doing = has t.doing.bits; given = has t.given.bits }

-- the equation of a rule
abbrev pub equation_text : Rule → List (List ℕ) → (x y z w : ℕ → Bool) → List ℕ
equation_text r names x y z w = side_text names (left_of r x y z w) ++ (codes " = " ++ side_text names (right_of r x y z w))
