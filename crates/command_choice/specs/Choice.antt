-- A command that is one of two, by what its words ask for.
use Rattle.std.specs.Prelude.{List}
use Rattle.command_words.specs.Vocabulary.{Use}
use Rattle.replies.specs.Vocabulary.{CommandForm}

-- a request of the first of two commands, or of the second
pub data OneOf (A B : Type 0) : Type 0 where
  first : A → OneOf A B
  second : B → OneOf A B

-- what the first gives for its requests, and the second for its own
abbrev pub given_by : {A B T : Type 0} → (A → T) → (B → T) → OneOf A B → T
given_by a b (first q) = a q
given_by a b (second q) = b q

-- and what is so of them
abbrev pub IsSo : {A B : Type 0} → (A → Type 0) → (B → Type 0) → OneOf A B → Type 0
IsSo a b (first q) = a q
IsSo a b (second q) = b q

-- the command that is one of two: all that is said of a request is said by the command whose request it is
abbrev pub one_of : CommandForm → CommandForm → CommandForm
one_of a b = record {
  Request = OneOf a.Request b.Request;
  asks = λ uses. IsSo (a.asks uses) (b.asks uses);
  file = given_by a.file b.file;
  second = given_by a.second b.second;
  format = given_by a.format b.format;
  by_words = λ q o told. IsSo (λ p. a.by_words p o told) (λ p. b.by_words p o told) q;
  by_diagram = λ q d o told. IsSo (λ p. a.by_diagram p d o told) (λ p. b.by_diagram p d o told) q;
  continues = λ q d. IsSo (λ p. a.continues p d) (λ p. b.continues p d) q;
  by_both = λ q d other o told. IsSo (λ p. a.by_both p d other o told) (λ p. b.by_both p d other o told) q;
  is_fixed = IsSo a.is_fixed b.is_fixed;
}

-- no words ask two commands for something
abbrev pub NoWordsAskBoth : CommandForm → CommandForm → Type 0
NoWordsAskBoth a b = (uses : List Use) (q : a.Request) (r : b.Request) → a.asks uses q → b.asks uses r → ⊥
