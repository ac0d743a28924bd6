-- Texts that are written piece by piece.
use Rattle.std.proofs.Common.{◌≡◌, ℕ, List, [], ◌∷◌, ◌++◌, map, sym, ap, ◌∙◌, append_assoc}
use Rattle.answer_text.specs.Vocabulary.{comma_before}
use Rattle.count_answers.specs.Vocabulary.{with_commas}
use Rattle.count_answers.proofs.Texts.{commas_first}

pub two_pieces : (old a b s t : List ℕ) → s ≡ old ++ a → t ≡ s ++ b → t ≡ old ++ (a ++ b)
two_pieces old a b s t d e = e ∙ ap (λ x. x ++ b) d ∙ append_assoc old a b

pub three_pieces : (old a b c s t u : List ℕ) → s ≡ old ++ a → t ≡ s ++ b → u ≡ t ++ c → u ≡ old ++ (a ++ (b ++ c))
three_pieces old a b c s t u d e f = two_pieces old a (b ++ c) s u d (two_pieces s b c t u e f)

-- the texts of two vertices and then of others, with commas between them
pub cell_pieces : (f : ℕ → List ℕ) (a b : ℕ) (vs old s t u v w : List ℕ) → s ≡ old ++ f a → t ≡ s ++ (44 ∷ []) → u ≡ t ++ f b → v ≡ u ++ comma_before vs → w
    ≡ v ++ with_commas (map f vs)
    → w ≡ old ++ with_commas (map f (a ∷ b ∷ vs))
cell_pieces f a b vs old s t u v w d e g h k =
    three_pieces old (f a) (44 ∷ []) (f b ++ (comma_before vs ++ with_commas (map f vs))) s t w d e
    (three_pieces t (f b) (comma_before vs) (with_commas (map f vs)) u v w g h k)
    ∙ ap (λ x. old ++ (f a ++ (44 ∷ x))) (sym (commas_first f b vs))
