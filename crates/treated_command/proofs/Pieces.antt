-- Texts that are put together piece by piece.
use Rattle.std.proofs.Common.{◌≡◌, ℕ, List, ◌++◌, ap, ◌∙◌, append_assoc}

-- four pieces
pub four : (a b c d : List ℕ) {p q r s : List ℕ} → p ≡ a → q ≡ p ++ b → r ≡ q ++ c → s ≡ r ++ d → s ≡ a ++ (b ++ (c ++ d))
four a b c d e f g h =
    h ∙ ap (λ t. t ++ d) (g ∙ ap (λ t. t ++ c) (f ∙ ap (λ t. t ++ b) e))
    ∙ append_assoc (a ++ b) c d ∙ append_assoc a b (c ++ d)

-- five
pub five : (a b c d k : List ℕ) {p q r s t : List ℕ} → p ≡ a → q ≡ p ++ b → r ≡ q ++ c → s ≡ r ++ d → t ≡ s ++ k
    → t ≡ a ++ (b ++ (c ++ (d ++ k)))
five a b c d k e f g h i =
    i ∙ ap (λ t. t ++ k) (four a b c d e f g h) ∙ append_assoc a (b ++ (c ++ d)) k
    ∙ ap (λ t. a ++ t) (append_assoc b (c ++ d) k ∙ ap (λ t. b ++ t) (append_assoc c d k))
