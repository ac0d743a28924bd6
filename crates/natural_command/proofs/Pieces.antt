-- Texts that are put together piece by piece.
use Rattle.std.proofs.Common.{◌≡◌, ℕ, List, ◌++◌, ap, ◌∙◌, append_assoc}

-- seven pieces behind a text
pub seven : (o a b c d e f g : List ℕ) {p q r s t u v : List ℕ} → p ≡ o ++ a → q ≡ p ++ b → r ≡ q ++ c → s ≡ r ++ d → t ≡ s ++ e → u ≡ t ++ f → v ≡ u ++ g
    → v ≡ o ++ (a ++ (b ++ (c ++ (d ++ (e ++ (f ++ g))))))
seven o a b c d e f g i j k l m n w =
    w ∙ ap (λ x. x ++ g) (n ∙ ap (λ x. x ++ f) (m ∙ ap (λ x. x ++ e) (l ∙ ap (λ x. x ++ d) (k ∙ ap (λ x. x ++ c) (j ∙ ap (λ x. x ++ b) i)))))
    ∙ append_assoc (((((o ++ a) ++ b) ++ c) ++ d) ++ e) f g ∙ append_assoc ((((o ++ a) ++ b) ++ c) ++ d) e (f ++ g)
    ∙ append_assoc (((o ++ a) ++ b) ++ c) d (e ++ (f ++ g)) ∙ append_assoc ((o ++ a) ++ b) c (d ++ (e ++ (f ++ g)))
    ∙ append_assoc (o ++ a) b (c ++ (d ++ (e ++ (f ++ g)))) ∙ append_assoc o a (b ++ (c ++ (d ++ (e ++ (f ++ g)))))

-- four pieces
pub four : (a b c d : List ℕ) {p q r s : List ℕ} → p ≡ a → q ≡ p ++ b → r ≡ q ++ c → s ≡ r ++ d → s ≡ a ++ (b ++ (c ++ d))
four a b c d e f g h =
    h ∙ ap (λ t. t ++ d) (g ∙ ap (λ t. t ++ c) (f ∙ ap (λ t. t ++ b) e)) ∙ append_assoc (a ++ b) c d ∙ append_assoc a b (c ++ d)

-- five pieces
pub five : (a b c d e : List ℕ) {p q r s t : List ℕ} → p ≡ a → q ≡ p ++ b → r ≡ q ++ c → s ≡ r ++ d → t ≡ s ++ e → t ≡ a ++ (b ++ (c ++ (d ++ e)))
five a b c d e f g h i j =
    j ∙ ap (λ t. t ++ e) (i ∙ ap (λ t. t ++ d) (h ∙ ap (λ t. t ++ c) (g ∙ ap (λ t. t ++ b) f))) ∙ append_assoc ((a ++ b) ++ c) d e
    ∙ append_assoc (a ++ b) c (d ++ e) ∙ append_assoc a b (c ++ (d ++ e))
