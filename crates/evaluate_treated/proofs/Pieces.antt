-- Five texts that are appended one after another.
use Rattle.std.proofs.Common.{◌≡◌, ◌∙◌, ◌++◌, ℕ, List, [], ap, append_assoc}

pub five : (o a b c d e v w x y z : List ℕ) → o ≡ [] → v ≡ o ++ a → w ≡ v ++ b → x ≡ w ++ c → y ≡ x ++ d → z ≡ y ++ e
    → z ≡ a ++ (b ++ (c ++ (d ++ e)))
five o a b c d e v w x y z none va wb xc yd ze =
    ze ∙ ap (λ t. t ++ e) (yd ∙ ap (λ t. t ++ d) (xc ∙ ap (λ t. t ++ c) (wb ∙ ap (λ t. t ++ b) (va ∙ ap (λ t. t ++ a) none))))
    ∙ append_assoc ((a ++ b) ++ c) d e
    ∙ append_assoc (a ++ b) c (d ++ e)
    ∙ append_assoc a b (c ++ (d ++ e))
