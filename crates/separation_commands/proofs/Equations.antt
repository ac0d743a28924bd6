-- Both sides of a rule, and the text around them.
use Rattle.std.proofs.Common.{◌≡◌, ℕ, List, ◌++◌, codes, ap, ap₂, ◌∙◌}
use Rattle.std.proofs.lemmas.List.{append_assoc}
use Rattle.do_rules.specs.Vocabulary.{Side}

-- sides with the same members are the same
pub same_side : (s t : Side) → ((v : ℕ) → s.of v ≡ t.of v) → ((v : ℕ) → s.doing v ≡ t.doing v) → ((v : ℕ) → s.given v ≡ t.given v) → s ≡ t
same_side s t of doing given = λ i. record { of = λ v. of v i; doing = λ v. doing v i; given = λ v. given v i }

-- two sides with an equals sign between them
pub equation_in : (old l r l' r' : List ℕ) {a b new : List ℕ} → l ≡ l' → r ≡ r' → a ≡ old ++ l → b ≡ a ++ codes " = " → new ≡ b ++ r
    → new ≡ old ++ (l' ++ (codes " = " ++ r'))
equation_in old l r l' r' same_l same_r e1 e2 e3 =
    e3
    ∙ ap (λ t. t ++ r) (e2 ∙ ap (λ t. t ++ codes " = ") e1)
    ∙ append_assoc (old ++ l) (codes " = ") r
    ∙ append_assoc old l (codes " = " ++ r)
    ∙ ap₂ (λ x y. old ++ (x ++ (codes " = " ++ y))) same_l same_r
