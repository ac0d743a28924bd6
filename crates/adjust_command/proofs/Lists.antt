-- The sets of a query, and the lines of a listing.
use Rattle.std.proofs.Common.{◌≡◌, ℕ, List, ◌++◌, length, ap, ◌∙◌}
use Rattle.std.proofs.lemmas.List.{append_assoc}
use Rattle.mixed_graph.specs.Vocabulary.{has}
use Rattle.do_rules.specs.Vocabulary.{AreThreeSets}
use Rattle.targets.specs.Vocabulary.{Lists, AreSets}
use Rattle.targets.proofs.Disjoint.{disjoint_sets}

-- the sets of a query are those that the criteria ask for
pub three_sets : (l : Lists) (n x y given : ℕ) → length l.observed ≡ n → AreSets l x y given → AreThreeSets n (has x) (has y) (has given)
three_sets l n x y given e s =
    let d = disjoint_sets l n x y given e s in
    record { x_within = d.x_within; y_within = d.y_within; w_within = d.w_within; x_y = d.x_y; x_w = d.x_w; y_w = d.y_w }

-- three texts one after another
pub three_written : (a b d : List ℕ) (old one two out : List ℕ) → one ≡ old ++ a → two ≡ one ++ b → out ≡ two ++ d → out ≡ old ++ (a ++ (b ++ d))
three_written a b d old one two out p q r = r ∙ ap (λ x. x ++ d) (q ∙ ap (λ x. x ++ b) p) ∙ simp append_assoc
