-- Where no way is asked for by the lists of two values, none is asked for by any lists of the same values.
use Rattle.std.proofs.Common.{◌≡◌, ℕ, Bool, List, Option, Some, None, sym, ap, ◌∙◌}
use Rattle.std.proofs.lemmas.Option.{none-some}
use Rattle.command_words.specs.Vocabulary.{Text, IsListed, IsListedOrEmpty}
use Rattle.command_words.proofs.OneValue.{one_listed, one_listed_or_empty}
use Rattle.evaluate_command.specs.Ways.{Way, way_for}

pub no_way : (sets givens : Option Text) (set other : Option (List (List ℕ))) (given rest : List (List ℕ)) (b short : Bool) (w : Way) → IsListed sets set
    → IsListed sets other
    → IsListedOrEmpty givens given → IsListedOrEmpty givens rest → None ≡ way_for set given b short → way_for other rest b short ≡ Some w → ⊥
no_way sets givens set other given rest b short w l k m n none some =
    none-some w (none ∙ sym (ap (λ (s : Option (List (List ℕ))). way_for s given b short) (one_listed sets set other l k))
    ∙ sym (ap (λ (g : List (List ℕ)). way_for other g b short) (one_listed_or_empty givens given rest m n)) ∙ some)
