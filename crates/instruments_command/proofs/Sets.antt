-- The sets that lists name are sets of the graph, apart from each other.
use Rattle.std.proofs.Common.{◌≡◌, ℕ, length}
use Rattle.mixed_graph.specs.Vocabulary.{has}
use Rattle.do_rules.specs.Vocabulary.{AreThreeSets}
use Rattle.targets.specs.Vocabulary.{Lists, AreSets}
use Rattle.targets.proofs.Disjoint.{disjoint_sets}

pub three_sets : (l : Lists) (n x y given : ℕ) → length l.observed ≡ n → AreSets l x y given → AreThreeSets n (has x) (has y) (has given)
three_sets l n x y given e s =
    let d = disjoint_sets l n x y given e s in
    record { x_within = d.x_within; y_within = d.y_within; w_within = d.w_within; x_y = d.x_y; x_w = d.x_w; y_w = d.y_w }
