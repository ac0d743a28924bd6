-- The sets that the lists of a rule name are sets of the graph, apart from each other.
use Rattle.std.proofs.Common.{◌≡◌, ℕ, length}
use Rattle.mixed_graph.specs.Vocabulary.{has}
use Rattle.targets.specs.Vocabulary.{RuleLists, AreRuleSets}
use Rattle.targets.proofs.Disjoint.{disjoint_rule_sets}
use Rattle.do_rules.specs.Vocabulary.{AreFourSets}

pub four_sets : (l : RuleLists) (n y x z given : ℕ) → length l.observed ≡ n → AreRuleSets l y x z given
    → AreFourSets n (has x) (has y) (has z) (has given)
four_sets l n y x z given e s =
    let d = disjoint_rule_sets l n y x z given e s in record {
      x_within = d.three.x_within;
      y_within = d.three.y_within;
      z_within = d.z_within;
      w_within = d.three.w_within;
      x_y = d.three.x_y;
      x_z = d.x_z;
      x_w = d.three.x_w;
      y_z = d.y_z;
      y_w = d.three.y_w;
      z_w = d.z_w;
    }
