use Rattle.split_values.proofs.Enclosing.{split_is_enclosed, none_is_below}
use Rattle.split_values.proofs.Matching.{split_encloses_among, none_is_unmatched}
use Rattle.split_values.proofs.theory.laws.Goals as goal

pub returns-clause-enclosed : goal.returns-clause-enclosed
returns-clause-enclosed g c =
    split_is_enclosed g.Q.Quantity.kind g.Q.Difference.difference g.Q.Quantity.covers g.Q.Difference.encloses g.met.Q.Quantity.lawful
    g.met.Q.Difference.lawful_difference

pub returns-clause-below : goal.returns-clause-below
returns-clause-below g c =
    none_is_below g.Q.Quantity.kind g.Q.Difference.difference g.Q.Quantity.covers g.Q.Difference.encloses g.met.Q.Quantity.lawful
    g.met.Q.Difference.lawful_difference

pub returns-clause-among : goal.returns-clause-among
returns-clause-among g c =
    split_encloses_among g.Q.Quantity.kind g.Q.Difference.difference g.Q.Quantity.covers g.Q.Difference.encloses g.met.Q.Quantity.lawful
    g.met.Q.Difference.lawful_difference

pub returns-clause-unmatched : goal.returns-clause-unmatched
returns-clause-unmatched g c =
    none_is_unmatched g.Q.Quantity.kind g.Q.Difference.difference g.Q.Quantity.covers g.Q.Difference.encloses g.met.Q.Quantity.lawful
    g.met.Q.Difference.lawful_difference
