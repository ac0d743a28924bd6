use Rattle.std.proofs.Common.{sym, ◌∙◌}
use Rattle.prob_expr.specs.Vocabulary.{value_of, weights_of, effect}
use Rattle.count_eval.proofs.Covered.{formula_good, zeros_are_covered}
use Rattle.count_eval.proofs.Matched.{matched_has_value}
use Rattle.count_eval.proofs.Zeros.{zero_keeps_values, matched_is_same, either_rule}
use Rattle.count_eval.proofs.laws.Goals as goal

pub returns-clause-covered : goal.returns-clause-covered
returns-clause-covered g c = λ w f s. let k = formula_good g.Q.Quantity.kind g.Q.Quantity.covers g.met.Q.Quantity.lawful w f s in
    record { found = k.found; none = k.none tt }

pub returns-clause-matched : goal.returns-clause-matched
returns-clause-matched g c = matched_has_value

pub returns-clause-zeros : goal.returns-clause-zeros
returns-clause-zeros g c = zeros_are_covered g.Q.Quantity.kind g.Q.Quantity.covers g.met.Q.Quantity.lawful

pub returns-clause-keeps : goal.returns-clause-keeps
returns-clause-keeps g c = zero_keeps_values g.Q.Quantity.kind

pub returns-clause-same : goal.returns-clause-same
returns-clause-same g c = matched_is_same g.Q.Quantity.kind g.Q.Quantity.covers g.met.Q.Quantity.lawful

pub returns-clause-model : goal.returns-clause-model
returns-clause-model g c = λ gr ok m fit positive used w all k f d ds main s within zero n e.
    let law = g.met.Q.Quantity.lawful in
    law.keeps.equal n (value_of w f s) (value_of (weights_of m) f s)
    ((formula_good g.Q.Quantity.kind g.Q.Quantity.covers law w f s).found n
    (sym (either_rule g.Q.Quantity.kind g.Q.Quantity.covers law zero gr ok m fit positive used w all k f d ds main s within) ∙ e)).1
    (matched_has_value gr ok m fit positive used w all k f d ds main s within).1

pub returns-clause-effect : goal.returns-clause-effect
returns-clause-effect g c = λ gr ok m fit positive used w all k f d ds main t equals s within zero n e.
    g.met.Q.Quantity.lawful.keeps.equal n (value_of (weights_of m) f s) (effect m t s)
    (returns-clause-model g c gr ok m fit positive used w all k f d ds main s within zero n e)
    (equals m fit positive s within)
