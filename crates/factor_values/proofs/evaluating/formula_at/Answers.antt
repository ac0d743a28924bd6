use Rattle.std.proofs.Common.{◌∙◌, map, false, arith}
use Rattle.std.proofs.lemmas.List.{length-map}
use Rattle.prob_expr.specs.View.{view}
use Rattle.count_eval.specs.Rules.{rule}
use Rattle.count_eval.specs.Vocabulary.{weights_in}
use Rattle.count_eval.proofs.Accepted.{accepted_below, accepted_ordered}
use Rattle.factor_values.proofs.Walking.{main_is}
use Rattle.factor_values.proofs.evaluating.formula_at.Goals as goal

pub value_at-requires-clause-scope : goal.value_at-requires-clause-scope
value_at-requires-clause-scope g c =
    let ok = c.requires.formula in
    record {
      few = ok.few;
      table = c.requires.table;
      ordered = accepted_ordered c.args.n (record { defs = map view c.args.defs.now; main = view c.args.main.now }) ok.accepted;
      used = ok.defs;
      held = λ j s p h. absurd (c.requires.none j s p h);
    }

pub value_at-requires-clause-limit : goal.value_at-requires-clause-limit
value_at-requires-clause-limit g c = let long = length-map c.args.defs.now view in omega (arith, long)

pub value_at-requires-clause-below : goal.value_at-requires-clause-below
value_at-requires-clause-below g c =
    accepted_below c.args.n (record { defs = map view c.args.defs.now; main = view c.args.main.now }) c.requires.formula.accepted

pub returns : goal.returns
returns g c = c.value_at.ensures
    ∙ main_is (rule g.Q.Quantity.kind false) (weights_in c.args.n (g.L.Lookup.counts c.args.lookup.now)) (map view c.args.defs.now) (view c.args.main.now) c.args.cell
