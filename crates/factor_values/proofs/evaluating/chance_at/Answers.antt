use Rattle.std.proofs.Common.{◌∙◌, [], None, false, ap, sym, subst}
use Rattle.std.proofs.lemmas.Bool.{false≢true}
use Rattle.mixed_graph.proofs.MaskLaws.{has_none}
use Rattle.prob_expr.specs.Tree.{Tree, prob}
use Rattle.count_eval.specs.Laws.{IsUsed}
use Rattle.count_eval.specs.Programs.{IsBelow}
use Rattle.count_eval.specs.Rules.{rule}
use Rattle.count_eval.specs.Spots.{value_at}
use Rattle.count_eval.specs.Vocabulary.{is_used, weights_in}
use Rattle.count_eval.proofs.Variants.{view-Prob}
use Rattle.factor_values.proofs.Walking.{main_is}
use Rattle.factor_values.proofs.evaluating.chance_at.Goals as goal

pub value_at-requires-clause-scope : goal.value_at-requires-clause-scope
value_at-requires-clause-scope g c = record {
  few = c.requires.few;
  table = c.requires.table;
  ordered = tt;
  used = tt;
  held = λ j s p h. absurd (c.requires.none j s p h);
}

pub value_at-requires-clause-below : goal.value_at-requires-clause-below
value_at-requires-clause-below g c = subst (λ (e : Tree). IsBelow 0 e) (sym (view-Prob c.args.given (record { bits = 0 }) (record { bits = 0 }))) tt

pub value_at-requires-clause-used : goal.value_at-requires-clause-used
value_at-requires-clause-used g c =
    subst (IsUsed (is_used (g.L.Lookup.counts c.args.lookup.now))) (sym (view-Prob c.args.given (record { bits = 0 }) (record { bits = 0 })))
    (c.requires.given, λ v e. absurd (false≢true (sym (has_none v) ∙ e)))

pub returns : goal.returns
returns g c =
    let k = rule g.Q.Quantity.kind false in let w = weights_in c.args.n (g.L.Lookup.counts c.args.lookup.now) in
    c.value_at.ensures
    ∙ ap (value_at k w [] (record { def = None; node = 0; cell = c.args.cell })) (view-Prob c.args.given (record { bits = 0 }) (record { bits = 0 }))
    ∙ main_is k w [] (prob c.args.given.bits 0 0) c.args.cell
