use Rattle.std.proofs.Common.{◌≡◌, true, ap, ◌∙◌, subst, rules}
use Rattle.std.proofs.Common.{[], sym, ap₂}
use Rattle.mixed_graph.specs.Vocabulary.{has, graph_of, union, minus}
use Rattle.do_rules.specs.declared.rules.Rule.TheVariants.{Two}
use Rattle.do_rules.specs.Vocabulary.{IsBlockedFor, IsOpenFor}
use Rattle.prob_expr.specs.Tree.{prob}
use Rattle.prob_expr.specs.declared.expr.Expr.{Prob}
use Rattle.prob_expr.specs.View.{view}
use Rattle.do_derivation.specs.Plans.{Move}
use Rattle.do_derivation.specs.Steps.{IsMade, RowRefuses}
use Rattle.do_derivation.specs.Table.{row, is_part}
use Rattle.do_derivation.specs.declared.faults.StepFault.TheVariants.{Sets, Unblocked}
use Rattle.do_derivation.specs.declared.moves.SetMove.TheVariants as set_move
use Rattle.do_derivation.proofs.Asked.{asked_made, asked_refused}
use Rattle.do_derivation.proofs.Views.{view-Prob, given_sets}
use Rattle.do_derivation.proofs.rule_moves.rule2_do.Goals as goal

pub rule2-requires-clause-sets : goal.rule2-requires-clause-sets
rule2-requires-clause-sets c = given_sets c.args.g.now.n c.args.e c.in-Prob.of c.in-Prob.doing c.in-Prob.given c.args.z c.difference-rest.result.bits
    c.in-Prob.is c.requires.terms (search rules) c.difference-rest.ensures.mask

pub returns-in-Ok : goal.returns-in-Ok
returns-in-Ok c =
    let seen = ap view c.in-Prob.is ∙ view-Prob c.in-Prob.of c.in-Prob.doing c.in-Prob.given in
    let asked : is_part c.args.z.bits c.in-Prob.given.bits ≡ true = search rules in
    record {
      row = subst (λ e. IsMade (graph_of c.args.g.now) (row c.args.g.now.n [] (Move.WithSet set_move.Rule2Do c.args.z.bits) e)
          (view (Prob c.in-Prob.of c.union.result c.difference-rest.result))) (sym seen)
          (asked_made (graph_of c.args.g.now) Two (c.in-Prob.doing.bits) c.in-Prob.of.bits c.args.z.bits (minus c.in-Prob.given.bits c.args.z.bits)
          (prob c.in-Prob.of.bits (union c.in-Prob.doing.bits c.args.z.bits) (minus c.in-Prob.given.bits c.args.z.bits)) Sets
          (is_part c.args.z.bits c.in-Prob.given.bits) (view (Prob c.in-Prob.of c.union.result c.difference-rest.result)) asked
          (subst (λ r. IsBlockedFor Two (graph_of c.args.g.now) (has c.in-Prob.doing.bits) (has c.in-Prob.of.bits) (has c.args.z.bits) (has r))
          c.difference-rest.ensures.mask c.in-Ok.ensures.apart)
          (view-Prob c.in-Prob.of c.union.result c.difference-rest.result
          ∙ ap₂ (λ r j. prob c.in-Prob.of.bits j r) c.difference-rest.ensures.mask c.union.ensures.mask));
    }

pub returns-in-Err : goal.returns-in-Err
returns-in-Err c =
    let seen = ap view c.in-Prob.is ∙ view-Prob c.in-Prob.of c.in-Prob.doing c.in-Prob.given in
    let asked : is_part c.args.z.bits c.in-Prob.given.bits ≡ true = search rules in
    record {
      row = subst (λ e. RowRefuses (graph_of c.args.g.now) (row c.args.g.now.n [] (Move.WithSet set_move.Rule2Do c.args.z.bits) e) (Unblocked c.in-Err.path)) (sym seen)
          (asked_refused (graph_of c.args.g.now) Two (c.in-Prob.doing.bits) c.in-Prob.of.bits c.args.z.bits (minus c.in-Prob.given.bits c.args.z.bits)
          (prob c.in-Prob.of.bits (union c.in-Prob.doing.bits c.args.z.bits) (minus c.in-Prob.given.bits c.args.z.bits)) Sets
          (is_part c.args.z.bits c.in-Prob.given.bits) c.in-Err.path asked
          (subst (λ r. IsOpenFor Two (graph_of c.args.g.now) (has c.in-Prob.doing.bits) (has c.in-Prob.of.bits) (has c.args.z.bits) (has r) c.in-Err.path)
          c.difference-rest.ensures.mask c.in-Err.ensures.open));
    }
