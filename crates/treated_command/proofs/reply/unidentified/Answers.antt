use Rattle.std.proofs.Common.{◌<◌, sym, ap, subst}
use Rattle.mixed_graph.specs.Vocabulary.{has, IsAncestor, union, Within, Apart, graph_of}
use Rattle.finite_models.proofs.Bools.{not_both}
use Rattle.hedge.specs.Vocabulary.{IsHedge, IsSetOf}
use Rattle.identify.specs.Vocabulary.{is_hedge_alone}
use Rattle.effect_answers.specs.Vocabulary.{IsFoundHedge}
use Rattle.effect_answers.proofs.Found.{found_alone}
use Rattle.treated_hedges.proofs.Excluding.{counter_models_exclude_among}
use Rattle.treated_paths.proofs.Paths.{paths_differ_among, paths_exclude_among}
use Rattle.treated_command.proofs.Sets.{joint_within, joint_apart, joint_some, target_of}
use Rattle.treated_command.proofs.reply.unidentified.Goals as goal

pub identify_formula-requires-clause-y_within : goal.identify_formula-requires-clause-y_within
identify_formula-requires-clause-y_within c =
    let s = c.args.asked.sets in
    subst (λ k. Within c.args.g.now.n (has k)) (sym c.joint_of.ensures) (joint_within c.args.g.now.n s.x.bits s.y.bits s.given.bits c.requires.sets)

pub identify_formula-requires-clause-apart : goal.identify_formula-requires-clause-apart
identify_formula-requires-clause-apart c =
    let s = c.args.asked.sets in
    subst (λ k. Apart (has s.x.bits) (has k)) (sym c.joint_of.ensures) (joint_apart c.args.g.now.n s.x.bits s.y.bits s.given.bits c.requires.sets)

pub identify_formula-requires-clause-some : goal.identify_formula-requires-clause-some
identify_formula-requires-clause-some c =
    let s = c.args.asked.sets in
    subst (λ k. 0 < k) (sym c.joint_of.ensures) (joint_some c.args.g.now.n s.x.bits s.y.bits s.given.bits c.requires.sets c.requires.some)

pub returns-in-Hedge : goal.returns-in-Hedge
returns-in-Hedge c certified =
    let q = graph_of c.args.g.now in let s = c.args.asked.sets in
    let x = s.x.bits in let y = s.y.bits in let z = s.given.bits in
    let h = c.in-Hedge.hedge in let pair = c.in-Hedge.pair in
    let e = c.in_ok-hedge.ensures in
    let found : IsFoundHedge q x (union y z) h pair = subst (λ k. IsFoundHedge q x k h pair) c.joint_of.ensures
    (found_alone q x c.joint_of.result.bits h pair c.in-Hedge.is e.right e.hedge e.stop e.data e.pair) in
    let past : IsSetOf c.ancestors-past.result.bits (IsAncestor q (has (union x z))) =
    subst (λ k. IsSetOf c.ancestors-past.result.bits (IsAncestor q (has k))) c.union.ensures.mask (record {
      sound = λ v. (c.ancestors-past.ensures v).0;
      complete = λ v. (c.ancestors-past.ensures v).1;
    }) in (
      c.requires.asked,
      record {
        by = c.requires.by;
        found = found;
        no_formula = counter_models_exclude_among q c.args.g.now.valid x y z (target_of q x y z c.requires.sets c.requires.before) c.ancestors-past.result.bits past
            pair found.right.counter;
      },
    )

pub returns : goal.returns
returns c certified =
    let q = graph_of c.args.g.now in let s = c.args.asked.sets in
    let target = target_of q s.x.bits s.y.bits s.given.bits c.requires.sets c.requires.before in (
      c.requires.asked,
      record {
        by = c.requires.by;
        no_hedge = λ h is. not_both (is_hedge_alone c.in_ok-hedge.field-0)
            (c.in_ok-hedge.ensures.exact.1 (h, subst (λ k. IsHedge q s.x.bits k h) (sym c.joint_of.ensures) is)) (ap is_hedge_alone c.in-Formula.is);
        differ = paths_differ_among q c.args.g.now.valid s.x.bits s.y.bits s.given.bits target c.requires.by.confounded;
        no_formula = paths_exclude_among q c.args.g.now.valid s.x.bits s.y.bits s.given.bits target c.requires.by.confounded;
      },
    )
