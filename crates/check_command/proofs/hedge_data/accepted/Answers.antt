use Rattle.std.proofs.Common.{◌≡◌, ℕ, true, length, refl}
use Rattle.mixed_graph.specs.Vocabulary.{graph_of}
use Rattle.mixed_graph.proofs.MaskLaws.{below_from}
use Rattle.finite_models.specs.Vocabulary.{meaning}
use Rattle.hedge.proofs.Shaping.{sets_form_hedge}
use Rattle.prob_expr.specs.Vocabulary.{AgreeUnderAll, masks_of, is_listed, effect_on, target_view}
use Rattle.prob_expr.proofs.Excluded.{experiments_exclude_formula}
use Rattle.counter_models.specs.Vocabulary.{IsHarmlessTo}
use Rattle.counter_models.proofs.Excluded.{differ_on, no_formula}
use Rattle.check_command.proofs.Deciding.{some_sets}
use Rattle.check_command.proofs.Harmless.{each_harmless, harmless_from}
use Rattle.check_command.proofs.Using.{sets_apart}
use Rattle.check_command.proofs.hedge_data.accepted.Goals as goal

pub returns : goal.returns
returns c =
    let g = c.args.seen.now.graph in
    let t = c.args.target.now in
    let h = c.args.hedge.now in
    let x = t.x.bits in
    let y = t.y.bits in
    let zs = masks_of c.args.experiments.now in
    let apart = sets_apart (length c.args.seen.now.names) (target_view t) c.requires.target in
    let pair = c.laws.ensures.pairs (graph_of g) g.valid g.small x y h c.requires.hedge in
    let models = c.laws.ensures.counter (graph_of g) g.valid g.small x y h c.requires.hedge apart pair.0 pair.1 in
    let low = below_from g.n h.small.bits (λ v i. c.requires.hedge.sets.low v (c.requires.hedge.sets.small_inside v i)) in
    let harmless : (z : ℕ) → is_listed z zs ≡ true → IsHarmlessTo h z = λ z l. harmless_from h g.n g.small low z (each_harmless h zs c.requires.harmless z l) in
    let under : AgreeUnderAll zs (meaning (graph_of g) pair.0.first) (meaning (graph_of g) pair.0.second) = λ z l.
    c.laws.ensures.experiments (graph_of g) g.valid g.small x y h c.requires.hedge apart pair.0 pair.1 z (harmless z l) in (
      refl,
      refl,
      refl,
      some_sets c.args.experiments.now c.is_empty.result c.is_empty.ensures,
      record {
        forms = sets_form_hedge (graph_of g) x y h g.valid g.small c.requires.hedge;
        evidence = c.requires.hedge;
        harmless = harmless;
        pair = pair.0;
        models = models;
        under = under;
        no_formula = no_formula (graph_of g) g.valid x y pair.0 models;
        no_formula_over = experiments_exclude_formula (graph_of g) g.valid (meaning (graph_of g) pair.0.first) (meaning (graph_of g) pair.0.second)
            models.first.fits models.second.fits models.first.positive models.second.positive models.observed zs under (effect_on x y)
            (differ_on (graph_of g) g.valid x y pair.0 models);
      },
    )
