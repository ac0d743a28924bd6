use Rattle.std.proofs.Common.{arith}
use Rattle.mixed_graph.specs.Vocabulary.{graph_of}
use Rattle.prob_expr.specs.Vocabulary.{masks_of}
use Rattle.identify.proofs.RightAnswers.{target_from, if_ok}
use Rattle.surrogates.proofs.Answered.{derived_is_surrogate, surrogate_is_formed}
use Rattle.surrogates.specs.Answers.{IsAnswerWith}
use Rattle.surrogates.proofs.RightAnswers.{if_formula, right, exact, common, plain, shallow_steps, shallow_formula, stopped, blocked}
use Rattle.surrogates.proofs.identifying.identify_with.Goals as goal

pub returns : goal.returns
returns c =
    let g = graph_of c.args.g.now in
    let valid = c.args.g.now.valid in
    let small = c.args.g.now.small in
    let x = c.args.x.bits in
    let y = c.args.y.bits in
    let off = c.requires.apart in
    let zs = masks_of c.args.experiments.now in
    let sets = c.requires.experiments in
    let target = target_from g x c.args.y.bits c.requires.x_within c.requires.y_within off c.requires.some (omega arith) in
    let r = c.answer.result in
    let found = c.answer.ensures.answer in
    record {
      right = if_ok r (IsAnswerWith g zs x y) _ (right g valid small x y target off zs sets) found;
      exact = if_ok r (IsAnswerWith g zs x y) _ (exact g valid small x y target off zs sets) found;
      formula = if_formula g zs x y r _ (λ f t i. derived_is_surrogate g zs x y f t i) found;
      derived = if_formula g zs x y r _ (λ f t i. i) found;
      formed = if_formula g zs x y r _ (λ f t i. surrogate_is_formed g valid zs sets x y target f (derived_is_surrogate g zs x y f t i)) found;
      shallow_steps = if_formula g zs x y r _ (λ f t i. shallow_steps g valid zs sets x y target f t i) found;
      shallow_formula = if_formula g zs x y r _ (λ f t i. shallow_formula g zs x y f t i) found;
      few = c.answer.ensures.few;
      plain = λ f i. if_ok r (IsAnswerWith g zs x y) _ (plain g valid small x y target off zs sets f i) found;
      stopped = if_ok r (IsAnswerWith g zs x y) _ (stopped g zs x y) found;
      common = if_ok r (IsAnswerWith g zs x y) _ (common g valid small x y target off zs sets) found;
      blocked = if_ok r (IsAnswerWith g zs x y) _ (blocked g zs x y) found;
    }
