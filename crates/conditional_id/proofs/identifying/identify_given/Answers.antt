use Rattle.mixed_graph.specs.Vocabulary.{graph_of}
use Rattle.prob_expr.specs.Vocabulary.{target_view}
use Rattle.identify.proofs.RightAnswers.{if_ok}
use Rattle.conditional_id.proofs.Answered.{conditional_is_right, conditional_is_shallow, derived_is_conditional}
use Rattle.conditional_id.specs.Answers.{IsAnswerGiven}
use Rattle.conditional_id.proofs.RightAnswers.{right, exact_formula, joint_effect, joint_models, joint_no_formula, plain_of, plain_sets}
use Rattle.conditional_id.proofs.RightAnswers.{if_formula, if_joint}
use Rattle.conditional_id.proofs.identifying.identify_given.Goals as goal

pub returns : goal.returns
returns c =
    let g = graph_of c.args.g.now in
    let valid = c.args.g.now.valid in
    let few = c.args.g.now.small in
    let t = target_view c.args.t.now in
    let k = c.answer.ensures.target in
    let r = c.answer.result in
    let found = c.answer.ensures.answer in
    record {
      right = if_ok r (IsAnswerGiven g t) _ (right g valid t k few) found;
      exact_formula = if_ok r (IsAnswerGiven g t) _ (exact_formula g valid t k few) found;
      exact = c.answer.ensures.exact;
      formula = if_formula g t r _ (λ f d i few. derived_is_conditional g t f d i) found;
      derived = if_formula g t r _ (λ f d i few. i) found;
      plain = λ e. if_formula g t r _ (λ f d i few. plain_of g t e f d i) found;
      accepted = if_formula g t r _ (λ f d i few. (conditional_is_right g valid t k f d i).accepted) found;
      formed = if_formula g t r _ (λ f d i few. (conditional_is_right g valid t k f d i).formed) found;
      do_free = if_formula g t r _ (λ f d i few. (conditional_is_right g valid t k f d i).do_free) found;
      names = if_formula g t r _ (λ f d i few. (conditional_is_right g valid t k f d i).names) found;
      effect = if_formula g t r _ (λ f d i few. (conditional_is_right g valid t k f d i).effect) found;
      shallow = if_formula g t r _ (λ f d i few. conditional_is_shallow g valid t k f d i) found;
      few = if_formula g t r _ (λ f d i few. few) found;
      joint = if_joint g t r _ (λ x y b h pair i is. joint_effect g valid t k x y b h pair i) found;
      shown = if_joint g t r _ (λ x y b h pair i is. i) found;
      plain_joint = λ e. if_joint g t r _ (λ x y b h pair i is. plain_sets g t e x y b h pair i) found;
      counter = if_joint g t r _ (λ x y b h pair i is. is.counter) found;
      models = if_joint g t r _ (λ x y b h pair i is. joint_models g valid t k few x y b h pair i is.counter) found;
      no_formula = if_joint g t r _ (λ x y b h pair i is. joint_no_formula g valid t k few x y b h pair i is.counter) found;
    }
