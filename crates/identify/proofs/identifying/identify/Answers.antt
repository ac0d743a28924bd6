use Rattle.std.proofs.Common.{arith}
use Rattle.mixed_graph.specs.Vocabulary.{graph_of}
use Rattle.counter_models.proofs.Final.{counter}
use Rattle.identify.specs.declared.wanted.Wanted.TheVariants.{Derivation}
use Rattle.identify.specs.Answers.{IsAnswerOf}
use Rattle.identify.proofs.RightAnswers.{target_from, if_ok, if_formula, if_hedge, right, right_formula, exact, shallow_steps, shallow_formula}
use Rattle.identify.proofs.identifying.identify.Goals as goal

pub returns : goal.returns
returns c =
    let g = graph_of c.args.g.now in
    let valid = c.args.g.now.valid in
    let small = c.args.g.now.small in
    let x = c.args.x.bits in
    let y = c.args.y.bits in
    let off = c.requires.apart in
    let target = target_from g x c.args.y.bits c.requires.x_within c.requires.y_within off c.requires.some (omega arith) in
    let r = c.answer.result in
    let found = c.answer.ensures.answer in
    record {
      right = if_ok r (IsAnswerOf Derivation g x y) _ (right g valid small x y target off) found;
      exact = if_ok r (IsAnswerOf Derivation g x y) _ (exact g valid small x y target off) found;
      derived = if_formula g x y r _ (λ f d i. i) found;
      accepted = if_formula g x y r _ (λ f d i. (right_formula g valid x y target f d i).accepted) found;
      formed = if_formula g x y r _ (λ f d i. (right_formula g valid x y target f d i).formed) found;
      do_free = if_formula g x y r _ (λ f d i. (right_formula g valid x y target f d i).do_free) found;
      names = if_formula g x y r _ (λ f d i. (right_formula g valid x y target f d i).names) found;
      effect = if_formula g x y r _ (λ f d i. (right_formula g valid x y target f d i).effect) found;
      shallow_steps = if_formula g x y r _ (λ f d i. shallow_steps g valid x y target f d i) found;
      shallow_formula = if_formula g x y r _ (λ f d i. shallow_formula g x y f d i) found;
      few = c.answer.ensures.few;
      stop = if_hedge g x y r _ (λ h pair i. i.0) found;
      hedge = if_hedge g x y r _ (λ h pair i. i.2) found;
      «data» = if_hedge g x y r _ (λ h pair i. i.1) found;
      pair = if_hedge g x y r _ (λ h pair i. i.3) found;
      counter = if_hedge g x y r _ (λ h pair i. counter g valid small x y h i.2 off pair i.3) found;
    }
