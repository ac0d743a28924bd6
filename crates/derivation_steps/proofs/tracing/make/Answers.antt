use Rattle.std.proofs.Common.{Option, refl, sym, subst}
use Rattle.std.specs.Prelude.{IfSome}
use Rattle.mixed_graph.specs.Vocabulary.{graph_of}
use Rattle.prob_expr.specs.Vocabulary.{masks_of}
use Rattle.prob_expr.specs.Tree.{Tree}
use Rattle.prob_expr.specs.View.{view}
use Rattle.do_derivation.specs.Vocabulary.{Makes, step_view}
use Rattle.do_derivation.proofs.TreeTerms.{terms_of}
use Rattle.derivation_steps.specs.Asked.{IsAskedIn}
use Rattle.derivation_steps.specs.Questions.{Asked, IsBelow}
use Rattle.derivation_steps.proofs.Asking.{question_below, step_told}
use Rattle.derivation_steps.proofs.tracing.make.Goals as goal

pub asked_in-requires : goal.asked_in-requires
asked_in-requires c =
    let g = graph_of c.args.g.now in
    let lemmas = masks_of c.args.lemmas.now in
    let p = step_view c.args.step in
    let e = view c.args.before.now in
    let made : Makes g lemmas p e (view c.in_ok-after.after) =
    subst (λ (t : Tree). Makes g lemmas p t (view c.in_ok-after.after)) c.in_ok-start.ensures c.in_ok-after.ensures in
    subst (λ (o : Option Asked). IfSome o (IsBelow c.args.g.now.n)) (sym c.question_of-question.ensures)
    (question_below g lemmas p e (view c.in_ok-after.after) (terms_of c.args.g.now.n e c.requires.terms) made)

pub returns : goal.returns
returns c =
    let g = graph_of c.args.g.now in
    let lemmas = masks_of c.args.lemmas.now in
    let p = step_view c.args.step in
    let e = view c.args.before.now in
    let made : Makes g lemmas p e (view c.in_ok-after.after) =
    subst (λ (t : Tree). Makes g lemmas p t (view c.in_ok-after.after)) c.in_ok-start.ensures c.in_ok-after.ensures in
    record {
      step = refl;
      makes = made;
      asked = step_told g c.asked_in.result lemmas p e (view c.in_ok-after.after) made
          (subst (λ (o : Option Asked). IsAskedIn g o c.asked_in.result) c.question_of-question.ensures c.asked_in.ensures);
    }
