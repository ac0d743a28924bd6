use Rattle.std.proofs.Common.{◌≡◌, true, length, None, sym, subst, ap, ◌∙◌, rules}
use Rattle.std.proofs.lemmas.Result.{err_from_is_err_and}
use Rattle.prob_expr.specs.Vocabulary.{cap, term_of, masks_of, is_allowed, formula_view, target_view}
use Rattle.prob_expr.specs.declared.expr.Expr.{Prob}
use Rattle.mixed_graph.specs.Vocabulary.{graph_of}
use Rattle.prob_expr.specs.View.{view}
use Rattle.do_derivation.specs.Accepts.{AcceptsNot}
use Rattle.do_derivation.specs.Answers.{StopsAtStep}
use Rattle.do_derivation.specs.Steps.{Makes}
use Rattle.do_derivation.specs.View.{step_view, derivation_view}
use Rattle.do_derivation.proofs.Accepted.{accepted_is_effect}
use Rattle.do_derivation.proofs.Defining
use Rattle.do_derivation.proofs.Views.{view-Prob}
use Rattle.do_derivation.proofs.checking.check_with.Goals as goal

pub returns-in_err-run-clause-fault : goal.returns-in_err-run-clause-fault
returns-in_err-run-clause-fault c =
    let term = view-Prob c.args.target.now.y c.args.target.now.x c.args.target.now.given in
    let p = err_from_is_err_and c.from_residual-in_err-run.result c.from_residual-in_err-run.ensures.1 in
    let many : c.len.result ≡ length c.args.d.now.lemmas.items = search rules in
    let count : c.cap.result ≡ cap (length (derivation_view c.args.d.now).lemmas) = c.cap.ensures
    ∙ ap cap (many ∙ sym (Defining.length_lemmas c.args.d.now.lemmas.items)) in
    rw (p.1, p.2)
    (Defining.unless_weaker c.in_err-run.field-0.0
    (StopsAtStep (graph_of c.args.g.now) (masks_of c.in_ok-sets.sets.items) (step_view c.args.d.now.main)
    (view (Prob c.args.target.now.y c.args.target.now.x c.args.target.now.given)) (view c.args.f.now.main) None c.cap.result c.in_err-run.field-0.0)
    (AcceptsNot (graph_of c.args.g.now) (masks_of c.args.allowed.now) (target_view c.args.target.now) (formula_view c.args.f.now)
    (derivation_view c.args.d.now) c.in_err-run.field-0.0)
    (λ h. Defining.main_fails (graph_of c.args.g.now) (masks_of c.args.allowed.now) (target_view c.args.target.now) (formula_view c.args.f.now)
    (derivation_view c.args.d.now) c.in_ok-sets.sets.items c.in_ok-sets.ensures.sets c.in_ok-sets.ensures.define c.in_err-run.field-0.0
    (subst (λ n. StopsAtStep (graph_of c.args.g.now) (masks_of c.in_ok-sets.sets.items) (step_view c.args.d.now.main)
    (term_of (target_view c.args.target.now)) (view c.args.f.now.main) None n c.in_err-run.field-0.0) count
    (subst (λ e. StopsAtStep (graph_of c.args.g.now) (masks_of c.in_ok-sets.sets.items) (step_view c.args.d.now.main) e (view c.args.f.now.main)
    None c.cap.result c.in_err-run.field-0.0) term h)))
    c.in_err-run.ensures.fault)

pub returns-then-is_allowed-clause-effect : goal.returns-then-is_allowed-clause-effect
returns-then-is_allowed-clause-effect c =
    let term = view-Prob c.args.target.now.y c.args.target.now.x c.args.target.now.given in
    let listed : is_allowed (masks_of c.args.allowed.now) (formula_view c.args.f.now) ≡ true = search rules in
    let accepted = Defining.accepts (graph_of c.args.g.now) (masks_of c.args.allowed.now) (target_view c.args.target.now) (formula_view c.args.f.now)
    (derivation_view c.args.d.now) c.in_ok-sets.sets.items c.in_ok-sets.ensures.sets c.in_ok-sets.ensures.define
    c.requires.sets (subst (λ e. Makes (graph_of c.args.g.now) (masks_of c.in_ok-sets.sets.items) (step_view c.args.d.now.main) e (view c.args.f.now.main))
    term c.in_ok-run.ensures.made) listed in
    (accepted_is_effect (graph_of c.args.g.now) c.args.g.now.valid (masks_of c.args.allowed.now) (target_view c.args.target.now) (formula_view c.args.f.now)
    (derivation_view c.args.d.now) c.requires.target accepted).1
