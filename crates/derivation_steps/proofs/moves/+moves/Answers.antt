use Rattle.std.proofs.Common.{◌≡◌, ◌∙◌, ap, sym, subst, map, rules}
use Rattle.std.specs.Prelude.{IfOk}
use Rattle.do_derivation.specs.Plans.{Plan}
use Rattle.do_derivation.specs.declared.steps.Step.{the_lemmas}
use Rattle.do_derivation.specs.Vocabulary.{step_view}
use Rattle.derivation_steps.specs.Moves.{moves_of}
use Rattle.derivation_steps.proofs.moves.+moves.Goals as goal

pub moves_of-returns-in-Ok-moves_of : goal.moves_of-returns-in-Ok-moves_of
moves_of-returns-in-Ok-moves_of t c =
    let e : step_view c.args.step.now ≡ Plan.At c.in-At.i (step_view c.in-At.inner.value) = search (rules, the_lemmas) in
    let m : map step_view c.in-Ok-moves_of.moves.items ≡ moves_of (step_view c.in-At.inner.value) = c.in-Ok-moves_of.ensures
    ∙ ap (λ s. moves_of (step_view s)) c.deref.ensures in
    subst (λ x. IfOk c.on_child.result (λ v. map step_view v.items ≡ x)) (ap (map (Plan.At c.in-At.i)) m ∙ sym (ap moves_of e)) c.on_child.ensures
