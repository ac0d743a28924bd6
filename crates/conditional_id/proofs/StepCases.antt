-- A step that is no list of steps.
use Rattle.std.proofs.Common.{◌≡◌, refl, sym, subst, ap, ◌∙◌}
use Rattle.std.specs.Global.{Vec}
use Rattle.do_derivation.specs.Plans.{Plan}
use Rattle.do_derivation.specs.declared.steps.Step.{Then, roll-Step}
use Rattle.do_derivation.specs.declared.steps.Step.TheFolds.{fold_out-Step, map-Step}
use Rattle.do_derivation.specs.declared.steps.Step.TheOpen.{Step-F}
use Rattle.do_derivation.specs.declared.steps.Step.TheViews.{out-Step, roll-out-Step, rolls-Then}
use Rattle.do_derivation.specs.Vocabulary.{node_view, step_view}
use Rattle.do_derivation.specs.declared.steps.Step.{Step}
use Rattle.identification_theory.specs.Vocabulary.{single}
use Rattle.conditional_id.specs.Conditionals.{steps_of}

pub alone_from : (s : Step) → ((l : Vec Step) → s ≡ Then l → ⊥) → steps_of (step_view s) ≡ single (step_view s)
alone_from s other = subst (λ p. steps_of p ≡ single p) (sym (fold_out-Step Plan node_view s)) (go (out-Step s) refl)
  where
    go : (o : Step-F Step) → out-Step s ≡ o → steps_of (node_view (map-Step Step Plan step_view o)) ≡ single (node_view (map-Step Step Plan step_view o))
    go (Step-F.Make m) e = refl
    go (Step-F.At i b) e = refl
    go (Step-F.Then l) e = absurd (other l (sym (roll-out-Step s) ∙ (ap roll-Step e ∙ rolls-Then l)))
