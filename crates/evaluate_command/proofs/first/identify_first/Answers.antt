use Rattle.std.proofs.Common.{◌≡◌, sym, ap, subst, ◌∙◌}
use Rattle.mixed_graph.specs.Vocabulary.{texts}
use Rattle.diagram.specs.declared.diagram.Diagram.{Diagram}
use Rattle.diagram.specs.Vocabulary.{Names}
use Rattle.diagram.proofs.Lent.{lent_owned}
use Rattle.evaluate_command.specs.Firsts.{IsFirst}
use Rattle.evaluate_command.specs.Ways.{Way, by_adjusting, by_condition, way_of}
use Rattle.evaluate_command.specs.declared.first.First.{First}
use Rattle.evaluate_command.proofs.first.identify_first.Goals as goal

-- what is given for a way and for lists that are lent is given for those of the request
as_asked : (d : Diagram) (way asked : Way) (x y on of : Names) → way ≡ asked → x ≡ on → y ≡ of → (first : First)
    → IsFirst way d x y first → IsFirst asked d on of first
as_asked d way asked x y on of e f g first h =
    subst (λ (k : Names). IsFirst asked d on k first) g (subst (λ (k : Names). IsFirst asked d k y first) f
    (subst (λ (w : Way). IsFirst w d x y first) e h))

pub returns-in-Procedure : goal.returns-in-Procedure
returns-in-Procedure c = as_asked c.args.diagram.now _ _ _ _ _ _ (ap way_of (sym c.in-Procedure.is)) (lent_owned _ _ c.as_deref-x.ensures.value)
    (lent_owned _ _ c.as_deref-y.ensures.value) c.by_procedure.result c.by_procedure.ensures

pub returns-in-Adjusting : goal.returns-in-Adjusting
returns-in-Adjusting c = as_asked c.args.diagram.now _ _ _ _ _ _
    (ap (λ s. by_adjusting c.in-Adjusting.back_door (texts s)) c.as_slice.ensures.value ∙ ap way_of (sym c.in-Adjusting.is))
    (lent_owned _ _ c.as_deref-x.ensures.value) (lent_owned _ _ c.as_deref-y.ensures.value) c.by_adjusting.result c.by_adjusting.ensures

pub returns-in-Given : goal.returns-in-Given
returns-in-Given c = as_asked c.args.diagram.now _ _ _ _ _ _
    (ap (λ s. by_condition c.in-Given.short (texts s)) c.as_slice-in-Given.ensures.value ∙ ap way_of (sym c.in-Given.is))
    (lent_owned _ _ c.as_deref-x.ensures.value) (lent_owned _ _ c.as_deref-y.ensures.value) c.by_condition.result c.by_condition.ensures
