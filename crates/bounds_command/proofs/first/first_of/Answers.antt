use Rattle.std.proofs.Common.{◌∙◌, sym, ap}
use Rattle.mixed_graph.specs.Vocabulary.{texts}
use Rattle.diagram.proofs.Lent.{lent_owned}
use Rattle.bounds_command.specs.Ways.{by_instruments, by_adjusting, way_of}
use Rattle.bounds_command.proofs.FirstReplies.{as_asked}
use Rattle.bounds_command.proofs.first.first_of.Goals as goal

pub returns-in-Instruments : goal.returns-in-Instruments
returns-in-Instruments c = as_asked _ c.args.diagram.now _ _ _ _ _ _
    ((λ i. by_instruments (texts (c.as_slice.ensures.value i)) (texts (c.as_slice-in-Instruments.ensures.value i)) (texts (c.as_slice-in-Instruments-2.ensures.value i)))
    ∙ ap way_of (sym c.in-Instruments.is))
    (lent_owned _ _ c.as_deref-x.ensures.value) (lent_owned _ _ c.as_deref-y.ensures.value) c.by_instruments.result c.by_instruments.ensures

pub returns-in-Adjusting : goal.returns-in-Adjusting
returns-in-Adjusting c = as_asked _ c.args.diagram.now _ _ _ _ _ _
    (ap (λ s. by_adjusting (texts s)) c.as_slice-in-Adjusting.ensures.value ∙ ap way_of (sym c.in-Adjusting.is))
    (lent_owned _ _ c.as_deref-x.ensures.value) (lent_owned _ _ c.as_deref-y.ensures.value) c.by_adjusting.result c.by_adjusting.ensures
